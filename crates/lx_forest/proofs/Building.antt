-- Building from above: a new node at the end of its parent's children, and then the trees below it.
use Rattle.std.proofs.Common.{◌≡◌, ◌≢◌, ℕ, false, None}
use Rattle.lx_trees.specs.Trees.{nil, tree, joined}
use Rattle.lx_trees.proofs.Building as rootedBuilding
use Rattle.lx_forest.specs.Forest.{Label, Forest}
use Rattle.lx_forest.specs.Lookups.{key_of, has}
use Rattle.lx_forest.specs.Edits.{with_new, put_in, last_below}

pub put_in-with_new : (p : ℕ) (l : Label) (f : Forest) → has l.key f ≡ false → put_in p None l.key (with_new l f) ≡ last_below p (tree l nil nil) f
unfolding put_in with_new
put_in-with_new p l f free = rootedBuilding.put_in-with_new key_of p l f free

pub last_below-within : (p : ℕ) (l : Label) (s f : Forest) → has l.key f ≡ false → p ≢ l.key
    → last_below l.key s (last_below p (tree l nil nil) f) ≡ last_below p (tree l s nil) f
last_below-within p l s f free other = rootedBuilding.last_below-within key_of p l s f free other

pub last_below-twice : (p : ℕ) (new more f : Forest) → has p new ≡ false → last_below p more (last_below p new f) ≡ last_below p (joined new more) f
last_below-twice p new more f free = rootedBuilding.last_below-twice key_of p new more f free
