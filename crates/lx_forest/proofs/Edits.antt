-- The laws of the primitive edits: how often a key is there after one, and where it is.
use Rattle.std.proofs.Common.{◌≡◌, ℕ, ◌+◌, ◌<◌, ◌≤◌, true, false, cond, eqb, List, [], Option, None, Some, refl, ◌∙◌, arith}
use Rattle.std.specs.Prelude.{is_some, option_map}
use Rattle.std.specs.Option.{option_or}
use Rattle.lx_trees.specs.NamedTrees.{total}
use Rattle.lx_trees.specs.Siblings.{names_without}
use Rattle.lx_trees.specs.Spots.{Spot}
use Rattle.lx_node.specs.declared.fields.Fields.{Fields}
use Rattle.lx_trees.proofs.NamedTrees.{total-mapped, count-mapped, total-without-alone}
use Rattle.lx_trees.proofs.Spots.{relabelled, spot_below-mapped}
use Rattle.lx_trees.proofs.Subtrees.{count-alone-le}
use Rattle.lx_forest.specs.Forest.{Label, Forest}
use Rattle.lx_forest.specs.Lookups.{key_of, count, has, without, spot, parent_of, is_within, is_attached, IsForest}
use Rattle.lx_forest.specs.Edits.{among_roots, with_new, fields_at, with_fields, take_out, put_in, drop_detached, CanPut, reset, taken, placed}
use Rattle.lx_trees.proofs.Edits as rootedEdits
pub use Rattle.lx_trees.proofs.Edits.{option_map-map, option_map-agree}
use Rattle.lx_forest.proofs.Ordered.{ordered}

-- ---- trees among the first ones

pub count-among_roots : (q k : ℕ) (new f : Forest) → count q (among_roots k new f) ≡ count q new + count q f
count-among_roots q k new f = rootedEdits.count-among_roots key_of q k new f

pub total-among_roots : (k : ℕ) (new f : Forest) → total (among_roots k new f) ≡ total new + total f
total-among_roots k new f = rootedEdits.total-among_roots key_of k new f

pub spot-among_roots : (k : ℕ) (new f : Forest) (q : ℕ) → count q new + count q f < 2 → spot (among_roots k new f) q ≡ option_or (spot new q) (spot f q)
spot-among_roots k new f q h1 = rootedEdits.spot-among_roots key_of k new f q h1

-- ---- how often a key is there

pub count-with_new : (q : ℕ) (l : Label) (f : Forest) → count q (with_new l f) ≡ cond (eqb l.key q) 1 0 + count q f
unfolding with_new
count-with_new q l f = rootedEdits.count-with_new key_of q l f

pub count-with_fields : (q k : ℕ) (fields : Fields) (f : Forest) → count q (with_fields k fields f) ≡ count q f
unfolding with_fields
count-with_fields q k fields f = count-mapped key_of (fields_at k fields) (λ l. refl) q f

pub count-take_out : (q k : ℕ) (f : Forest) → count q (take_out k f) ≡ count q f
unfolding take_out
count-take_out q k f = rootedEdits.count-take_out key_of q k f

-- a key that is there, and in no tree but its own, is in what is left
pub outside_once : (p k : ℕ) (f : Forest) → IsForest f → has p f ≡ true → is_within f k p ≡ false → count p (without k f) ≡ 1
outside_once p k f h1 h2 h3 = rootedEdits.outside_once key_of p k f (ordered h1) h2 h3

pub count-put_in : (q p : ℕ) (before : Option ℕ) (k : ℕ) (f : Forest) → IsForest f → has p f ≡ true → is_within f k p ≡ false
    → count q (put_in p before k f) ≡ count q f
unfolding put_in
count-put_in q p before k f h1 h2 h3 = rootedEdits.count-put_in key_of q p before k f (ordered h1) h2 h3

pub count-drop_detached : (q : ℕ) (f : Forest) → IsForest f → count q (drop_detached f) ≡ cond (is_attached f q) 1 0
unfolding drop_detached
count-drop_detached q f h = grind (arith, h.once q, count-alone-le key_of q 0 f)

-- ---- how many keys there are

pub total-with_new : (l : Label) (f : Forest) → total (with_new l f) ≡ 1 + total f
unfolding with_new
total-with_new l f = rootedEdits.total-with_new key_of l f

pub total-with_fields : (k : ℕ) (fields : Fields) (f : Forest) → total (with_fields k fields f) ≡ total f
unfolding with_fields
total-with_fields k fields f = total-mapped (fields_at k fields) f

pub total-take_out : (k : ℕ) (f : Forest) → total (take_out k f) ≡ total f
unfolding take_out
total-take_out k f = rootedEdits.total-take_out key_of k f

pub total-put_in : (p : ℕ) (before : Option ℕ) (k : ℕ) (f : Forest) → IsForest f → has p f ≡ true → is_within f k p ≡ false
    → total (put_in p before k f) ≡ total f
unfolding put_in
total-put_in p before k f h1 h2 h3 = rootedEdits.total-put_in key_of p before k f (ordered h1) h2 h3

pub total-drop_detached-le : (f : Forest) → total (drop_detached f) ≤ total f
unfolding drop_detached
total-drop_detached-le f = omega (arith, total-without-alone key_of 0 f)

-- ---- where a key is

pub key-spot : (f : Forest) (q : ℕ) (s : Spot Label) → spot f q ≡ Some s → s.label.key ≡ q
key-spot f q s h1 = rootedEdits.key-spot key_of f q s h1

pub is_some-spot : (f : Forest) (q : ℕ) → is_some (spot f q) ≡ has q f
is_some-spot f q = rootedEdits.is_some-spot key_of f q

pub spot-with_new : (l : Label) (f : Forest) (q : ℕ) → IsForest f → has l.key f ≡ false
    → spot (with_new l f) q ≡ cond (eqb q l.key) (Some (record { label = l; parent = None; children = [] })) (spot f q)
unfolding with_new
spot-with_new l f q h1 h2 = rootedEdits.spot-with_new key_of l f q (ordered h1) h2

pub spot-with_fields : (k : ℕ) (fields : Fields) (f : Forest) (q : ℕ) → spot (with_fields k fields f) q ≡ option_map (reset k fields q) (spot f q)
unfolding with_fields
spot-with_fields k fields f q =
    spot_below-mapped key_of (fields_at k fields) (λ l. refl) None f q
    ∙ option_map-agree (relabelled (fields_at k fields)) (reset k fields q) (spot f q) (λ s e. rw (key-spot f q s e))

pub spot-take_out : (k : ℕ) (f : Forest) (q : ℕ) → IsForest f → spot (take_out k f) q ≡ option_map (taken k q) (spot f q)
unfolding take_out
spot-take_out k f q h1 = rootedEdits.spot-take_out key_of k f q (ordered h1)

-- a key without a parent is nobody's child
pub nobodys_child : (f : Forest) (q k : ℕ) (s : Spot Label) → IsForest f → parent_of f k ≡ None → spot f q ≡ Some s → names_without k s.children ≡ s.children
nobodys_child f q k s h1 h2 h3 = rootedEdits.nobodys_child key_of f q k s (ordered h1) h2 h3

pub spot-put_in : (p : ℕ) (before : Option ℕ) (k : ℕ) (f : Forest) (q : ℕ) → IsForest f → CanPut p k f
    → spot (put_in p before k f) q ≡ option_map (placed p before k q) (spot f q)
unfolding put_in
spot-put_in p before k f q h1 h2 = rootedEdits.spot-put_in key_of p before k f q (ordered h1) h2

pub has-root : (f : Forest) → IsForest f → has 0 f ≡ true
has-root f h1 = rootedEdits.has-root key_of f (ordered h1)

pub parent_of-root : (f : Forest) → IsForest f → parent_of f 0 ≡ None
parent_of-root f h1 = rootedEdits.parent_of-root key_of f (ordered h1)

pub same_spot : (s : Spot Label) (parent : Option ℕ) (children : List ℕ) → parent ≡ s.parent → children ≡ s.children
    → record { label = s.label; parent = parent; children = children } ≡ s
same_spot s parent children h1 h2 = rootedEdits.same_spot key_of s parent children h1 h2

pub spot-drop_detached : (f : Forest) (q : ℕ) → IsForest f → spot (drop_detached f) q ≡ cond (is_attached f q) (spot f q) None
unfolding drop_detached
spot-drop_detached f q h = rootedEdits.spot-alone_root key_of f q (ordered h)
