-- How many nodes aren't kept, as they are counted. Only this crate's own contracts cite it.
use Rattle.std.specs.Prelude.{ℕ, ◌≡◌, Bool, true, false, Option, None, Some}
use Rattle.lx_trees.specs.NamedTrees.{total}
use Rattle.lx_forest.specs.Forest.{Forest}
use Rattle.lx_forest.specs.Lookups.{is_attached}
use Rattle.lx_reconcile.specs.Allowed.{unkept}

-- The parent of a node is in the root's tree, or the node itself where it has none.
abbrev pub IsInTree : Forest → Option ℕ → ℕ → Type 0
IsInTree f None key = is_attached f key ≡ true
IsInTree f (Some parent) key = is_attached f parent ≡ true

-- of trees below this parent: the nodes that aren't kept where the parent is, and else all
abbrev pub unkept_in : Bool → Forest → Option ℕ → Forest → ℕ
unkept_in true old parent trees = unkept old parent trees
unkept_in false old parent trees = total trees
