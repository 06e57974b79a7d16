-- How many reads the operations between two trees need. Only this crate's own contracts cite it.
use Rattle.std.specs.Prelude.{ℕ, ◌+◌, ◌*◌, Bool, if◌then◌else◌, length, Option, None, Some}
use Rattle.lx_trees.specs.Trees.{nil, tree}
use Rattle.lx_trees.specs.NamedTrees.{total}
use Rattle.lx_forest.specs.Forest.{Forest}
use Rattle.lx_forest.specs.Lookups.{roots, children_of, trees_of}
use Rattle.lx_render.specs.Render.{tag_of}
use Rattle.lx_reconcile.specs.Allowed.{places_of, is_only, marked_children, staying, unkept}

-- At most so many reads go to these trees of children of a node: none to one that is kept without a mark; else two to the
-- child, two to the last children and one to each child before and after, and what goes to those after; and to one that isn't
-- kept, two for each node of its tree.
abbrev pub reads_in : Forest → (ℕ → Bool) → Option ℕ → Forest → ℕ
reads_in old noted parent nil = 0
reads_in old noted parent (tree label below rest) =
    (if is_only parent (tag_of label.kind label.fields) (places_of label.key None old)
    then (if noted label.key then 4 + length (children_of old label.key) + length (roots below) + reads_in old noted (Some label.key) below else 0)
    else 2 + 2 * (1 + total below))
    + reads_in old noted parent rest

-- to the children of a node that is reconciled
abbrev pub reads_below : Forest → Forest → (ℕ → Bool) → ℕ → ℕ
reads_below old new noted key =
    2 + length (children_of old key) + length (children_of new key) + reads_in old noted (Some key) (trees_of new (children_of new key))

-- the most reads that there are for all that may be done between two trees
abbrev pub most_reads : Forest → Forest → (ℕ → Bool) → ℕ
most_reads old new noted = 8 * (marked_children (staying noted new) old + marked_children noted new + unkept old None new + 1)
