-- The lists whose items may not have their numbers any more, and what the others take.
use Rattle.std.specs.Prelude.{ℕ, ◌==◌, ◌&&◌, ◌||◌, Bool, List, filter, sum_by}
use Rattle.std.specs.List.{list_any}
use Rattle.lx_trees.specs.Siblings.{is_named}
use Rattle.lx_node.specs.Kinds.{is_list}
use Rattle.lx_marks.specs.Marks.{Marked}
use Rattle.lx_forest.specs.Forest.{Forest}
use Rattle.lx_forest.specs.Lookups.{parent_of, children_of, preorder}
use Rattle.lx_forest.specs.Weights.{own_weight}
use Rattle.lx_links.specs.Sums.{items_in, item_characters_in}
use Rattle.lx_blocks.specs.Blocks.{is_at}

-- whether a key is a list's own, or that of one of its children
abbrev pub is_of_list : Forest → ℕ → ℕ → Bool
is_of_list f list k = list == k || is_named (parent_of f k) list

-- whether a list or one of its children is marked itself
abbrev pub is_touched_list : Forest → Marked → ℕ → Bool
is_touched_list f m list = list_any (is_of_list f list) m.leaves || list_any (λ e. e.1 && is_of_list f list e.0) m.elements

-- the lists of the root's tree of which that holds, in preorder
abbrev pub touched_lists : Forest → Marked → List ℕ
touched_lists f m = filter (is_touched_list f m) (filter (is_at is_list f) (preorder f))

-- how many items a list has
abbrev pub items_below : Forest → ℕ → ℕ
items_below f list = sum_by (own_weight items_in f) (children_of f list)

-- how many scalar values are in their strings
abbrev pub characters_below : Forest → ℕ → ℕ
characters_below f list = sum_by (own_weight item_characters_in f) (children_of f list)
