-- What a draft leaves for a commit, and why it can't be committed.
use Rattle.std.specs.Prelude.{ℕ, max, filter, List, [], ◌∷◌, Option, unwrap_or, Result, Ok, ◌≡◌}
use Rattle.std.specs.Option.{option_or}
use Rattle.lx_trees.specs.NamedTrees.{total}
use Rattle.lx_node.specs.declared.cause.Cause.{Cause}
use Rattle.lx_node.specs.declared.cause.Limit.TheVariants.{Depth, Nodes, Characters, KeyCount}
use Rattle.lx_select.specs.declared.selection.Selection.{Selection}
use Rattle.lx_select.specs.declared.selection.Selection.TheVariants as selection
use Rattle.lx_marks.specs.Marks.{Marked}
use Rattle.lx_forest.specs.Forest.{Forest}
use Rattle.lx_forest.specs.Lookups.{has, depth, preorder}
use Rattle.lx_forest.specs.Edits.{drop_detached}
use Rattle.lx_node.specs.Limits.{most_depth, most_nodes, most_characters, most_key}
use Rattle.lx_draft.specs.Working.{Working}
pub use Rattle.lx_draft.specs.Sizes.{characters_of_found, characters_at, tree_characters}
use Rattle.lx_draft.specs.Selecting.{selection_lost}
use Rattle.lx_draft.specs.Faults.{answer, over}

-- ---- the sweep

-- these nodes selected, or nothing where there are none
abbrev pub nodes_or_nothing : List ℕ → Selection
nodes_or_nothing [] = selection.Nothing
nodes_or_nothing (k ∷ ks) = selection.Nodes (k ∷ ks)

-- selected nodes that aren't there any more are selected no longer
abbrev pub kept_nodes : Forest → List ℕ → Selection
kept_nodes f keys = nodes_or_nothing (filter (λ k. has k f) keys)

-- the selection, where selected nodes that aren't there any more are selected no longer
abbrev pub kept_selection : Forest → Selection → Selection
kept_selection f (selection.Nodes keys) = kept_nodes f keys
kept_selection f other = other

-- the draft with the root's tree alone
unfoldable pub swept : Working → Working
swept w = record w { forest = drop_detached w.forest; selection = kept_selection (drop_detached w.forest) w.selection }

-- ---- the limits of a committed state

-- how deep a node is: 0 where it isn't attached
abbrev pub depth_at : Forest → ℕ → ℕ
depth_at f k = unwrap_or (depth f k) 0

-- the greatest that any of these keys measures
abbrev pub greatest : (ℕ → ℕ) → List ℕ → ℕ
greatest measure [] = 0
greatest measure (k ∷ ks) = max (measure k) (greatest measure ks)

-- the greatest depth in the root's tree
abbrev pub tree_depth : Forest → ℕ
tree_depth f = greatest (depth_at f) (preorder f)

-- the first of the limits on nodes, on characters and on keys that a state with this next key is beyond
abbrev pub size_fault : Forest → ℕ → Option Cause
size_fault f next_key =
    option_or (over Nodes most_nodes (total f))
    (option_or (over Characters most_characters (tree_characters f)) (over KeyCount most_key next_key))

-- the first limit that a state with this next key is beyond
abbrev pub limits_fault : Forest → ℕ → Option Cause
limits_fault f next_key = option_or (over Depth most_depth (tree_depth f)) (size_fault f next_key)

-- why a state with this next key can't be committed, the first cause: what its selection has lost, and the limits that
-- it is beyond
abbrev pub state_fault : Forest → Selection → ℕ → Option Cause
state_fault f selection next_key = option_or (selection_lost selection f) (limits_fault f next_key)

-- why a draft can't be frozen, the first cause
abbrev pub freeze_fault : Working → Option Cause
freeze_fault w = state_fault w.forest w.selection w.next_key

-- a draft frozen: swept, unless what is left can't be committed
unfoldable pub freeze_step : Working → Result Working Cause
freeze_step w = answer (freeze_fault (swept w)) (swept w)

-- a frozen draft leaves this forest, selection, marks and next key
abbrev pub Freezes : Working → Forest → Selection → Marked → ℕ → Type 0
Freezes w f selection marks next_key =
    freeze_step w ≡ Ok (record (swept w) { forest = f; selection = selection; marks = marks; next_key = next_key })
