-- Where the points of a range may be, so that commands of lists leave them in the tree.
use Rattle.std.specs.Prelude.{ℕ, ◌≡◌, ◌&&◌, ◌||◌, Bool, true, false, not, List, [], Option, None, Some, Result, Ok, Err}
use Rattle.std.specs.List.{list_any}
use Rattle.lx_trees.specs.Siblings.{is_named}
use Rattle.lx_node.specs.Kinds.{may_hold, is_item, is_list}
use Rattle.lx_node.specs.declared.cause.Cause.{Cause}
use Rattle.lx_node.specs.declared.cause.Point.{Point}
use Rattle.lx_node.specs.declared.cause.PointKind.TheVariants as point
use Rattle.lx_forest.specs.Forest.{Forest}
use Rattle.lx_forest.specs.Lookups.{parent_of, first_child, is_within, IsHeld}
use Rattle.lx_draft.specs.Working.{Working, TextsAreShort}
use Rattle.lx_draft.specs.Covering.{IsReady}
use Rattle.lx_blocks.specs.declared.ranges.Ranged.{Ranged}
use Rattle.lx_blocks.specs.Blocks.{is_at, is_line}
use Rattle.lx_blocks.specs.Lines.{selected_lines}
use Rattle.lx_blocks.specs.Ranges.{range_of}
use Rattle.lx_caret.specs.Lying.{EachPoint, IsLying}
use Rattle.lx_list.specs.Nesting.{is_nesting}
use Rattle.lx_list.specs.Dissolving.{is_in_item, outermost_above, remove_list_step}
use Rattle.lx_list.specs.Indenting.{indent_step}

-- ---- a list is removed

-- a list in an item
abbrev pub is_nested_list : Forest → ℕ → Bool
is_nested_list f k = is_at is_list f k && is_in_item f (parent_of f k)

-- an item without a line of its own: it has lists, and nothing inline
abbrev pub is_lineless : Forest → ℕ → Bool
is_lineless f k = is_at is_item f k && not (is_line f k)

-- a node that goes with the list around it as that is removed, and no paragraph takes the points on it
abbrev pub goes_with_list : Forest → ℕ → Bool
goes_with_list f k = is_nested_list f k || is_lineless f k

-- whether a node is in the tree of another, if there is such
abbrev pub is_in_tree : Forest → ℕ → Option ℕ → Bool
is_in_tree f q None = false
is_in_tree f q (Some k) = is_within f k q

-- whether a node is in the outermost list around a line, which is the one that `remove-list` removes
abbrev pub is_in_list_around : Forest → ℕ → ℕ → Bool
is_in_list_around f q line = is_in_tree f q (outermost_above f line)

-- the lines of a range, if there is one
abbrev pub lines_of_range : Forest → Result Ranged Cause → List ℕ
lines_of_range f (Ok range) = selected_lines f range
lines_of_range f (Err cause) = []

-- the lines that the range of a draft selects
abbrev pub lines_in : Working → List ℕ
lines_in w = lines_of_range w.forest (range_of w)

-- ---- an item goes a level deeper

-- whether a node, given what it is below, is in an item that begins with a list, and isn't that list
abbrev pub is_further_in : Forest → Option ℕ → ℕ → Bool
is_further_in f None k = false
is_further_in f (Some item) k = is_at is_item f item && (is_nesting f item && not (is_named (first_child f item) k))

-- a child of an item that begins with a list, other than that list
abbrev pub is_behind_list : Forest → ℕ → Bool
is_behind_list f k = is_further_in f (parent_of f k) k

-- ---- the commands

-- a command that isn't refused leaves a selection that lies in the tree, where each point of a range is at such a place:
-- the draft is in order, its nodes hold what they may, and its texts are short
abbrev pub LeavesFrom : (Working → Point → Type 0) → (Working → Result Working Cause) → Type 0
LeavesFrom Place command = (w v : Working) → IsReady w → IsHeld may_hold w.forest → TextsAreShort w → EachPoint (Place w) w.selection
    → command w ≡ Ok v → IsLying v

-- the two commands of lists that don't always leave a selection in the tree do so from these places
pub record SelectionsStay : Type 0 where
  -- lists are removed, and in these no point is on a list in an item, nor on an item without a line of its own
  pub remove_list : LeavesFrom (λ w p. list_any (is_in_list_around w.forest p.key) (lines_in w) ≡ true → goes_with_list w.forest p.key ≡ false) remove_list_step
  -- so wherever points count characters
  pub remove_list_in_texts : LeavesFrom (λ w p. p.kind ≡ point.Text) remove_list_step
  -- lines go a level deeper, and no point is in what an item has behind the list with which it begins
  pub indent : LeavesFrom (λ w p. (k : ℕ) → is_behind_list w.forest k ≡ true → is_within w.forest k p.key ≡ false) indent_step
