-- Removing the text of a range.
use Rattle.std.specs.Prelude.{ℕ, ◌==◌, ◌&&◌, Bool, not, is_some, if◌then◌else◌, [], Option, Some, Result, Ok}
use Rattle.lx_node.specs.declared.cause.Cause.{Cause}
use Rattle.lx_node.specs.declared.cause.Point.{Point}
use Rattle.lx_node.specs.declared.cause.PointKind.{PointKind}
use Rattle.lx_node.specs.declared.cause.PointKind.TheVariants as point
use Rattle.lx_forest.specs.Forest.{Forest}
use Rattle.lx_forest.specs.Lookups.{parent_of, size_of, is_attached, is_within}
use Rattle.lx_draft.specs.Working.{Working}
use Rattle.lx_draft.specs.Faults.{after}
use Rattle.lx_draft.specs.Steps.{splice_step}
use Rattle.lx_edit.specs.Edits.{remove_step, moved_to_end}
use Rattle.lx_edit.specs.InTurn.{in_turn}
use Rattle.lx_blocks.specs.declared.ranges.Ranged.{Ranged}
use Rattle.lx_blocks.specs.Blocks.{block_of, leading}
use Rattle.lx_blocks.specs.Places.{covered, outermost}
use Rattle.lx_blocks.specs.Ranges.{range_of, is_collapsed, start_of, end_of, caret_at, normal_at, characters_at}

-- a piece cut out of a normal text; another text goes whole, and an empty piece takes no edit
unfoldable pub cut_step : ℕ → ℕ → ℕ → Working → Result Working Cause
cut_step k from to w =
    if from == to then Ok w
    else if is_some (normal_at w.forest k) then splice_step k from to [] w
    else remove_step k w

-- where a range ends in the text of its start
abbrev pub start_part : Forest → Point → Point → ℕ
start_part f start end = if start.key == end.key then end.offset else characters_at f start.key

-- the part of a range in the text of its start is cut out
abbrev pub start_cut : Point → Point → PointKind → Working → Result Working Cause
start_cut start end point.Text w = cut_step start.key start.offset (start_part w.forest start end) w
start_cut start end point.Element w = Ok w

-- the part of a range in the text of its end is cut out, if that is another text than that of its start
abbrev pub end_cut : Point → Point → PointKind → Working → Result Working Cause
end_cut start end point.Text w = if start.key == end.key then Ok w else cut_step end.key 0 end.offset w
end_cut start end point.Element w = Ok w

-- a node goes if it still has a parent
unfoldable pub removed_below : ℕ → Working → Result Working Cause
removed_below k w = if is_some (parent_of w.forest k) then remove_step k w else Ok w

-- a node goes if it is empty
unfoldable pub removed_empty : ℕ → Working → Result Working Cause
removed_empty k w = if size_of w.forest k == 0 then remove_step k w else Ok w

-- two attached blocks, neither of which is in the other
abbrev pub are_apart : Forest → ℕ → ℕ → Bool
are_apart f a b = (is_attached f a && is_attached f b) && (not (is_within f a b) && not (is_within f b a))

-- the inline children with which the second block begins go to the end of the first; it goes if it is empty then
abbrev pub merge_blocks : ℕ → ℕ → Working → Result Working Cause
merge_blocks a b w =
    if are_apart w.forest a b then after (in_turn (moved_to_end a) (leading w.forest b) w) (removed_empty b) else Ok w

-- the second block joined to the first, where there are both
unfoldable pub merge_step : Option ℕ → Option ℕ → Working → Result Working Cause
merge_step (Some a) (Some b) w = merge_blocks a b w
merge_step _ _ w = Ok w

-- what lies between two points is removed
unfoldable pub remove_between : Point → Point → Working → Result Working Cause
remove_between start end w =
    after (start_cut start end start.kind (caret_at start w)) (λ cut.
    after (in_turn removed_below (outermost w.forest (covered w.forest start end)) cut) (λ removed.
    after (end_cut start end end.kind removed) (merge_step (block_of w.forest start.key) (block_of w.forest end.key))))

-- what a range covers is removed, unless it is a caret
abbrev pub removed_in : Ranged → Working → Result Working Cause
removed_in r w = if is_collapsed r then Ok w else remove_between (start_of w.forest r) (end_of w.forest r) w

-- the command that removes what is covered
unfoldable pub remove_text_step : Working → Result Working Cause
remove_text_step w = after (range_of w) (λ r. removed_in r w)
