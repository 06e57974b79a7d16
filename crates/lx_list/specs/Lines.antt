-- A step for each line that the selection holds.
use Rattle.std.specs.Prelude.{ℕ, if◌then◌else◌, Result, Ok}
use Rattle.lx_node.specs.declared.cause.Cause.{Cause}
use Rattle.lx_forest.specs.Lookups.{is_attached}
use Rattle.lx_draft.specs.Working.{Working}
use Rattle.lx_draft.specs.Faults.{after}
use Rattle.lx_edit.specs.InTurn.{in_turn}
use Rattle.lx_blocks.specs.Lines.{selected_lines}
use Rattle.lx_blocks.specs.Ranges.{range_of}

-- a step at a node, passed over where an earlier one has taken the node out of the root's tree
abbrev pub step_if_there : (ℕ → Working → Result Working Cause) → ℕ → Working → Result Working Cause
step_if_there step k w = if is_attached w.forest k then step k w else Ok w

-- a step for each line that is selected before the first of them is taken, in preorder
unfoldable pub each_line : (ℕ → Working → Result Working Cause) → Working → Result Working Cause
each_line step w = after (range_of w) (λ range. in_turn (step_if_there step) (selected_lines w.forest range) w)
