use Rattle.std.proofs.Common.{length}
use Rattle.lx_blocks.specs.Blocks.{frame_of}
use Rattle.lx_blocks.specs.Walks.{left_from}
use Rattle.lx_caret.specs.Deleting.{is_stop, stop_behind}
use Rattle.lx_caret.proofs.Forwards.{IsForth, is_other}
use Rattle.lx_caret.proofs.joining.stop_behind.Given as goal

-- none was passed on the way
abbrev pub invariant-loop-at : goal.invariant-loop-at
invariant-loop-at l = IsForth (is_other (is_stop l.links (frame_of l.links l.block)) l.block) l.links l.at (stop_behind l.links l.block)

abbrev pub decreases-loop-at : goal.decreases-loop-at
decreases-loop-at l = length (left_from l.links l.at)
