use Rattle.std.proofs.Common.{length}
use Rattle.lx_blocks.specs.Blocks.{frame_of}
use Rattle.lx_caret.specs.Deleting.{is_stop, stop_before}
use Rattle.lx_caret.proofs.Backwards.{IsBack, up_to}
use Rattle.lx_caret.proofs.joining.stop_before.Given as goal

-- none was passed on the way back
abbrev pub invariant-loop-at : goal.invariant-loop-at
invariant-loop-at l = IsBack (is_stop l.links (frame_of l.links l.fn.block)) l.links l.at (stop_before l.links l.fn.block)

abbrev pub decreases-loop-at : goal.decreases-loop-at
decreases-loop-at l = length (up_to l.links l.at)
