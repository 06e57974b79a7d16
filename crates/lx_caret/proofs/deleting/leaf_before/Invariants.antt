use Rattle.std.proofs.Common.{true, length}
use Rattle.lx_caret.specs.Deleting.{leaf_beside}
use Rattle.lx_caret.proofs.Backwards.{IsBack, is_leaf_before, up_to}
use Rattle.lx_caret.proofs.deleting.leaf_before.Given as goal

-- none was passed on the way back
abbrev pub invariant-loop-at : goal.invariant-loop-at
invariant-loop-at l = IsBack (is_leaf_before l.links l.block l.point) l.links l.at (leaf_beside true l.links l.block l.point)

abbrev pub decreases-loop-at : goal.decreases-loop-at
decreases-loop-at l = length (up_to l.links l.at)
