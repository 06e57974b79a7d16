use Rattle.std.proofs.Common.{false, length}
use Rattle.lx_blocks.specs.Walks.{left_from}
use Rattle.lx_caret.specs.Deleting.{is_leaf_in, leaf_beside}
use Rattle.lx_caret.proofs.Forwards.{IsForth}
use Rattle.lx_caret.proofs.deleting.leaf_behind.Given as goal

-- none was passed on the way
abbrev pub invariant-loop-at : goal.invariant-loop-at
invariant-loop-at l = IsForth (is_leaf_in l.links l.block) l.links l.at (leaf_beside false l.links l.block l.point)

abbrev pub decreases-loop-at : goal.decreases-loop-at
decreases-loop-at l = length (left_from l.links l.at)
