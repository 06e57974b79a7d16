use Rattle.std.proofs.Common.{length}
use Rattle.lx_blocks.specs.Places.{until}
use Rattle.lx_blocks.specs.Walks.{left_from, key_of_step}
use Rattle.lx_blocks.proofs.Gathered.{IsWalking}
use Rattle.lx_blocks.proofs.walks.walk_until.Given as goal

-- the walk is in the tree, and what was gathered and what is left make all of it
abbrev pub invariant-loop-at : goal.invariant-loop-at
invariant-loop-at l = IsWalking (key_of_step l.stop) l.links l.at l.keys.items (until (key_of_step l.stop) (left_from l.links l.fn.from))

abbrev pub decreases-loop-at : goal.decreases-loop-at
decreases-loop-at l = length (left_from l.links l.at)
