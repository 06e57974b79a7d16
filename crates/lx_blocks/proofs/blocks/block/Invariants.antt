use Rattle.std.proofs.Common.{◌≡◌, length}
use Rattle.lx_forest.specs.Lookups.{ancestors}
use Rattle.lx_blocks.specs.Blocks.{block_of}
use Rattle.lx_blocks.proofs.blocks.block.Given as goal

-- none was passed on the way up
abbrev pub invariant-loop-at : goal.invariant-loop-at
invariant-loop-at l = block_of l.links l.fn.key ≡ block_of l.links l.at

abbrev pub decreases-loop-at : goal.decreases-loop-at
decreases-loop-at l = length (ancestors l.links l.at)
