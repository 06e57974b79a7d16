use Rattle.std.proofs.Common.{◌≡◌, ◌++◌, ◌∷◌, Some, length}
use Rattle.lx_forest.specs.Lookups.{ancestors}
use Rattle.lx_blocks.specs.Places.{until}
use Rattle.lx_caret.proofs.parting.way_up.Given as goal

-- the keys so far, and those that are left below the block
abbrev pub invariant-up : goal.invariant-up
invariant-up l = l.keys.items ++ until (Some l.block) (l.at ∷ ancestors l.links l.at) ≡ until (Some l.block) (l.fn.key ∷ ancestors l.links l.fn.key)

abbrev pub decreases-up : goal.decreases-up
decreases-up l = length (ancestors l.links l.at)
