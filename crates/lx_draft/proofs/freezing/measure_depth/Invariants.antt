use Rattle.std.proofs.Common.{length}
use Rattle.lx_forest.specs.Lookups.{preorder}
use Rattle.lx_draft.proofs.Measured.{IsMeasured, left_from}
use Rattle.lx_draft.proofs.freezing.measure_depth.Given as goal

-- what was measured so far and what is left make all of it
abbrev pub invariant-loop-at : goal.invariant-loop-at
invariant-loop-at l = IsMeasured l.links l.deepest l.at (preorder l.links)

abbrev pub decreases-loop-at : goal.decreases-loop-at
decreases-loop-at l = length (left_from l.links l.at)
