use Rattle.std.proofs.Common.{length}
use Rattle.lx_forest.specs.Lookups.{ancestors}
use Rattle.lx_compare.proofs.Raised.{IsRising}
use Rattle.lx_compare.proofs.marking.mark_above.Given as goal

abbrev pub invariant-loop-parent : goal.invariant-loop-parent
invariant-loop-parent l = IsRising l.links l.fn.marks l.marks l.at

abbrev pub decreases-loop-parent : goal.decreases-loop-parent
decreases-loop-parent l = length (ancestors l.links l.at)
