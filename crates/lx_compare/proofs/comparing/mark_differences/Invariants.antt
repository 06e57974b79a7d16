use Rattle.std.proofs.Common.{◌-◌}
use Rattle.lx_store.specs.Differing.{first_after}
use Rattle.lx_compare.proofs.Settled.{IsCompared}
use Rattle.lx_compare.proofs.comparing.mark_differences.Given as goal

abbrev pub invariant-loop-key : goal.invariant-loop-key
invariant-loop-key l = IsCompared l.old l.new l.marks (first_after l.last)

-- a key is below 2 ^ 32
abbrev pub decreases-loop-key : goal.decreases-loop-key
decreases-loop-key l = 4294967296 - first_after l.last
