-- For which causes settling is refused.
use Rattle.std.specs.Prelude.{Bool, true, false, ◌≡◌}
use Rattle.lx_node.specs.declared.cause.Limit.{Limit}
use Rattle.lx_node.specs.declared.cause.Limit.TheVariants.{Written}
use Rattle.lx_node.specs.declared.cause.Cause.{Cause}
use Rattle.lx_node.specs.declared.cause.Cause.TheVariants.{NoRest, StepLimit, TooLarge}
use Rattle.lx_node.specs.declared.cause.Fault.{Fault}
use Rattle.lx_node.specs.declared.cause.Fault.TheVariants as fault

-- whether the limit is that on what is written
abbrev pub is_written : Limit → Bool
is_written Written = true
is_written _ = false

-- whether rest wasn't reached, no count was left, or too much would have been written
abbrev pub is_exhausted : Cause → Bool
is_exhausted NoRest = true
is_exhausted StepLimit = true
is_exhausted (TooLarge limit reached) = is_written limit
is_exhausted _ = false

-- an error for such a cause, or for running out of memory
abbrev pub IsExhausted : Fault → Type 0
IsExhausted (fault.Cause cause) = is_exhausted cause ≡ true
IsExhausted fault.Memory = Unit {0}
