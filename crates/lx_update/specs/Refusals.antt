-- Why a line is refused, and at which of its steps.
use Rattle.std.specs.Prelude.{◌≡◌, ℕ, Option, None, Some, Result, Ok, Err}
use Rattle.lx_node.specs.declared.cause.Cause.{Cause}
use Rattle.lx_node.specs.declared.cause.Fault.{Fault}
use Rattle.lx_node.specs.declared.cause.Fault.TheVariants as fault
use Rattle.lx_update.specs.declared.refusal.Refusal.{Refusal}
use Rattle.lx_update.specs.declared.refusal.Refusal.TheVariants as refusal

-- a cause, and the index of the step of the line's own script that was running, where it was one
abbrev pub Refused : Type 0
Refused = Cause × Option ℕ

-- what was made, or a refusal at this step
abbrev pub at_step : {A : Type 0} → ℕ → Result A Cause → Result A Refused
at_step index (Ok a) = Ok a
at_step index (Err cause) = Err (cause, Some index)

-- what was made, or a refusal at no step
abbrev pub at_none : {A : Type 0} → Result A Cause → Result A Refused
at_none (Ok a) = Ok a
at_none (Err cause) = Err (cause, None)

-- what is done with what was made, unless it was refused
abbrev pub refused_or : {A B : Type 0} → Result A Refused → (A → Result B Refused) → Result B Refused
refused_or (Ok a) next = next a
refused_or (Err refused) next = Err refused

-- It is refused for this cause and at this step, or memory ran out.
abbrev pub TellsRefusal : {A : Type 0} → Refusal → Result A Refused → Type 0
TellsRefusal (refusal.Cause cause step) made = made ≡ Err (cause, step)
TellsRefusal refusal.Memory made = Unit {0}

-- a refusal for the fault's cause, at this step or at none, or for memory where it runs out
abbrev pub IsRefusal : Fault → Option ℕ → Refusal → Type 0
IsRefusal (fault.Cause cause) step r = r ≡ refusal.Cause cause step
IsRefusal fault.Memory step r = r ≡ refusal.Memory
