-- What refuses a step refuses all that it is a part of.
use Rattle.std.proofs.Common.{◌≡◌, Result, Err}
use Rattle.lx_node.specs.declared.cause.Cause.{Cause}
use Rattle.lx_node.specs.declared.cause.Fault.{Fault}
use Rattle.lx_node.specs.declared.cause.Fault.TheVariants as fault
use Rattle.lx_draft.specs.Working.{Working}
use Rattle.lx_draft.specs.Faults.{TellsStep}
use Rattle.lx_edit.specs.Standing.{Refuses}

told_all : {A B : Type 0} (step : Result A Cause) (whole : Result B Cause) (fault : Fault) → ((cause : Cause) → step ≡ Err cause → whole ≡ Err cause)
    → TellsStep fault step → TellsStep fault whole
told_all step whole (fault.Cause cause) same told = same cause told
told_all step whole fault.Memory same told = tt

pub refuses_all : {A B : Type 0} {step : Result A Cause} {whole : Result B Cause} {fault : Fault} {new : Working}
    → ((cause : Cause) → step ≡ Err cause → whole ≡ Err cause) → Refuses step fault new
    → Refuses whole fault new
refuses_all {A} {B} {step} {whole} {fault} same refused = record { told = told_all step whole fault same refused.told; stands = refused.stands }
