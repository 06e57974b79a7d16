-- What a call that takes a step answers, and what it leaves.
use Rattle.std.specs.Prelude.{◌≡◌, ◌≢◌, Result, Ok, Err}
use Rattle.lx_trees.specs.Trees.{nil}
use Rattle.lx_node.specs.declared.cause.Fault.{Fault}
use Rattle.lx_node.specs.declared.cause.Fault.TheVariants as fault
use Rattle.lx_node.specs.declared.cause.Cause.{Cause}
use Rattle.lx_draft.specs.Working.{Working}
use Rattle.lx_draft.specs.Faults.{TellsStep}

-- refused for a cause, a draft stands for some forest; once memory ran out it does so too, or has failed
abbrev pub StillStands : Fault → Working → Type 0
StillStands (fault.Cause cause) w = w.forest ≢ nil
StillStands fault.Memory w = Unit {0}

-- an error of a call that takes a step: the step is refused for that cause, or memory ran out; and what is left stands
pub record Refuses {A : Type 0} (step : Result A Cause) (fault : Fault) (new : Working) : Type 0 where
  pub told : TellsStep fault step
  pub stands : StillStands fault new

-- a call takes a step: it leaves what the step makes, or answers why there is none
abbrev pub Does : {T : Type 0} → Result Working Cause → Working → Result T Fault → Type 0
Does step new (Ok _) = step ≡ Ok new
Does step new (Err fault) = Refuses step fault new

-- ... and so does one that answers what is among what the step makes, or what it reads
abbrev pub Gives : {A T : Type 0} → Result A Cause → (T → A) → Working → Result T Fault → Type 0
Gives step made new (Ok t) = step ≡ Ok (made t)
Gives step made new (Err fault) = Refuses step fault new
