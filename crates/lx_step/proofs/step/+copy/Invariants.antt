use Rattle.std.proofs.Common.{◌≡◌, take}
use Rattle.lx_step.proofs.step.+copy.Given as goal

-- what is made so far is what was looked at
abbrev pub invariant-copy_steps-loop-step : goal.invariant-copy_steps-loop-step
invariant-copy_steps-loop-step l = record { same : l.made.items ≡ take l.step-index l.steps }
