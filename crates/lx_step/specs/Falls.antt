-- A script is larger than each that it queues.
use Rattle.std.specs.Prelude.{◌≤◌, max, List, [], ◌∷◌}
use Rattle.std.proofs.Common.{arith}
use denote.Param.Weighed.{most}
use Rattle.lx_step.specs.Script.{script_size}
use Rattle.lx_step.specs.Spelled.{script_of}
use Rattle.lx_step.specs.declared.step.Step.{Step}
use Rattle.lx_step.specs.declared.step.Step.TheVariants as step
use Rattle.lx_step.specs.declared.step.Steps.TheDeep.{deep-Step}

-- a script is no smaller than each that it queues, by which recursion over steps ends
pub most_le-script_size : (steps : List Step) → max (most (λ s. deep-Step s) steps) 0 ≤ script_size (script_of steps)
most_le-script_size [] = omega arith
most_le-script_size (step.Later script ∷ steps) = omega (arith, most_le-script_size steps)
most_le-script_size (step ∷ steps) = omega (arith, most_le-script_size steps)
