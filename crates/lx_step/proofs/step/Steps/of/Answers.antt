use Rattle.lx_step.proofs.Sounds.{script_sound}
use Rattle.lx_step.proofs.step.Steps.of.Goals as goal

pub returns-clause-sound : goal.returns-clause-sound
returns-clause-sound c sound = script_sound _ sound
