use Rattle.std.proofs.Common.{◌∙◌, All, sym, ap, subst}
use Rattle.lx_step.specs.Sound.{IsSound}
use Rattle.lx_step.specs.Spelled.{steps_of}
use Rattle.lx_step.proofs.Spelled.{steps_of-script_of}
use Rattle.lx_step.proofs.Sounds.{steps_sound}
use Rattle.lx_step.proofs.step.Steps.items.Goals as goal

pub returns-clause-steps : goal.returns-clause-steps
returns-clause-steps c = c.as_slice.ensures.value ∙ sym (steps_of-script_of _) ∙ ap steps_of c.self.view_is

pub returns-clause-sound : goal.returns-clause-sound
returns-clause-sound c sound =
    subst (All IsSound) (sym (c.as_slice.ensures.value ∙ sym (steps_of-script_of _) ∙ ap steps_of c.self.view_is)) (steps_sound _ sound)
