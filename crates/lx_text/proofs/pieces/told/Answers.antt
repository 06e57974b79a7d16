use Rattle.std.proofs.Common.{◌∙◌, chars}
use Rattle.lx_text.specs.Texts.{length_told}
use Rattle.lx_text.proofs.Appended.{told_fits}
use Rattle.lx_text.proofs.pieces.told.Goals as goal

pub returns-in-Ok : goal.returns-in-Ok
returns-in-Ok c = c.in-Ok.ensures.1 ∙ told_fits c.args.units (chars c.args.text.now) c.requires c.in-Ok.ensures.0

pub returns-in-Err : goal.returns-in-Err
unfolding length_told
returns-in-Err c = c.within.ensures
