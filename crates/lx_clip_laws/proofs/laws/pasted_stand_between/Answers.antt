use Rattle.lx_clip_laws.proofs.Staying.{pasted_stand_between}
use Rattle.lx_clip_laws.proofs.laws.pasted_stand_between.Goals as goal

pub returns : goal.returns
returns c = pasted_stand_between
