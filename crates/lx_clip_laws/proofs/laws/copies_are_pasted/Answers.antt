use Rattle.lx_clip_laws.proofs.Pastes.{copies_are_pasted}
use Rattle.lx_clip_laws.proofs.laws.copies_are_pasted.Goals as goal

pub returns : goal.returns
returns c = copies_are_pasted
