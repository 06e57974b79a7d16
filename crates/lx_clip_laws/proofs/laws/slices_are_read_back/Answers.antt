use Rattle.lx_clip_laws.proofs.Pastes.{slices_are_read_back}
use Rattle.lx_clip_laws.proofs.laws.slices_are_read_back.Goals as goal

pub returns : goal.returns
returns c = slices_are_read_back
