use Rattle.lx_clip.proofs.Lying.{lies-insert, lies-paste}
use Rattle.lx_clip.proofs.laws.pastes_lie.Goals as goal

pub returns : goal.returns
returns c = record { insert = lies-insert; paste = lies-paste }
