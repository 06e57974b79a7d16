use Rattle.lx_edit.proofs.Covered.{covered_path}
use Rattle.lx_clip.proofs.PathsOfPasting.{insert_path, paste_path}
use Rattle.lx_clip.proofs.laws.pastes_are_covered.Goals as goal

pub returns : goal.returns
returns c = record { insert = λ slice. insert_path covered_path slice; paste = λ text. paste_path covered_path text }
