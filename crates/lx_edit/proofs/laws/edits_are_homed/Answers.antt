use Rattle.lx_edit.proofs.Homed.{homed-edits}
use Rattle.lx_edit.proofs.laws.edits_are_homed.Goals as goal

pub returns : goal.returns
returns c = homed-edits
