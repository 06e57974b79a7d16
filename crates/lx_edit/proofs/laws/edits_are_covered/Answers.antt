use Rattle.lx_edit.proofs.Covered.{covered-edits}
use Rattle.lx_edit.proofs.laws.edits_are_covered.Goals as goal

pub returns : goal.returns
returns c = covered-edits
