use Rattle.lx_edit_laws.proofs.JoinTold.{joins_told}
use Rattle.lx_edit_laws.proofs.joins.joins_are_told.Goals as goal

pub returns : goal.returns
returns c = joins_told
