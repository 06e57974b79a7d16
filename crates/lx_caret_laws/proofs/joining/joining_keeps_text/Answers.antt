use Rattle.lx_caret_laws.proofs.JoinTold.{told-joining}
use Rattle.lx_caret_laws.proofs.joining.joining_keeps_text.Goals as goal

pub returns : goal.returns
returns c = told-joining
