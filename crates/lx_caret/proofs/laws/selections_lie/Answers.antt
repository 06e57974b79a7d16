use Rattle.lx_caret.proofs.Lying.{selections}
use Rattle.lx_caret.proofs.laws.selections_lie.Goals as goal

pub returns : goal.returns
returns c = selections
