use Rattle.lx_list.proofs.Lying.{selections}
use Rattle.lx_list.proofs.laws.list_selections_lie.Goals as goal

pub returns : goal.returns
returns c = selections
