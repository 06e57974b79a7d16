use Rattle.lx_node.proofs.CodeUnits.{counted-none}
use Rattle.lx_node.proofs.counts.Counts.none.Goals as goal

pub returns : goal.returns
returns c = counted-none
