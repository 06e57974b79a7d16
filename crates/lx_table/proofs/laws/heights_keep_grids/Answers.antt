use Rattle.lx_table.proofs.Heights.{heights_keep}
use Rattle.lx_table.proofs.laws.heights_keep_grids.Goals as goal

pub returns : goal.returns
returns c = heights_keep
