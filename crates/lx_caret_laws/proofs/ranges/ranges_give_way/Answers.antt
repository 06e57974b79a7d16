use Rattle.lx_caret_laws.proofs.TypedAcross.{told-ranges}
use Rattle.lx_caret_laws.proofs.ranges.ranges_give_way.Goals as goal

pub returns : goal.returns
returns c = told-ranges
