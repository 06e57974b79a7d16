use Rattle.std.proofs.Common.{chars}
use Rattle.lx_node.proofs.CodeUnits.{counted-units}
use Rattle.lx_node.proofs.counts.units.Goals as goal

pub returns : goal.returns
returns c = counted-units c.count.result (chars c.args.text.now) c.count.ensures
