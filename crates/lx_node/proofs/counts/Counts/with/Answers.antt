use Rattle.lx_node.proofs.CodeUnits.{counted-append}
use Rattle.lx_node.proofs.counts.Counts.with.Goals as goal

pub returns : goal.returns
returns c = counted-append c.args.self c.args.more c.saturating_add.result c.saturating_add-2.result c.saturating_add.ensures c.saturating_add-2.ensures
