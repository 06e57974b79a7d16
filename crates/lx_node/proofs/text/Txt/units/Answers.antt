use Rattle.std.proofs.Common.{subst}
use Rattle.lx_node.specs.Counted.{AreCounted}
use Rattle.lx_node.proofs.CodeUnits.{counted-units}
use Rattle.lx_node.proofs.text.Txt.units.Goals as goal

pub returns : goal.returns
returns c = counted-units c.self.inside.counts c.args.self.now (subst (AreCounted c.self.inside.counts) c.self.view_is c.self.invariant)
