use Rattle.std.proofs.Common.{subst}
use Rattle.lx_node.specs.Counted.{AreCounted}
use Rattle.lx_node.proofs.CodeUnits.{counted-characters}
use Rattle.lx_node.proofs.text.Txt.characters.Goals as goal

pub returns : goal.returns
returns c = counted-characters c.self.inside.counts c.args.self.now (subst (AreCounted c.self.inside.counts) c.self.view_is c.self.invariant)
