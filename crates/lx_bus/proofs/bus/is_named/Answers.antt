use Rattle.std.specs.Str.{chars}
use Rattle.lx_step.proofs.Words.{same_by}
use Rattle.lx_bus.proofs.bus.is_named.Goals as goal

pub returns : goal.returns
returns c = same_by c.is.result c.args.on.now (chars c.args.name.now) c.is.ensures
