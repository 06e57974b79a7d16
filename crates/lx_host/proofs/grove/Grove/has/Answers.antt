use Rattle.std.proofs.Common.{◌∙◌}
use Rattle.lx_host.proofs.Stood.{is_some_in}
use Rattle.lx_host.proofs.grove.Grove.has.Goals as goal

pub returns-clause-has : goal.returns-clause-has
returns-clause-has c = c.is_some.ensures ∙ is_some_in c.host.result c.args.self.now.hosts c.args.id c.host.ensures.host
