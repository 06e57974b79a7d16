use Rattle.std.proofs.Common.{◌∙◌, ap}
use Rattle.lx_host.specs.Stands.{GroveView}
use Rattle.lx_host.proofs.Stood.{stood, get_stands}
use Rattle.lx_host.proofs.grove.Grove.host.Goals as goal

pub returns-clause-host : goal.returns-clause-host
returns-clause-host c =
    c.get.ensures.value
    ∙ get_stands c.self.inside.table c.args.self.now.hosts c.args.id
    (stood c.self.inside.table c.self.inside.stands c.args.self.now.hosts (ap (λ (v : GroveView). v.hosts) c.self.view_is))

pub returns-clause-ordered : goal.returns-clause-ordered
returns-clause-ordered c = (stood c.self.inside.table c.self.inside.stands c.args.self.now.hosts (ap (λ (v : GroveView). v.hosts) c.self.view_is)).in_order
