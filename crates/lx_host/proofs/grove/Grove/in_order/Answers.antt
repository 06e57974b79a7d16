use Rattle.std.proofs.Common.{ap, sym, ◌∙◌}
use Rattle.lx_trees.specs.Siblings.{is_among}
use Rattle.lx_host.specs.Stands.{GroveView}
use Rattle.lx_host.proofs.Stood.{stood_now}
use Rattle.lx_host.proofs.Tabled.{ids_are}
use Rattle.lx_host.proofs.grove.Grove.in_order.Goals as goal

pub returns-clause-ordered : goal.returns-clause-ordered
returns-clause-ordered c = (stood_now _ c.self.inside.stands c.args.self.now _ _ c.self.view_is).in_order

pub returns-clause-ids : goal.returns-clause-ids
returns-clause-ids c = λ q.
    ap (λ (v : GroveView). is_among q v.ids) (sym c.self.view_is)
    ∙ ids_are c.self.inside.table c.args.self.now.hosts q (stood_now _ c.self.inside.stands c.args.self.now _ _ c.self.view_is)
