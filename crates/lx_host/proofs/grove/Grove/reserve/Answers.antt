use Rattle.lx_host.specs.Stands.{hosts_in-is}
use Rattle.lx_host.proofs.Stood.{stood_now}
use Rattle.lx_host.proofs.Changed.{same_stands}
use Rattle.lx_host.proofs.grove.Grove.reserve.Goals as goal

pub returns-in_err-reserve-clause-same : goal.returns-in_err-reserve-clause-same
returns-in_err-reserve-clause-same c =
    hosts_in-is _ _ _
    (same_stands c.self.inside.table c.reserve.new.self c.args.self.now.hosts (stood_now _ c.self.inside.stands c.args.self.now _ _ c.self.view_is)
    c.reserve.ensures.entries)

pub returns-clause-same : goal.returns-clause-same
returns-clause-same c =
    hosts_in-is _ _ _
    (same_stands c.self.inside.table c.reserve.new.self c.args.self.now.hosts (stood_now _ c.self.inside.stands c.args.self.now _ _ c.self.view_is)
    c.reserve.ensures.entries)
