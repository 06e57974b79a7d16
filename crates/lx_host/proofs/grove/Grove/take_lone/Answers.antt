use Rattle.lx_host.specs.Hosts.{without}
use Rattle.lx_host.specs.Stands.{hosts_in-is}
use Rattle.lx_host.proofs.Stood.{stood_now}
use Rattle.lx_host.proofs.Changed.{gone_stands}
use Rattle.lx_host.proofs.grove.Grove.take_lone.Goals as goal

pub invariant_of-self-inside : goal.invariant_of-self-inside
invariant_of-self-inside c = (
  record {
    value = without c.args.id c.args.self.now.hosts;
    stands =
        gone_stands c.self.inside.table c.swap_remove.new.self c.args.self.now.hosts c.args.id
        (stood_now _ c.self.inside.stands c.args.self.now _ _ c.self.view_is) c.requires.other c.requires.top c.requires.leaf c.swap_remove.ensures.updates.0;
  },
  tt,
)

pub returns-clause-taken : goal.returns-clause-taken
returns-clause-taken c =
    hosts_in-is _ _ _
    (gone_stands c.self.inside.table c.swap_remove.new.self c.args.self.now.hosts c.args.id
    (stood_now _ c.self.inside.stands c.args.self.now _ _ c.self.view_is) c.requires.other c.requires.top c.requires.leaf c.swap_remove.ensures.updates.0)
