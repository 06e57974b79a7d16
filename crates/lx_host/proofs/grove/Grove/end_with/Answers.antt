use Rattle.lx_host.specs.Hosts.{changed, with_ending}
use Rattle.lx_host.specs.Stands.{hosts_in-is}
use Rattle.lx_host.proofs.Shows.{ending_stands}
use Rattle.lx_host.proofs.Stood.{stood_now}
use Rattle.lx_host.proofs.grove.Grove.end_with.Goals as goal

pub invariant_of-self-inside : goal.invariant_of-self-inside
invariant_of-self-inside c = (
  record {
    value = changed c.args.id (with_ending c.args.ending) c.args.self.now.hosts;
    stands =
        ending_stands c.self.inside.table c.change_host.new.table c.args.self.now.hosts c.args.id
        (stood_now _ c.self.inside.stands c.args.self.now _ _ c.self.view_is) c.args.ending c.change_host.ensures.differs;
  },
  tt,
)

pub returns-clause-changed : goal.returns-clause-changed
returns-clause-changed c =
    hosts_in-is _ _ _
    (ending_stands c.self.inside.table c.change_host.new.table c.args.self.now.hosts c.args.id
    (stood_now _ c.self.inside.stands c.args.self.now _ _ c.self.view_is) c.args.ending c.change_host.ensures.differs)
