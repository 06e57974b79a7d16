use Rattle.lx_host.specs.Hosts.{changed, with_value}
use Rattle.lx_host.specs.Stands.{hosts_in-is}
use Rattle.lx_host.proofs.Shows.{attribute_stands}
use Rattle.lx_host.proofs.Stood.{stood_now}
use Rattle.lx_host.proofs.grove.Grove.write.Goals as goal

pub invariant_of-self-inside : goal.invariant_of-self-inside
invariant_of-self-inside c = (
  record {
    value = changed c.args.id (with_value c.args.name c.args.value) c.args.self.now.hosts;
    stands =
        attribute_stands c.self.inside.table c.write_attribute.new.table c.args.self.now.hosts c.args.id
        (stood_now _ c.self.inside.stands c.args.self.now _ _ c.self.view_is) c.args.name c.args.value c.write_attribute.ensures.differs;
  },
  tt,
)

pub returns-clause-changed : goal.returns-clause-changed
returns-clause-changed c =
    hosts_in-is _ _ _
    (attribute_stands c.self.inside.table c.write_attribute.new.table c.args.self.now.hosts c.args.id
    (stood_now _ c.self.inside.stands c.args.self.now _ _ c.self.view_is) c.args.name c.args.value c.write_attribute.ensures.differs)
