use Rattle.lx_host.specs.Hosts.{id_of}
use Rattle.lx_trees.specs.Edits.{put_in}
use Rattle.lx_host.specs.Stands.{hosts_in-is}
use Rattle.lx_host.proofs.Stood.{always, stood_now, room_below, placed_stands}
use Rattle.lx_host.proofs.grove.Grove.put.Goals as goal

pub link_in-requires : goal.link_in-requires
link_in-requires c = λ n e.
    room_below c.self.inside.table c.args.self.now.hosts c.args.parent c.args.id n (stood_now _ c.self.inside.stands c.args.self.now _ _ c.self.view_is)
    c.requires.can e

pub invariant_of-self-inside : goal.invariant_of-self-inside
invariant_of-self-inside c = (
  record {
    value = put_in id_of c.args.parent c.args.before c.args.id c.args.self.now.hosts;
    stands =
        placed_stands c.self.inside.table c.link_in.new.table c.args.self.now.hosts c.args.parent c.args.id c.args.before c.gap-gap.result.prev
        c.gap-gap.result.next (stood_now _ c.self.inside.stands c.args.self.now _ _ c.self.view_is) c.requires.can c.requires.place c.gap-gap.ensures.prev
        c.gap-gap.ensures.next (always c.link_in.result c.link_in.ensures.differs);
  },
  tt,
)

pub returns-clause-put : goal.returns-clause-put
returns-clause-put c =
    hosts_in-is _ _ _
    (placed_stands c.self.inside.table c.link_in.new.table c.args.self.now.hosts c.args.parent c.args.id c.args.before c.gap-gap.result.prev
    c.gap-gap.result.next (stood_now _ c.self.inside.stands c.args.self.now _ _ c.self.view_is) c.requires.can c.requires.place c.gap-gap.ensures.prev
    c.gap-gap.ensures.next (always c.link_in.result c.link_in.ensures.differs))
