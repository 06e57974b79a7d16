use Rattle.std.proofs.Common.{sym, ap, ◌∙◌}
use Rattle.std.specs.Option.{option_copied}
use Rattle.lx_host.specs.Hosts.{id_of}
use Rattle.lx_trees.specs.Edits.{take_out}
use Rattle.lx_host.specs.Stands.{hosts_in-is}
use Rattle.lx_host.proofs.Stood.{always, stood_now, absent_stays, top_stays, taken_stands}
use Rattle.lx_host.proofs.grove.Grove.detach.Goals as goal

pub returns-in_default-clause-taken : goal.returns-in_default-clause-taken
returns-in_default-clause-taken c =
    absent_stays c.self.inside.table c.args.self.now.hosts c.args.id (stood_now _ c.self.inside.stands c.args.self.now _ _ c.self.view_is)
    (sym c.get.ensures.value ∙ ap option_copied c.in_default.is)

pub returns-in_default-clause-ordered : goal.returns-in_default-clause-ordered
returns-in_default-clause-ordered c = (stood_now _ c.self.inside.stands c.args.self.now _ _ c.self.view_is).in_order

pub returns-in_default-parent-clause-taken : goal.returns-in_default-parent-clause-taken
returns-in_default-parent-clause-taken c =
    top_stays c.self.inside.table c.args.self.now.hosts c.args.id c.in-Some.host.now (stood_now _ c.self.inside.stands c.args.self.now _ _ c.self.view_is)
    (sym c.get.ensures.value ∙ ap option_copied c.in-Some.is) c.in_default-parent.is

pub returns-in_default-parent-clause-ordered : goal.returns-in_default-parent-clause-ordered
returns-in_default-parent-clause-ordered c = (stood_now _ c.self.inside.stands c.args.self.now _ _ c.self.view_is).in_order

pub invariant_of-self-inside : goal.invariant_of-self-inside
invariant_of-self-inside c = (
  record {
    value = take_out id_of c.args.id c.args.self.now.hosts;
    stands =
        taken_stands c.self.inside.table c.unlink.new.table c.args.self.now.hosts c.args.id c.in-Some-parent.parent c.in-Some.host.now
        (stood_now _ c.self.inside.stands c.args.self.now _ _ c.self.view_is) (sym c.get.ensures.value ∙ ap option_copied c.in-Some.is) c.in-Some-parent.is
        (always c.unlink.result c.unlink.ensures.differs);
  },
  tt,
)

pub returns-clause-taken : goal.returns-clause-taken
returns-clause-taken c =
    hosts_in-is _ _ _
    (taken_stands c.self.inside.table c.unlink.new.table c.args.self.now.hosts c.args.id c.in-Some-parent.parent c.in-Some.host.now
    (stood_now _ c.self.inside.stands c.args.self.now _ _ c.self.view_is) (sym c.get.ensures.value ∙ ap option_copied c.in-Some.is) c.in-Some-parent.is
    (always c.unlink.result c.unlink.ensures.differs))

pub returns-clause-ordered : goal.returns-clause-ordered
returns-clause-ordered c = (stood_now _ c.self.inside.stands c.args.self.now _ _ c.self.view_is).in_order
