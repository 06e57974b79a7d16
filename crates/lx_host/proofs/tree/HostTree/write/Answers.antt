use Rattle.std.proofs.Common.{ap, ◌∙◌, refl}
use Rattle.lx_host.specs.Hosts.{changed, with_value}
use Rattle.lx_host.specs.Room.{Held}
use Rattle.lx_host.proofs.Kept.{kept_changed, tree_with}
use Rattle.lx_host.proofs.Standing.{effect_attr}
use Rattle.lx_host.proofs.tree.HostTree.write.Goals as goal

pub invariant_of-self : goal.invariant_of-self
invariant_of-self c =
    kept_changed c.self.inside.keys c.self.inside.next_id c.args.id (with_value c.args.name c.args.value) c.self.inside.grove.hosts _ (λ face. refl)
    c.write.ensures.changed c.self.invariant

pub returns-clause-changed : goal.returns-clause-changed
returns-clause-changed c =
    tree_with (changed c.args.id (with_value c.args.name c.args.value)) c.args.self.now.tree c.self.inside.grove.hosts _ c.self.inside.next_id
    (ap (λ (v : Held). v.tree) c.self.view_is) c.write.ensures.changed
    ∙ effect_attr c.args.id c.args.name c.args.value c.args.self.now.tree
