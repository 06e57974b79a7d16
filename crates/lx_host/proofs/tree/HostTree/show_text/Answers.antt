use Rattle.std.proofs.Common.{ap, ◌∙◌, refl}
use Rattle.lx_host.specs.Hosts.{changed, with_text}
use Rattle.lx_host.specs.Room.{Held}
use Rattle.lx_host.proofs.Kept.{kept_changed, tree_with}
use Rattle.lx_host.proofs.Standing.{effect_text}
use Rattle.lx_host.proofs.tree.HostTree.show_text.Goals as goal

pub invariant_of-self : goal.invariant_of-self
invariant_of-self c =
    kept_changed c.self.inside.keys c.self.inside.next_id c.args.id (with_text c.args.text) c.self.inside.grove.hosts _ (λ face. refl)
    c.show_text.ensures.changed c.self.invariant

pub returns-clause-changed : goal.returns-clause-changed
returns-clause-changed c =
    tree_with (changed c.args.id (with_text c.args.text)) c.args.self.now.tree c.self.inside.grove.hosts _ c.self.inside.next_id
    (ap (λ (v : Held). v.tree) c.self.view_is) c.show_text.ensures.changed
    ∙ effect_text c.args.id c.args.text c.args.self.now.tree
