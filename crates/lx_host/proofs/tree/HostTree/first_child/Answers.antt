use Rattle.std.proofs.Common.{ap, ◌∙◌}
use Rattle.lx_trees.specs.Siblings.{first_of}
use Rattle.lx_host.specs.Lookups.{first_child}
use Rattle.lx_host.specs.Room.{Held}
use Rattle.lx_host.proofs.Placed.{children-same}
use Rattle.lx_host.proofs.tree.HostTree.first_child.Goals as goal

pub returns : goal.returns
returns c =
    c.first.ensures.first ∙ ap first_of (children-same c.self.inside.grove.hosts c.args.id c.first.ensures.ordered)
    ∙ ap (λ (v : Held). first_child c.args.id v.tree.hosts) c.self.view_is
