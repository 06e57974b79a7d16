use Rattle.std.proofs.Common.{◌∙◌, ap}
use Rattle.lx_host.specs.Hosts.{id_of, without}
use Rattle.lx_trees.specs.Lookups.{parent_of, children_of}
use Rattle.lx_trees.proofs.Within.{without-take_out_eq}
use Rattle.lx_host.proofs.Changed.{taken_top, taken_leaf}
use Rattle.lx_host.proofs.grove.Grove.take_leaf.Goals as goal

pub take_lone-requires-clause-top : goal.take_lone-requires-clause-top
take_lone-requires-clause-top c =
    ap (λ f. parent_of id_of f c.args.id) c.detach.ensures.taken ∙ taken_top c.args.id c.args.self.now.hosts c.detach.ensures.ordered

pub take_lone-requires-clause-leaf : goal.take_lone-requires-clause-leaf
take_lone-requires-clause-leaf c =
    ap (λ f. children_of id_of f c.args.id) c.detach.ensures.taken ∙ taken_leaf c.args.id c.args.self.now.hosts c.detach.ensures.ordered c.requires.leaf

pub returns-clause-taken : goal.returns-clause-taken
returns-clause-taken c = c.take_lone.ensures.taken ∙ ap (without c.args.id) c.detach.ensures.taken ∙ without-take_out_eq id_of c.args.id c.args.self.now.hosts
