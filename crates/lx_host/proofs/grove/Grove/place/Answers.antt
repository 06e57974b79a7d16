use Rattle.std.proofs.Common.{sym, ap, ◌∙◌, subst}
use Rattle.lx_trees.specs.Siblings.{is_place}
use Rattle.lx_host.specs.Hosts.{id_of}
use Rattle.lx_trees.specs.Lookups.{children_of}
use Rattle.lx_trees.specs.Edits.{CanPut, put_in}
use Rattle.lx_host.proofs.Placed.{can_place, place_in, placed}
use Rattle.lx_host.proofs.grove.Grove.place.Goals as goal

pub put-requires-clause-can : goal.put-requires-clause-can
put-requires-clause-can c =
    subst (CanPut id_of c.args.parent c.args.child) (sym c.detach.ensures.taken)
    (can_place c.args.parent c.args.child c.args.before c.args.self.now.hosts c.detach.ensures.ordered c.requires)

pub put-requires-clause-place : goal.put-requires-clause-place
put-requires-clause-place c =
    ap (λ f. is_place c.args.before (children_of id_of f c.args.parent)) c.detach.ensures.taken
    ∙ place_in c.args.parent c.args.child c.args.before c.args.self.now.hosts c.detach.ensures.ordered c.requires

pub returns-clause-placed : goal.returns-clause-placed
returns-clause-placed c =
    c.put.ensures.put ∙ ap (put_in id_of c.args.parent c.args.before c.args.child) c.detach.ensures.taken
    ∙ placed c.args.parent c.args.child c.args.before c.args.self.now.hosts c.detach.ensures.ordered
