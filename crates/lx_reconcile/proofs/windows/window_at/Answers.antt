use Rattle.std.proofs.Common.{◌∙◌, ◌++◌, ◌∷◌, [], ap, Some}
use Rattle.lx_forest.specs.Lookups.{children_of}
use Rattle.lx_reconcile.proofs.Neighbours.{is_beside}
use Rattle.lx_reconcile.proofs.Runs.{window_of_one}
use Rattle.lx_reconcile.proofs.windows.window_at.Goals as goal
use Rattle.lx_reconcile.proofs.Children.{child_there}

pub found-item-requires : goal.found-item-requires
found-item-requires g c = record { there = child_there (g.L.Look.forest c.args.source.now) c.args.key c.args.child c.requires.sound c.requires.child }

pub returns-clause-run : goal.returns-clause-run
returns-clause-run g c =
    let f = g.L.Look.forest c.args.source.now in
    let beside =
    is_beside f c.args.key c.args.child c.node-node.result.now c.requires.sound c.requires.child
    (ap (λ n. Some n) c.node-node.ensures ∙ c.found-item.ensures.found) in
    window_of_one (children_of f c.args.key) _ c.args.child c.requires.child beside.prev
    (c.in_ok-push_back.ensures.items ∙ ap (λ ks. ks ++ c.args.child ∷ []) c.new-keys.ensures.items) beside.next
