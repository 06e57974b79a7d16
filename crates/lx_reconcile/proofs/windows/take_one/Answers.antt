use Rattle.std.proofs.Common.{◌≡◌, ◌∙◌, sym, ap, Some}
use Rattle.lx_forest.specs.Lookups.{children_of}
use Rattle.lx_forest.proofs.Lookups.{NoRepeats-children_of}
use Rattle.lx_reconcile.specs.Allowing.{marking}
use Rattle.lx_reconcile.specs.Windows.{beside}
use Rattle.lx_reconcile.proofs.Children.{child_left, child_there}
use Rattle.lx_reconcile.proofs.Neighbours.{is_beside}
use Rattle.lx_reconcile.proofs.Runs.{beside_among, taken}
use Rattle.lx_reconcile.proofs.windows.take_one.Goals as goal

pub found-item-requires : goal.found-item-requires
found-item-requires g c =
    let f = g.L.Look.forest c.args.source.now in
    let among =
    beside_among c.grows_behind-behind.result (children_of f c.args.key) c.args.window.now c.in-Some.child c.requires.run
    (sym c.beside.ensures ∙ c.in-Some.is) in
    record { there = child_there f c.args.key c.in-Some.child c.requires.sound among }

pub returns-clause-taken : goal.returns-clause-taken
returns-clause-taken g c =
    let f = g.L.Look.forest c.args.source.now in
    let here : beside c.grows_behind-behind.result c.args.window.now ≡ Some c.in-Some.child = sym c.beside.ensures ∙ c.in-Some.is in
    let among = beside_among c.grows_behind-behind.result (children_of f c.args.key) c.args.window.now c.in-Some.child c.requires.run here in
    let own = child_left f c.args.key c.in-Some.child c.requires.sound among in
    let node =
    is_beside f c.args.key c.in-Some.child c.node.result.now c.requires.sound among (ap (λ n. Some n) c.node.ensures ∙ c.found-item.ensures.found) in
    taken (marking c.args.marks.now).noted (children_of f c.args.key) c.args.window.now _ c.grows_behind-behind.result c.in-Some.child c.node.result.now
    c.is_noted.result
    (NoRepeats-children_of f c.args.key own.ordered) c.requires.run here node.prev node.next c.in_ok-add.ensures c.is_noted.ensures
