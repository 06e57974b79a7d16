use Rattle.std.proofs.Common.{◌∙◌, ◌++◌, ap}
use Rattle.lx_render.specs.Render.{attributes_of, text_of}
use Rattle.lx_reconcile.specs.Created.{attribute_ops, text_ops}
use Rattle.lx_reconcile.proofs.FromNothing.{root_room, root_pushed}
use Rattle.lx_reconcile.proofs.views.operations.Goals as goal

pub create_children-requires-clause-room : goal.create_children-requires-clause-room
create_children-requires-clause-room c =
    root_room c.args.links.now _ _ c.in-Some.root.now c.new-source.ensures.forest c.node.ensures.sound c.in-Some.ensures.node

pub returns-clause-ops : goal.returns-clause-ops
returns-clause-ops c =
    let root = c.in-Some.root.now in
    let first =
    c.in_ok-push_root.ensures
    ∙ ap (λ ops. ops ++ attribute_ops 0 (attributes_of root.kind root.fields) ++ text_ops 0 (text_of root.fields)) c.new-ops.ensures.items in
    root_pushed c.args.links.now _ _ root _ _ c.new-source.ensures.forest c.root-key.ensures c.node.ensures.sound c.in-Some.ensures.node first
    c.in_ok-create_children.ensures.ops
