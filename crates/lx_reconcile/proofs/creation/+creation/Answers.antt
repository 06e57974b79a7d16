use Rattle.std.proofs.Common.{sym, ap, ◌∙◌, rules, arith}
use Rattle.std.specs.Prelude.{option_map}
use Rattle.std.proofs.lemmas.Result.{on_ok_weaker, IfOk-weaker}
use Rattle.lx_reconcile.proofs.Children.{last_there, is_found, made_tree, children_fit, child_fits, made_child, fewer_left, left_with}
use Rattle.lx_reconcile.proofs.creation.+creation.Goals as goal

pub create_child-unreachable-requires : goal.create_child-unreachable-requires
create_child-unreachable-requires g t c =
    is_found (g.L.Look.forest c.args.source.now) c.args.key c.requires.there
    (sym (ap (option_map g.L.Item.Looked.lent) c.in_default.is) ∙ c.look.ensures.found c.requires.there)

pub create_children-create_child-requires : goal.create_children-create_child-requires
create_children-create_child-requires g t c =
    let h = child_fits _ _ c.args.key _ _ c.in-Some.child c.loop-at.id _ _ c.loop-at.invariant.same c.requires.sound c.in-Some.is c.requires.room
    c.loop-at.invariant.made in
    search rules

pub create_children-loop-at-smaller : goal.create_children-loop-at-smaller
create_children-loop-at-smaller g t c =
    fewer_left _ _ c.args.key c.in-Some.child _ _ c.loop-at.invariant.same c.requires.sound c.in-Some.is c.loop-at.invariant.made.place c.in-Ok.ensures.next

pub create_children-loop-at-preserved : goal.create_children-loop-at-preserved
create_children-loop-at-preserved g t c = record {
  same = c.in-Ok.ensures.same ∙ c.loop-at.invariant.same;
  made = made_child _ _ _ _ _ _ _ _ _ _ _ _ c.loop-at.invariant.same c.requires.sound c.in-Some.is c.loop-at.invariant.made c.in-Ok.ensures.next
      c.in-Ok.ensures.next_id c.in-Ok.ensures.ops;
  backing = search rules;
  reads = omega (
    arith,
    c.loop-at.invariant.reads,
    c.in-Ok.ensures.reads,
    left_with _ _ c.args.key c.in-Some.child _ _ c.loop-at.invariant.same c.requires.sound c.in-Some.is c.loop-at.invariant.made.place c.in-Ok.ensures.next,
  );
}

pub create_children-returns-in-Err-clause-reads : goal.create_children-returns-in-Err-clause-reads
create_children-returns-in-Err-clause-reads g t c =
    let h = child_fits _ _ c.args.key _ _ c.in-Some.child c.loop-at.id _ _ c.loop-at.invariant.same c.requires.sound c.in-Some.is c.requires.room
    c.loop-at.invariant.made in
    omega (arith, c.loop-at.invariant.reads, c.create_child.ensures.reads, h.part)

pub create_tree-create_children-requires : goal.create_tree-create_children-requires
create_tree-create_children-requires g t c =
    let h = children_fit _ _ _ c.args.id _ c.create_host.ensures.same c.requires.sound c.requires.read c.requires.room in
    search rules

pub create_tree-returns-clause-ops : goal.create_tree-returns-clause-ops
create_tree-returns-clause-ops g t c =
    on_ok_weaker c.create_children.result
    (λ then. made_tree _ _ _ _ _ _ _ _ c.create_host.ensures.same c.requires.sound c.requires.read c.in_ok-create_host.ensures.ops then)
    c.create_children.ensures.ops

pub create_tree-returns-clause-next : goal.create_tree-returns-clause-next
create_tree-returns-clause-next g t c =
    IfOk-weaker c.create_children.result _ _
    (λ next is. is ∙ (children_fit _ _ _ c.args.id _ c.create_host.ensures.same c.requires.sound c.requires.read c.requires.room).all)
    c.create_children.ensures.next

pub create_tree-returns-in_err-create_host-clause-reads : goal.create_tree-returns-in_err-create_host-clause-reads
create_tree-returns-in_err-create_host-clause-reads g t c =
    let h = children_fit _ _ _ c.args.id _ c.create_host.ensures.same c.requires.sound c.requires.read c.requires.room in
    omega (arith, c.create_host.ensures.reads, h.all)

pub create_tree-returns-clause-reads : goal.create_tree-returns-clause-reads
create_tree-returns-clause-reads g t c =
    let h = children_fit _ _ _ c.args.id _ c.create_host.ensures.same c.requires.sound c.requires.read c.requires.room in
    omega (arith, c.create_host.ensures.reads, c.create_children.ensures.reads, h.all)

pub create_tree-create_host-requires : goal.create_tree-create_host-requires
create_tree-create_host-requires g t c =
    record { there = last_there (g.L.Look.forest c.args.source.now) c.args.key c.args.node.now c.requires.sound c.requires.read }
