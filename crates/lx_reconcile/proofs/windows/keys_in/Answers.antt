use Rattle.std.proofs.Common.{◌∙◌, ◌∷◌, [], cond, None, ap, arith, rules, length, length-append}
use Rattle.lx_trees.specs.Siblings.{is_named}
use Rattle.lx_forest.specs.Lookups.{children_of}
use Rattle.lx_reconcile.proofs.Between.{found_more, found_fewer, found_within}
use Rattle.lx_reconcile.proofs.Neighbours.{is_next_in}
use Rattle.lx_reconcile.proofs.windows.keys_in.Goals as goal

pub next_in_run-at-requires : goal.next_in_run-at-requires
next_in_run-at-requires g c = record {
  there = (is_next_in (g.L.Look.forest c.args.source.now) _ c.args.key c.in-Some.child c.loop-at.at c.loop-at.invariant.same c.requires.sound c.in-Some.is
      c.loop-at.invariant.found.place).there;
}

pub loop-at-smaller : goal.loop-at-smaller
loop-at-smaller g c =
    let f = g.L.Look.forest c.args.source.now in
    let next = is_next_in f _ c.args.key c.in-Some.child c.loop-at.at c.loop-at.invariant.same c.requires.sound c.in-Some.is c.loop-at.invariant.found.place in
    found_fewer (children_of f c.args.key) c.args.run.now.last c.loop-at.at c.next_in_run-at.result c.in-Some.child next.once c.in-Some.is
    c.loop-at.invariant.found.place
    (c.next_in_run-at.ensures.next ∙ ap (cond (is_named c.args.run.now.last c.in-Some.child) None) next.next)

pub loop-at-preserved : goal.loop-at-preserved
loop-at-preserved g c =
    let f = g.L.Look.forest c.args.source.now in
    let next = is_next_in f _ c.args.key c.in-Some.child c.loop-at.at c.loop-at.invariant.same c.requires.sound c.in-Some.is c.loop-at.invariant.found.place in
    record {
      same = c.next_in_run-at.ensures.same ∙ c.loop-at.invariant.same;
      found = found_more (children_of f c.args.key) c.args.run.now.first c.args.run.now.last c.loop-at.at c.next_in_run-at.result c.in-Some.child
          c.loop-at.keys.items _ next.once c.in-Some.is c.loop-at.invariant.found
          (c.next_in_run-at.ensures.next ∙ ap (cond (is_named c.args.run.now.last c.in-Some.child) None) next.next) c.in_ok-push.ensures.items;
      backing = search rules;
      reads = omega (
        arith,
        c.next_in_run-at.ensures.reads,
        c.loop-at.invariant.reads,
        ap length c.in_ok-push.ensures.items,
        length-append c.loop-at.keys.items (c.in-Some.child ∷ []),
      );
    }

pub returns-in_err-push-clause-reads : goal.returns-in_err-push-clause-reads
returns-in_err-push-clause-reads g c = omega (arith, c.loop-at.invariant.reads, found_within _ _ _ _ _ c.loop-at.invariant.found)

pub returns-clause-reads : goal.returns-clause-reads
returns-clause-reads g c = omega (arith, c.loop-at.invariant.reads, found_within _ _ _ _ _ c.loop-at.invariant.found)
