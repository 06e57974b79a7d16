use Rattle.std.proofs.Common.{◌≡◌, ◌∙◌, sym, ap, Some, true, option_map, arith, rules}
use Rattle.lx_forest.specs.Lookups.{alone, is_attached}
use Rattle.lx_reconcile.proofs.Children.{is_found, fewer_left}
use Rattle.lx_reconcile.proofs.CountedNodes.{counted_node, child_next, counted_more}
use Rattle.lx_reconcile.proofs.counting.+counting.Goals as goal

-- ---- a child

pub count_child-unreachable-requires : goal.count_child-unreachable-requires
count_child-unreachable-requires g t c =
    is_found (g.N.Look.backing c.args.after.now).whole c.args.key c.requires.there
    (sym (ap (option_map g.N.Item.Looked.lent) c.in_default.is) ∙ c.look.ensures.whole_found)

pub count_child-returns-then-stays-clause-count : goal.count_child-returns-then-stays-clause-count
count_child-returns-then-stays-clause-count g t c =
    let read = ap (λ n. Some n) c.node-node.ensures ∙ sym (ap (option_map g.N.Item.Looked.lent) c.in-Some.is) ∙ c.look.ensures.whole_found in
    (counted_node c.args.kept c.is_kept-stays.result (g.O.Look.backing c.args.before.now).whole _ (g.N.Look.backing c.args.after.now).whole _ c.args.parent
    c.args.key c.node-node.result.now c.count_children-below.result
    c.is_kept-stays.ensures.same c.look.ensures.backing.1 c.look.ensures.whole_sound read c.is_kept-stays.ensures.kept
    c.count_children-below.ensures.count).kept c.if-stays.true

pub count_child-overflow_add-result : goal.count_child-overflow_add-result
count_child-overflow_add-result g t c =
    let read = ap (λ n. Some n) c.node-node.ensures ∙ sym (ap (option_map g.N.Item.Looked.lent) c.in-Some.is) ∙ c.look.ensures.whole_found in
    let h = counted_node c.args.kept c.is_kept-stays.result (g.O.Look.backing c.args.before.now).whole _ (g.N.Look.backing c.args.after.now).whole _
    c.args.parent c.args.key c.node-node.result.now c.count_children-below.result
    c.is_kept-stays.ensures.same c.look.ensures.backing.1 c.look.ensures.whole_sound read c.is_kept-stays.ensures.kept c.count_children-below.ensures.count in
    omega (arith, h.fits)

pub count_child-returns-clause-count : goal.count_child-returns-clause-count
count_child-returns-clause-count g t c =
    let read = ap (λ n. Some n) c.node-node.ensures ∙ sym (ap (option_map g.N.Item.Looked.lent) c.in-Some.is) ∙ c.look.ensures.whole_found in
    (counted_node c.args.kept c.is_kept-stays.result (g.O.Look.backing c.args.before.now).whole _ (g.N.Look.backing c.args.after.now).whole _ c.args.parent
    c.args.key c.node-node.result.now c.count_children-below.result
    c.is_kept-stays.ensures.same c.look.ensures.backing.1 c.look.ensures.whole_sound read c.is_kept-stays.ensures.kept
    c.count_children-below.ensures.count).other c.if-stays.false

-- ---- the children

pub count_children-count_child-counted-requires : goal.count_children-count_child-counted-requires
count_children-count_child-counted-requires g t c =
    let h = child_next (g.N.Look.backing c.args.after.now).whole (g.N.Look.backing c.loop-at.after).whole c.args.key c.in-Some.child c.loop-at.at
    c.loop-at.invariant.after c.requires.sound c.in-Some.is c.loop-at.invariant.counted.place in
    let inside : c.args.kept ≡ true → is_attached (g.O.Look.backing c.loop-at.before).whole c.args.key ≡ true =
    λ e. ap (λ w. is_attached w c.args.key) c.loop-at.invariant.before ∙ c.requires.in_tree e in
    search rules

pub count_children-overflow_add-count : goal.count_children-overflow_add-count
count_children-overflow_add-count g t c =
    let h = counted_more c.args.kept (alone 0 (g.O.Look.backing c.args.before.now).whole) (alone 0 (g.O.Look.backing c.loop-at.before).whole)
    (g.N.Look.backing c.args.after.now).whole (g.N.Look.backing c.loop-at.after).whole c.args.key c.in-Some.child c.loop-at.at
    c.count_child-counted.result.1 c.loop-at.count c.count_child-counted.result.0
    (ap (alone 0) c.loop-at.invariant.before) c.loop-at.invariant.after c.requires.sound c.in-Some.is c.loop-at.invariant.counted
    c.count_child-counted.ensures.count c.count_child-counted.ensures.next in
    omega (arith, h.0, c.requires.sound.small)

pub count_children-loop-at-smaller : goal.count_children-loop-at-smaller
count_children-loop-at-smaller g t c =
    fewer_left (g.N.Look.backing c.args.after.now).whole (g.N.Look.backing c.loop-at.after).whole c.args.key c.in-Some.child c.loop-at.at
    c.count_child-counted.result.1 c.loop-at.invariant.after c.requires.sound c.in-Some.is c.loop-at.invariant.counted.place
    c.count_child-counted.ensures.next

pub count_children-loop-at-preserved : goal.count_children-loop-at-preserved
count_children-loop-at-preserved g t c = record {
  before = c.count_child-counted.ensures.before ∙ c.loop-at.invariant.before;
  after = c.count_child-counted.ensures.after ∙ c.loop-at.invariant.after;
  counted =
      (counted_more c.args.kept (alone 0 (g.O.Look.backing c.args.before.now).whole) (alone 0 (g.O.Look.backing c.loop-at.before).whole)
      (g.N.Look.backing c.args.after.now).whole (g.N.Look.backing c.loop-at.after).whole c.args.key c.in-Some.child c.loop-at.at c.count_child-counted.result.1
      c.loop-at.count c.count_child-counted.result.0
      (ap (alone 0) c.loop-at.invariant.before) c.loop-at.invariant.after c.requires.sound c.in-Some.is c.loop-at.invariant.counted
      c.count_child-counted.ensures.count c.count_child-counted.ensures.next).1;
}
