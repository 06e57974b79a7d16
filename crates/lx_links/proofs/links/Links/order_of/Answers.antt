use Rattle.std.proofs.Common.{◌∙◌, sym, ap, Some}
use Rattle.lx_links.proofs.Ordered.{none_first, none_second, raised_by, one_above, levelled, siblings_order, test_apart, test_equal}
use Rattle.lx_links.proofs.links.Links.order_of.Goals as goal

pub returns-in_default-clause-order : goal.returns-in_default-clause-order
returns-in_default-clause-order c = none_first c.args.self.now c.args.a c.args.b c.depth.ensures.sound (sym c.depth.ensures.depth ∙ c.in_default.is)

pub returns-in_default-depth-clause-order : goal.returns-in_default-depth-clause-order
returns-in_default-depth-clause-order c =
    none_second c.args.self.now c.args.a c.args.b c.depth.ensures.sound (sym c.depth-2.ensures.depth ∙ c.in_default-depth.is)

pub returns-then-eq-clause-order : goal.returns-then-eq-clause-order
returns-then-eq-clause-order c =
    ap (λ o. Some o) c.cmp.ensures
    ∙ sym (one_above c.args.self.now c.args.a c.args.b c.in-Some.above_a c.in-Some-depth.above_b c.raised-x.result c.raised-y.result c.depth.ensures.sound
    (sym c.depth.ensures.depth ∙ c.in-Some.is) (sym c.depth-2.ensures.depth ∙ c.in-Some-depth.is)
    (raised_by c.args.self.now c.args.a _ _ c.raised-x.result c.saturating_sub.ensures c.raised-x.ensures.within c.raised-x.ensures.above
    c.raised-x.ensures.same c.raised-x.ensures.attached)
    (raised_by c.args.self.now c.args.b _ _ c.raised-y.result c.saturating_sub-2.ensures c.raised-y.ensures.within c.raised-y.ensures.above
    c.raised-y.ensures.same c.raised-y.ensures.attached) (test_equal _ _ (sym c.eq.ensures ∙ c.if-eq.true)))

pub parted-x-requires : goal.parted-x-requires
parted-x-requires c =
    levelled c.args.self.now c.args.a c.args.b c.in-Some.above_a c.in-Some-depth.above_b c.raised-x.result c.raised-y.result c.depth.ensures.sound
    (sym c.depth.ensures.depth ∙ c.in-Some.is) (sym c.depth-2.ensures.depth ∙ c.in-Some-depth.is)
    (raised_by c.args.self.now c.args.a _ _ c.raised-x.result c.saturating_sub.ensures c.raised-x.ensures.within c.raised-x.ensures.above
    c.raised-x.ensures.same c.raised-x.ensures.attached)
    (raised_by c.args.self.now c.args.b _ _ c.raised-y.result c.saturating_sub-2.ensures c.raised-y.ensures.within c.raised-y.ensures.above
    c.raised-y.ensures.same c.raised-y.ensures.attached) (test_apart _ _ (sym c.eq.ensures ∙ c.if-eq.false))

pub returns-clause-order : goal.returns-clause-order
returns-clause-order c =
    c.order_of_siblings.ensures
    ∙ siblings_order c.args.self.now c.args.a c.args.b c.in-Some.above_a c.in-Some-depth.above_b c.raised-x.result c.raised-y.result c.parted-x.result.0
    c.parted-x.result.1 c.depth.ensures.sound (sym c.depth.ensures.depth ∙ c.in-Some.is) (sym c.depth-2.ensures.depth ∙ c.in-Some-depth.is)
    (raised_by c.args.self.now c.args.a _ _ c.raised-x.result c.saturating_sub.ensures c.raised-x.ensures.within c.raised-x.ensures.above
    c.raised-x.ensures.same c.raised-x.ensures.attached)
    (raised_by c.args.self.now c.args.b _ _ c.raised-y.result c.saturating_sub-2.ensures c.raised-y.ensures.within c.raised-y.ensures.above
    c.raised-y.ensures.same c.raised-y.ensures.attached) c.parted-x.ensures
