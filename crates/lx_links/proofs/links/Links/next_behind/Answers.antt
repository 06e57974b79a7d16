use Rattle.std.proofs.Common.{◌∙◌, sym, arith}
use Rattle.lx_links.proofs.InTree.{sibling_behind, sibling_attached, sibling_depth, parent_behind, none_behind, depth_above, is_below, on_none}
use Rattle.lx_links.proofs.links.Links.next_behind.Goals as goal

pub returns-in-Some-clause-next : goal.returns-in-Some-clause-next
returns-in-Some-clause-next c =
    c.loop-next.invariant.behind
    ∙ sibling_behind c.args.self.now c.loop-next.at c.in-Some.next c.loop-next.above c.next.ensures.sound c.loop-next.invariant.depth
    (sym c.next.ensures.next ∙ c.in-Some.is)

pub returns-in-Some-clause-attached : goal.returns-in-Some-clause-attached
returns-in-Some-clause-attached c =
    sibling_attached c.args.self.now c.loop-next.at c.in-Some.next c.loop-next.above c.next.ensures.sound c.loop-next.invariant.depth
    (sym c.next.ensures.next ∙ c.in-Some.is)

pub returns-in-Some-clause-depth : goal.returns-in-Some-clause-depth
returns-in-Some-clause-depth c =
    sibling_depth c.args.self.now c.loop-next.at c.in-Some.next c.loop-next.above c.next.ensures.sound c.loop-next.invariant.depth
    (sym c.next.ensures.next ∙ c.in-Some.is)

pub returns-in_err-at-clause-last : goal.returns-in_err-at-clause-last
returns-in_err-at-clause-last c =
    on_none c.from_residual.result _
    (c.loop-next.invariant.behind
    ∙ none_behind c.args.self.now c.loop-next.at c.loop-next.above c.next.ensures.sound c.loop-next.invariant.depth
    (sym c.parent.ensures.parent ∙ c.in_err-at.was))

pub overflow_sub-above : goal.overflow_sub-above
overflow_sub-above c =
    omega (arith, is_below c.args.self.now c.loop-next.at c.in_ok-at.at c.loop-next.above c.next.ensures.sound c.loop-next.invariant.depth (sym c.parent.ensures.parent ∙ c.in_ok-at.was))

pub loop-next-smaller : goal.loop-next-smaller
loop-next-smaller c =
    omega (arith, is_below c.args.self.now c.loop-next.at c.in_ok-at.at c.loop-next.above c.next.ensures.sound c.loop-next.invariant.depth (sym c.parent.ensures.parent ∙ c.in_ok-at.was))

pub loop-next-preserved : goal.loop-next-preserved
loop-next-preserved c = record {
  depth = depth_above c.args.self.now c.loop-next.at c.in_ok-at.at c.loop-next.above c.next.ensures.sound c.loop-next.invariant.depth
      (sym c.parent.ensures.parent ∙ c.in_ok-at.was);
  behind =
      c.loop-next.invariant.behind
      ∙ parent_behind c.args.self.now c.loop-next.at c.in_ok-at.at c.loop-next.above c.next.ensures.sound c.loop-next.invariant.depth
      (sym c.next.ensures.next ∙ c.in_default.is) (sym c.parent.ensures.parent ∙ c.in_ok-at.was);
}
