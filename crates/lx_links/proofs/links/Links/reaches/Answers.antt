use Rattle.std.proofs.Common.{◌∙◌, sym, arith}
use Rattle.lx_links.proofs.Up.{one_up, within_up, within_top, within_met, test_other, test_same}
use Rattle.lx_links.proofs.links.Links.reaches.Goals as goal

pub loop-at-smaller : goal.loop-at-smaller
loop-at-smaller c = omega (arith, one_up c.args.self.now c.loop-at.at c.in-Some.parent c.parent.ensures.sound (sym c.parent.ensures.parent ∙ c.in-Some.is))

pub loop-at-preserved : goal.loop-at-preserved
loop-at-preserved c =
    c.loop-at.invariant
    ∙ within_up c.args.self.now c.args.outer c.loop-at.at c.in-Some.parent c.parent.ensures.sound (sym c.parent.ensures.parent ∙ c.in-Some.is)
    (test_other _ _ (sym c.ne.ensures ∙ c.loop-at-test.true))

pub returns-in-None-clause-within : goal.returns-in-None-clause-within
returns-in-None-clause-within c =
    sym (c.loop-at.invariant
    ∙ within_top c.args.self.now c.args.outer c.loop-at.at c.parent.ensures.sound (sym c.parent.ensures.parent ∙ c.in-None.is)
    (test_other _ _ (sym c.ne.ensures ∙ c.loop-at-test.true)))

pub returns-clause-within : goal.returns-clause-within
returns-clause-within c = c.has.ensures.has ∙ sym (c.loop-at.invariant ∙ within_met _ _ _ (test_same _ _ (sym c.ne.ensures ∙ c.loop-at-test.false)))
