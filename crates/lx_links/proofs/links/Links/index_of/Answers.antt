use Rattle.std.proofs.Common.{◌∙◌, sym, arith}
use Rattle.lx_links.proofs.Beside.{step_back, still_sibling, few_siblings, counted_back}
use Rattle.lx_links.proofs.links.Links.index_of.Goals as goal

pub overflow_add-index : goal.overflow_add-index
overflow_add-index c =
    omega (
      arith,
      (step_back c.args.self.now c.args.key c.loop-previous.at c.in-Some-previous.previous c.in-Some.field-0 c.previous.ensures.sound
          (sym c.parent.ensures.parent ∙ c.in-Some.is) c.loop-previous.invariant.sibling (sym c.previous.ensures.previous ∙ c.in-Some-previous.is)).place,
      c.loop-previous.invariant.place,
      few_siblings c.args.self.now c.args.key c.in-Some.field-0 c.previous.ensures.sound (sym c.parent.ensures.parent ∙ c.in-Some.is),
    )

pub loop-previous-smaller : goal.loop-previous-smaller
loop-previous-smaller c =
    omega (arith, (step_back c.args.self.now c.args.key c.loop-previous.at c.in-Some-previous.previous c.in-Some.field-0 c.previous.ensures.sound (sym c.parent.ensures.parent ∙ c.in-Some.is) c.loop-previous.invariant.sibling (sym c.previous.ensures.previous ∙ c.in-Some-previous.is)).place)

pub loop-previous-preserved : goal.loop-previous-preserved
loop-previous-preserved c = record {
  sibling =
      still_sibling c.args.self.now c.args.key c.loop-previous.at c.in-Some-previous.previous c.in-Some.field-0 c.previous.ensures.sound
      (sym c.parent.ensures.parent ∙ c.in-Some.is) c.loop-previous.invariant.sibling (sym c.previous.ensures.previous ∙ c.in-Some-previous.is);
  place =
      omega (arith, (step_back c.args.self.now c.args.key c.loop-previous.at c.in-Some-previous.previous c.in-Some.field-0 c.previous.ensures.sound (sym c.parent.ensures.parent ∙ c.in-Some.is) c.loop-previous.invariant.sibling (sym c.previous.ensures.previous ∙ c.in-Some-previous.is)).place, c.loop-previous.invariant.place);
}

pub returns-clause-index : goal.returns-clause-index
returns-clause-index c =
    counted_back c.args.self.now c.args.key c.loop-previous.at c.in-Some.field-0 c.loop-previous.index c.previous.ensures.sound
    (sym c.parent.ensures.parent ∙ c.in-Some.is) c.loop-previous.invariant.sibling (sym c.previous.ensures.previous ∙ c.in_default-previous.is)
    c.loop-previous.invariant.place
