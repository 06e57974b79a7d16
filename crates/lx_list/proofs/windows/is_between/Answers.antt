use Rattle.std.proofs.Common.{◌≡◌, ◌∙◌, sym, arith}
use Rattle.lx_list.proofs.WindowEnds.{StepsOn, step_on, before_last, found_between}
use Rattle.lx_list.proofs.windows.is_between.Goals as goal
use Rattle.lx_list.proofs.windows.is_between.Goals.{In-Some}

-- the step to the next one
step : (c : In-Some) → StepsOn c.args.links.now c.args.first c.loop-last.at c.in-Some.next
step c = step_on c.args.links.now c.args.first c.loop-last.at c.in-Some.next c.requires c.loop-last.invariant.sibling (sym c.next.ensures.next ∙ c.in-Some.is)

pub loop-last-smaller : goal.loop-last-smaller
loop-last-smaller c = let s = step (goal.at.loop-last-smaller c).In-Some in omega (arith, s.place, s.within)

pub loop-last-preserved : goal.loop-last-preserved
loop-last-preserved c =
    let s = step (goal.at.loop-last-preserved c).In-Some in
    record {
      sibling = s.to.sibling;
      passed = omega (arith, s.place, c.loop-last.invariant.passed);
      up_to = λ there ordered.
          before_last c.args.links.now c.args.first c.loop-last.at c.args.last c.in-Some.next s (grind (arith, c.if-eq.false, c.eq.ensures)) there
          (c.loop-last.invariant.up_to there ordered);
    }

pub returns : goal.returns
returns c = λ yes m list.
    let is : c.loop-last.at ≡ c.args.key = grind (arith, c.loop-last-test.false, c.ne.ensures) in
    found_between c.args.links.now m list c.args.first c.args.last c.args.key c.requires (rw is at c.loop-last.invariant.sibling)
    (rw is at c.loop-last.invariant.passed) (rw is at c.loop-last.invariant.up_to)
