use Rattle.std.proofs.Common.{sym, rules, arith}
use Rattle.std.proofs.lemmas.Grind.{common_steps}
use Rattle.lx_edit.proofs.Offsets.{none_passed, one_passed}
use Rattle.lx_update.proofs.splitting.narrowed_within.Goals as goal

pub loop-offset-init : goal.loop-offset-init
loop-offset-init c = record { utf8 = c.utf8.text; passed = none_passed _ _; small = c.new-small.ensures.items }

pub loop-offset-preserved : goal.loop-offset-preserved
loop-offset-preserved c = record {
  utf8 = search rules;
  passed =
      one_passed _ _ _ _ _ c.loop-offset.invariant.passed c.loop-offset-test.true c.if-offset-low.false (search rules) _ (sym c.in-Some.ensures.found)
      c.in-Some.ensures.rest;
  small = grind (arith, common_steps);
}
