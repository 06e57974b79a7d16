use Rattle.std.proofs.Common.{◌<◌, get_or, sym, subst, rules}
use Rattle.lx_edit.proofs.Offsets.{none_passed, none_there, one_passed}
use Rattle.lx_edit.proofs.conditions.bad_offset.Goals as goal

pub loop-offset-init : goal.loop-offset-init
loop-offset-init c = record { utf8 = c.utf8.text; passed = none_passed _ _ }

pub returns-in-None : goal.returns-in-None
returns-in-None c =
    sym (none_there _ _ _ _ _ c.loop-offset.invariant.passed c.loop-offset-test.true c.if-offset-low.false
    (subst (λ n. get_or c.args.offsets.now c.loop-offset.offset-index 0 < n) c.requires c.if-offset-length.false) (sym c.in-None.ensures.found))

pub loop-offset-preserved : goal.loop-offset-preserved
loop-offset-preserved c = record {
  utf8 = search rules;
  passed =
      one_passed _ _ _ _ _ c.loop-offset.invariant.passed c.loop-offset-test.true c.if-offset-low.false
      (subst (λ n. get_or c.args.offsets.now c.loop-offset.offset-index 0 < n) c.requires c.if-offset-length.false) _ (sym c.in-Some.ensures.found)
      c.in-Some.ensures.rest;
}
