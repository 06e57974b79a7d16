use Rattle.std.proofs.Common.{arith}
use Rattle.lx_marks.proofs.Tabled.{flag_step}
use Rattle.lx_marks.proofs.flags.flag_all.Goals as goal

pub others-preserved : goal.others-preserved
others-preserved c =
    let h = c.others.invariant in
    record {
      step =
          flag_step c.flag_element.result _ _ c.args.others.now c.others-item.result c.others.key-index _ _ _ c.others-test.true c.others-item.is
          (c.flag_element.ensures.succeeds (omega (arith, h.step.room, h.capacity, c.others-test.true))) c.flag_element.ensures.flagged (omega arith) h.step;
      capacity = omega (arith, h.capacity, c.flag_element.ensures.room);
      tabled = c.flag_element.ensures.kept;
    }
