use Rattle.std.proofs.Common.{arith}
use Rattle.lx_marks.proofs.Tabled.{name_step}
use Rattle.lx_marks.proofs.names.name_all.Goals as goal

pub others-preserved : goal.others-preserved
others-preserved c =
    let h = c.others.invariant in
    record {
      step =
          name_step c.name_leaf.result _ _ c.args.others.now c.key-item.result c.others.key-index _ _ _ c.others-test.true c.key-item.is
          (c.name_leaf.ensures.succeeds (omega (arith, h.step.room, h.capacity, c.others-test.true))) c.name_leaf.ensures.named (omega arith) h.step;
      capacity = omega (arith, h.capacity, c.name_leaf.ensures.room);
      tabled = c.name_leaf.ensures.kept;
    }
