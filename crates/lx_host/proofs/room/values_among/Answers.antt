use Rattle.std.proofs.Common.{arith}
use Rattle.lx_host.proofs.Needed.{values_for-le}
use Rattle.lx_host.proofs.room.values_among.Goals as goal

pub overflow_add-values : goal.overflow_add-values
overflow_add-values c = omega (arith, c.loop-op.invariant.few, c.values_for-values.ensures, values_for-le c.op-item.result)
