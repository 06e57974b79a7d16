use Rattle.std.proofs.Common.{arith}
use Rattle.lx_host.proofs.Needed.{hosts_for-le}
use Rattle.lx_host.proofs.room.hosts_among.Goals as goal

pub overflow_add-hosts : goal.overflow_add-hosts
overflow_add-hosts c = omega (arith, c.loop-op.invariant.few, c.hosts_for-hosts.ensures, hosts_for-le c.op-item.result)
