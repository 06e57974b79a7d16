use Rattle.std.proofs.Common.{◌≡◌, ◌≤◌, take}
use Rattle.std.specs.List.{sum_by}
use Rattle.lx_host.specs.Room.{hosts_for}
use Rattle.lx_host.proofs.room.hosts_among.Given as goal

abbrev pub invariant-loop-op : goal.invariant-loop-op
invariant-loop-op l = record {
  sum : l.hosts ≡ sum_by hosts_for (take l.op-index l.ops);
  few : l.hosts ≤ l.op-index;
}
