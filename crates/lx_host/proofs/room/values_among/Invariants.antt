use Rattle.std.proofs.Common.{◌≡◌, ◌≤◌, take}
use Rattle.std.specs.List.{sum_by}
use Rattle.lx_host.specs.Room.{values_for}
use Rattle.lx_host.proofs.room.values_among.Given as goal

abbrev pub invariant-loop-op : goal.invariant-loop-op
invariant-loop-op l = record {
  sum : l.values ≡ sum_by values_for (take l.op-index l.ops);
  few : l.values ≤ l.op-index;
}
