use Rattle.std.specs.Vec.Iter.{into_iter_items}
use Rattle.lx_host.specs.Hosts.{HostTree, FitInTurn, Leads}
use Rattle.lx_host.specs.Room.{HasRoom}
use Rattle.lx_host.proofs.tree.HostTree.apply.Given as goal

-- what is left fits in turn and has room, and where it leads, all of them lead
abbrev pub invariant-loop-op : goal.invariant-loop-op
invariant-loop-op l = record {
  can : (goal.iterator-loop-op).can_next l.op-iterator;
  finite : (goal.iterator-loop-op).is_finite l.op-iterator;
  fit : FitInTurn l.self.tree (into_iter_items l.op-iterator);
  room : HasRoom (into_iter_items l.op-iterator) l.self.room;
  lead : (w : HostTree) → Leads l.self.tree (into_iter_items l.op-iterator) w → Leads l.fn.self.tree l.fn.ops.items w;
}
