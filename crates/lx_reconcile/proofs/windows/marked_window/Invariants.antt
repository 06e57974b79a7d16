use Rattle.std.proofs.Common.{◌≡◌, ◌+◌, ◌≤◌, ◌<◌, ◌-◌, length}
use Rattle.lx_forest.specs.Lookups.{children_of}
use Rattle.lx_reconcile.specs.Allowing.{marking}
use Rattle.lx_reconcile.specs.Windows.{marked_among, IsWindow}
use Rattle.lx_reconcile.specs.Looking.{Stays}
use Rattle.lx_reconcile.proofs.windows.marked_window.Given as goal

abbrev pub invariant-loop-left : goal.invariant-loop-left
invariant-loop-left g l = record {
  same : g.L.Look.forest l.source ≡ g.L.Look.forest l.fn.source;
  is : IsWindow (children_of (g.L.Look.forest l.fn.source) l.fn.key) l.window;
  left : marked_among (marking l.marks).noted (children_of (g.L.Look.forest l.fn.source) l.fn.key)
      ≤ l.left + marked_among (marking l.marks).noted l.window.keys.items;
  some : 0 < length l.window.keys.items;
  backing : Stays (g.L.Look.backing l.fn.source) (g.L.Look.backing l.source);
  reads : g.L.Look.count l.source ≤ g.L.Look.count l.fn.source + length l.window.keys.items;
}

abbrev pub decreases-loop-left : goal.decreases-loop-left
decreases-loop-left g l = length (children_of (g.L.Look.forest l.fn.source) l.fn.key) - length l.window.keys.items
