use Rattle.std.proofs.Common.{◌≡◌, ◌+◌, ◌≤◌, length}
use Rattle.lx_trees.specs.Siblings.{from_name}
use Rattle.lx_forest.specs.Lookups.{children_of}
use Rattle.lx_reconcile.specs.Looking.{Stays}
use Rattle.lx_reconcile.proofs.Between.{AreFound}
use Rattle.lx_reconcile.proofs.windows.keys_in.Given as goal

abbrev pub invariant-loop-at : goal.invariant-loop-at
invariant-loop-at g l = record {
  same : g.L.Look.forest l.source ≡ g.L.Look.forest l.initial.source;
  found : AreFound (children_of (g.L.Look.forest l.initial.source) l.fn.key) l.run.first l.run.last l.at l.keys.items;
  backing : Stays (g.L.Look.backing l.initial.source) (g.L.Look.backing l.source);
  reads : g.L.Look.count l.source ≤ g.L.Look.count l.initial.source + length l.keys.items;
}

abbrev pub decreases-loop-at : goal.decreases-loop-at
decreases-loop-at g l = length (from_name l.at (children_of (g.L.Look.forest l.fn.source) l.fn.key))
