use Rattle.std.proofs.Common.{◌≡◌, ◌+◌, ◌*◌, ◌≤◌, length}
use Rattle.lx_trees.specs.NamedTrees.{total}
use Rattle.lx_trees.specs.Siblings.{from_name}
use Rattle.lx_forest.specs.Lookups.{alone, trees_of, children_of}
use Rattle.lx_reconcile.specs.Looking.{Stays}
use Rattle.lx_reconcile.proofs.Children.{IsMadeUpTo}
use Rattle.lx_reconcile.proofs.creation.+creation.Given as goal

abbrev pub decreases-create_child : goal.decreases-create_child
decreases-create_child g l = 3 * total (alone l.key (g.L.Look.forest l.source.now)) + 2

abbrev pub decreases-create_children : goal.decreases-create_children
decreases-create_children g l = 3 * total (alone l.key (g.L.Look.forest l.source.now))

abbrev pub decreases-create_tree : goal.decreases-create_tree
decreases-create_tree g l = 3 * total (alone l.key (g.L.Look.forest l.source.now)) + 1

abbrev pub invariant-create_children-loop-at : goal.invariant-create_children-loop-at
invariant-create_children-loop-at g l = record {
  same : g.L.Look.forest l.source ≡ g.L.Look.forest l.initial.source;
  made : IsMadeUpTo (g.L.Look.forest l.initial.source) l.fn.key l.host l.initial.ops.items l.at l.id l.ops.items;
  backing : Stays (g.L.Look.backing l.initial.source) (g.L.Look.backing l.source);
  reads : g.L.Look.count l.source
      + 2 * total (trees_of (g.L.Look.forest l.initial.source) (from_name l.at (children_of (g.L.Look.forest l.initial.source) l.fn.key)))
      ≤ g.L.Look.count l.initial.source + 2 * total (trees_of (g.L.Look.forest l.initial.source) (children_of (g.L.Look.forest l.initial.source) l.fn.key));
}

abbrev pub decreases-create_children-loop-at : goal.decreases-create_children-loop-at
decreases-create_children-loop-at g l = length (from_name l.at (children_of (g.L.Look.forest l.fn.source) l.fn.key))
