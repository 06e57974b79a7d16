use Rattle.std.proofs.Common.{◌≡◌, ◌+◌, ◌*◌, length}
use Rattle.lx_trees.specs.NamedTrees.{total}
use Rattle.lx_trees.specs.Siblings.{from_name}
use Rattle.lx_forest.specs.Lookups.{alone, children_of}
use Rattle.lx_reconcile.proofs.CountedNodes.{IsCountedUpTo}
use Rattle.lx_reconcile.proofs.counting.+counting.Given as goal

abbrev pub decreases-count_child : goal.decreases-count_child
decreases-count_child g l = 2 * total (alone l.key (g.N.Look.backing l.after.now).whole) + 1

abbrev pub decreases-count_children : goal.decreases-count_children
decreases-count_children g l = 2 * total (alone l.key (g.N.Look.backing l.after.now).whole)

abbrev pub invariant-count_children-loop-at : goal.invariant-count_children-loop-at
invariant-count_children-loop-at g l = record {
  before : (g.O.Look.backing l.before).whole ≡ (g.O.Look.backing l.initial.before).whole;
  after : (g.N.Look.backing l.after).whole ≡ (g.N.Look.backing l.initial.after).whole;
  counted : IsCountedUpTo l.kept (alone 0 (g.O.Look.backing l.initial.before).whole) (g.N.Look.backing l.initial.after).whole l.key l.at l.count;
}

abbrev pub decreases-count_children-loop-at : goal.decreases-count_children-loop-at
decreases-count_children-loop-at g l = length (from_name l.at (children_of (g.N.Look.backing l.fn.after).whole l.key))
