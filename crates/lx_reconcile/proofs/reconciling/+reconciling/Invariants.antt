use Rattle.std.proofs.Common.{◌≡◌, ◌+◌, ◌*◌, ◌≤◌, [], ◌∷◌, take, Some}
use Rattle.lx_trees.specs.NamedTrees.{total}
use Rattle.lx_forest.specs.Lookups.{alone, trees_of}
use Rattle.lx_reconcile.specs.Allowing.{marking}
use Rattle.lx_reconcile.specs.Reading.{reads_in}
use Rattle.lx_reconcile.specs.Walk.{standing}
use Rattle.lx_reconcile.specs.Making.{MakesMoves, standing_total}
use Rattle.lx_reconcile.specs.Looking.{Stays}
use Rattle.lx_reconcile.proofs.reconciling.+reconciling.Given as goal

abbrev pub decreases-reconcile_node : goal.decreases-reconcile_node
decreases-reconcile_node g l = 4 * total (alone l.key (g.N.Look.forest l.after.now)) + 1

abbrev pub decreases-make_moves : goal.decreases-make_moves
decreases-make_moves g l = 4 * total (alone l.parent.now.key (g.N.Look.forest l.after.now))

abbrev pub decreases-make_move : goal.decreases-make_move
decreases-make_move g l = 4 * standing_total (g.N.Look.forest l.after.now) (l.step ∷ []) + 3

abbrev pub decreases-reconcile_child : goal.decreases-reconcile_child
decreases-reconcile_child g l = 4 * total (alone l.key (g.N.Look.forest l.after.now)) + 2

abbrev pub invariant-make_moves-loop-step : goal.invariant-make_moves-loop-step
invariant-make_moves-loop-step g l = record {
  before : g.O.Look.forest l.before ≡ g.O.Look.forest l.initial.before;
  after : g.N.Look.forest l.after ≡ g.N.Look.forest l.initial.after;
  made : MakesMoves (g.O.Look.forest l.initial.before) (g.N.Look.forest l.initial.after) (marking l.given.marks.now) l.given.hosts.now.tree l.parent.key
      (take l.step-index l.moves) l.initial.written.next l.initial.written.ops.items l.written.ops.items l.written.next;
  backing_before : Stays (g.O.Look.backing l.initial.before) (g.O.Look.backing l.before);
  backing_after : Stays (g.N.Look.backing l.initial.after) (g.N.Look.backing l.after);
  reads : g.O.Look.count l.before + g.N.Look.count l.after
      ≤ g.O.Look.count l.initial.before + g.N.Look.count l.initial.after
      + reads_in (g.O.Look.forest l.initial.before) (marking l.given.marks.now).noted (Some l.parent.key)
      (trees_of (g.N.Look.forest l.initial.after) (standing (take l.step-index l.moves)));
}
