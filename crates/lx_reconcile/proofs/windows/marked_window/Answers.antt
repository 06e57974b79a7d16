use Rattle.std.proofs.Common.{sym, arith}
use Rattle.lx_forest.specs.Lookups.{children_of}
use Rattle.lx_reconcile.specs.Allowing.{marking}
use Rattle.lx_reconcile.proofs.Runs.{all_in, all_of}
use Rattle.lx_reconcile.proofs.windows.marked_window.Goals as goal
use Rattle.lx_reconcile.proofs.windows.marked_window.Goals.{then-loop-left-test+else-is_open, else-loop-left-test}

pub returns-clause-window : goal.returns-clause-window
returns-clause-window g c =
    let children = children_of (g.L.Look.forest c.args.source.now) c.args.key in
    let noted = (marking c.args.marks.now).noted in
    elim c.loop-left-test.branch [
      | then-loop-left-test+else-is_open w ↦
          all_of noted children c.loop-left.window c.loop-left.invariant.is (sym w.if-is_open.ensures) c.loop-left.invariant.some
      | else-loop-left-test w ↦
          all_in noted children c.loop-left.window c.loop-left.invariant.is (omega (arith, c.loop-left.invariant.left, w.loop-left-test))
          c.loop-left.invariant.some
    ]
