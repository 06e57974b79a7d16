use Rattle.std.proofs.Common.{◌∙◌, sym, subst}
use Rattle.lx_trees.specs.Siblings.{NoRepeats}
use Rattle.lx_forest.specs.Lookups.{children_of}
use Rattle.lx_forest.proofs.Lookups.{NoRepeats-children_of}
use Rattle.lx_reconcile.proofs.Between.{between-once}
use Rattle.lx_reconcile.proofs.windows.moves_in.Goals as goal

pub walk-requires-clause-new : goal.walk-requires-clause-new
walk-requires-clause-new g c =
    let f = g.L.Look.forest c.args.after.now in
    subst NoRepeats (sym (c.as_slice.ensures.value ∙ c.in_ok-new.ensures.keys))
    (between-once c.run_after-run.result.first c.run_after-run.result.last (children_of f c.args.key) (NoRepeats-children_of f c.args.key c.requires.ordered))
