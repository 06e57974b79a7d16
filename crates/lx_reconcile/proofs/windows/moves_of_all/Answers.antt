use Rattle.std.proofs.Common.{◌∙◌, sym, subst}
use Rattle.lx_trees.specs.Siblings.{NoRepeats}
use Rattle.lx_forest.proofs.Lookups.{NoRepeats-children_of}
use Rattle.lx_reconcile.proofs.windows.moves_of_all.Goals as goal

pub walk-requires-clause-old : goal.walk-requires-clause-old
walk-requires-clause-old g c =
    subst NoRepeats (sym (c.as_slice.ensures.value ∙ c.in_ok-old.ensures.keys))
    (NoRepeats-children_of (g.O.Look.forest c.args.before.now) c.args.key c.requires.ordered_before)

pub walk-requires-clause-new : goal.walk-requires-clause-new
walk-requires-clause-new g c =
    subst NoRepeats (sym (c.as_slice-2.ensures.value ∙ c.in_ok-new.ensures.keys))
    (NoRepeats-children_of (g.N.Look.forest c.args.after.now) c.args.key c.requires.ordered_after)
