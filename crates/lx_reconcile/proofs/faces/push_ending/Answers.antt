use Rattle.lx_reconcile.proofs.Changed.{changes_ending, equal_ending, unequal_ending}
use Rattle.lx_reconcile.proofs.faces.push_ending.Goals as goal

pub returns-then-old-new-clause-ending : goal.returns-then-old-new-clause-ending
returns-then-old-new-clause-ending c = λ face e. equal_ending c.args.host face c.args.old c.args.new _ e c.if-old-new.true

pub returns-clause-ending : goal.returns-clause-ending
returns-clause-ending c =
    λ face e. changes_ending c.args.host face c.args.new _ _ (unequal_ending face c.args.old c.args.new e c.if-old-new.false) c.in_ok-push.ensures.items
