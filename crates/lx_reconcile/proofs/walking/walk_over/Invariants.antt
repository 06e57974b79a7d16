use Rattle.lx_reconcile.specs.Underway.{IsAlong, left_of}
use Rattle.lx_reconcile.proofs.walking.walk_over.Given as goal

abbrev pub invariant-loop-walk : goal.invariant-loop-walk
invariant-loop-walk l = IsAlong l.old l.new l.walk

abbrev pub decreases-loop-walk : goal.decreases-loop-walk
decreases-loop-walk l = left_of l.old l.new l.walk
