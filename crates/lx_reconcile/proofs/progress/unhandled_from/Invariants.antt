use Rattle.std.proofs.Common.{◌≡◌, ◌≤◌, ◌-◌, length, drop}
use Rattle.lx_reconcile.specs.Walk.{missing}
use Rattle.lx_reconcile.proofs.progress.unhandled_from.Given as goal

-- only handled ones were passed
abbrev pub invariant-loop-at : goal.invariant-loop-at
invariant-loop-at l = record {
  same : missing (drop l.at l.keys) l.handled.keys ≡ missing (drop l.from l.keys) l.handled.keys;
  within : l.at ≤ length l.keys;
}

abbrev pub decreases-loop-at : goal.decreases-loop-at
decreases-loop-at l = length l.keys - l.at
