use Rattle.std.proofs.Common.{◌≡◌, map, take}
use Rattle.lx_reconcile.specs.Walk as walks
use Rattle.lx_reconcile.proofs.windows.all_toward.Given as goal

abbrev pub invariant-loop-step : goal.invariant-loop-step
invariant-loop-step l = l.made.items ≡ map (walks.toward l.window.behind) (take l.step-index l.moves)
