use Rattle.std.proofs.Common.{◌≡◌, ◌+◌, ◌*◌, All, drop}
use Rattle.lx_step.specs.Sound.{IsSoundListener}
use Rattle.lx_update.specs.Running.{steps_in, offered, dispatches}
use Rattle.lx_update.proofs.dispatching.+dispatch.Given as goal

abbrev pub decreases-dispatch : goal.decreases-dispatch
decreases-dispatch l = 5 * l.dispatcher.left

abbrev pub decreases-run_step : goal.decreases-run_step
decreases-run_step l = 5 * l.dispatcher.left + 1

abbrev pub decreases-run_all : goal.decreases-run_all
decreases-run_all l = 5 * l.dispatcher.left + 2

abbrev pub decreases-offer : goal.decreases-offer
decreases-offer l = 5 * l.dispatcher.left + 3

abbrev pub decreases-offer_all : goal.decreases-offer_all
decreases-offer_all l = 5 * l.dispatcher.left + 4

-- those that are left, after those that have run, come to what all come to
abbrev pub invariant-run_all-loop-step : goal.invariant-run_all-loop-step
invariant-run_all-loop-step l = record {
  same : steps_in (dispatches l.dispatcher) l.sent (drop l.step-index l.steps) l.running
      ≡ steps_in (dispatches l.fn.dispatcher) l.fn.sent l.fn.steps l.fn.running;
}

-- those that are left, after those that were offered the command, come to what all come to
abbrev pub invariant-offer_all-loop-listener : goal.invariant-offer_all-loop-listener
invariant-offer_all-loop-listener l = record {
  can_next : (goal.iterator-offer_all-loop-listener).can_next l.listener-iterator;
  is_finite : (goal.iterator-offer_all-loop-listener).is_finite l.listener-iterator;
  sound : All IsSoundListener l.listener-iterator;
  same : offered (dispatches l.dispatcher) l.payload l.listener-iterator l.running
      ≡ offered (dispatches l.fn.dispatcher) l.fn.payload l.fn.offers l.fn.running;
}
