use Rattle.std.proofs.Common.{◌≡◌, ◌∙◌, ◌-◌, ℕ, Bool, All, Result, ap, subst, rules}
use Rattle.std.proofs.lemmas.List.Elements.{All-tail}
use Rattle.lx_node.specs.declared.cause.Cause.{Cause}
use Rattle.lx_step.specs.Sound.{IsSoundListener}
use Rattle.lx_bus.specs.Offers.{above}
use Rattle.lx_draft.specs.Faults.{after}
use Rattle.lx_update.specs.Running.{Running, unless_handled, offered, dispatched}
use Rattle.lx_update.proofs.Runs.{told_of, flagged, done_else, IsPassed, passed_to, dispatched_first, dispatched_behind, dispatched_counted, dispatched_done, dispatched_deepest}
use Rattle.lx_update.proofs.dispatching.+dispatch.Goals as goal
use Rattle.lx_update.proofs.dispatching.+dispatch.Goals.{dispatch-After-offer_all, dispatch-After-named, dispatch-After-offer_all-in-None}

pub dispatch-returns-then-left-eq0-clause-err : goal.dispatch-returns-then-left-eq0-clause-err
dispatch-returns-then-left-eq0-clause-err t c = dispatched_deepest _ _ _ _ _ c.if-left-eq0.true

-- ---- offers

pub offer_all-loop-listener-preserved : goal.offer_all-loop-listener-preserved
unfolding offered
offer_all-loop-listener-preserved t c = record {
  can_next = tt;
  is_finite = tt;
  sound = All-tail IsSoundListener _ _ (subst (λ ls. All IsSoundListener ls) c.in-Some.ensures.steps c.loop-listener.invariant.sound);
  same = search rules;
}

-- ---- dispatches

-- the dispatch goes on from what the listeners above editor answer
goes_on : {t : ℕ} (c : dispatch-After-offer_all t) {r : Result (Running × Bool) Cause}
    → offered (dispatched (c.args.dispatcher.left - 1) c.args.dispatcher.bus.now) c.args.payload.now c.above.result c.args.running.now ≡ r
    → dispatched c.args.dispatcher.left c.args.dispatcher.bus.now c.args.name.now c.args.payload.now c.args.running.now
    ≡ after r (unless_handled (done_else c.args.dispatcher.left c.args.dispatcher.bus.now c.args.name.now c.args.payload.now))
goes_on c answers =
    dispatched_first _ _ _ _ _ c.if-left-eq0.false (c.above.ensures.order ∙ ap (λ name. above name c.args.dispatcher.bus.now) c.as_str.ensures.text) answers

-- none of them has handled it
passed : {t : ℕ} (c : dispatch-After-named t)
    → IsPassed c.args.dispatcher.left c.args.dispatcher.bus.now c.args.name.now c.args.payload.now c.args.running.now c.offer_all.new.running c.named.result
passed c =
    passed_to _ _ _ _ _ _ (goes_on (goal.at.dispatch-After-named _ c).After-offer_all (flagged c.in-Ok-false.ensures.ok c.in-Ok-false.field-0-test))
    c.named.ensures c.as_str-2.ensures.text

-- nor is there a built-in command of the name, and what those after it answer is the answer
behind_it : {t : ℕ} (c : dispatch-After-offer_all-in-None t)
    → offered (dispatched (c.args.dispatcher.left - 1) c.args.dispatcher.bus.now) c.args.payload.now c.behind.result c.offer_all.new.running
    ≡ dispatched c.args.dispatcher.left c.args.dispatcher.bus.now c.args.name.now c.args.payload.now c.args.running.now
behind_it c =
    dispatched_behind (passed (goal.at.dispatch-After-offer_all-in-None _ c).After-named) c.in-None.is c.behind.ensures.order c.as_str-in-None.ensures.text

pub dispatch-returns-in-Ok-true-clause-ok : goal.dispatch-returns-in-Ok-true-clause-ok
dispatch-returns-in-Ok-true-clause-ok t c =
    goes_on (goal.at.dispatch-returns-in-Ok-true-clause-ok t c).After-offer_all (flagged c.in-Ok-true.ensures.ok c.in-Ok-true.field-0-test)

pub dispatch-returns-in-Err-clause-err : goal.dispatch-returns-in-Err-clause-err
dispatch-returns-in-Err-clause-err t c =
    told_of c.in-Err.fault _ _ (λ cause e. goes_on (goal.at.dispatch-returns-in-Err-clause-err t c).After-offer_all e) c.in-Err.ensures.err

pub dispatch-returns-in-Err-count-clause-err : goal.dispatch-returns-in-Err-count-clause-err
dispatch-returns-in-Err-count-clause-err t c =
    dispatched_counted (passed (goal.at.dispatch-returns-in-Err-count-clause-err t c).After-named) c.in-Some.is c.in-Err-count.ensures.err

pub dispatch-returns-in-Err-do_command-clause-err : goal.dispatch-returns-in-Err-do_command-clause-err
dispatch-returns-in-Err-do_command-clause-err t c =
    let at = goal.at.dispatch-returns-in-Err-do_command-clause-err t c in
    told_of c.in-Err-do_command.fault _ _ (λ cause e. dispatched_done (passed at.After-named) c.in-Some.is c.in-Ok.ensures.ok e)
    c.in-Err-do_command.ensures.err

pub dispatch-returns-in-Ok-do_command-clause-ok : goal.dispatch-returns-in-Ok-do_command-clause-ok
dispatch-returns-in-Ok-do_command-clause-ok t c =
    dispatched_done (passed (goal.at.dispatch-returns-in-Ok-do_command-clause-ok t c).After-named) c.in-Some.is c.in-Ok.ensures.ok
    c.in-Ok-do_command.ensures.ok

pub dispatch-returns-in-None-clause-ok : goal.dispatch-returns-in-None-clause-ok
dispatch-returns-in-None-clause-ok t c = rw (behind_it c) at c.offer_all-in-None.ensures.ok

pub dispatch-returns-in-None-clause-err : goal.dispatch-returns-in-None-clause-err
dispatch-returns-in-None-clause-err t c = rw (behind_it c) at c.offer_all-in-None.ensures.err
