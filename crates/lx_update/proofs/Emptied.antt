-- The queue, as far as it has run.
use Rattle.std.proofs.Common.{◌≡◌, ◌∙◌, ◌+◌, ◌-◌, ◌≤◌, ◌<◌, ℕ, zero, suc, List, [], ◌∷◌, length, Ok, refl, ap, arith}
use Rattle.lx_node.specs.Limits.{most_counts}
use Rattle.lx_step.specs.declared.command.Payload.{Payload}
use Rattle.lx_step.specs.declared.listener.Listener.{Listener}
use Rattle.lx_step.specs.declared.step.Step.{Step}
use Rattle.lx_draft.specs.Faults.{after}
use Rattle.lx_update.specs.Running.{Running, Queued, running, queued_first, steps_in, dispatched, most_nested, queue_in_turn, emptied}
use Rattle.lx_update.proofs.Paced.{AnyRunning, IsPaced, paced}
use Rattle.lx_update.proofs.Stays.{Makes, makes_then, steps_keep, dispatched_keeps}

-- ---- turns that are left, after those that were taken

turn_left : (turn most : ℕ) → turn < most → most - turn ≡ suc (most - (turn + 1))
turn_left turn most within = omega (arith, within)

pub emptied_step : (most turn : ℕ) (ls : List Listener) (n : Running) (steps : List Step) (sent : Payload) → turn < most
    → emptied (most - turn) ls (queued_first steps sent n) ≡ after (steps_in (dispatched most_nested ls) sent steps n) (emptied (most - (turn + 1)) ls)
unfolding emptied
emptied_step most turn ls n steps sent within = ap (λ k. emptied k ls (queued_first steps sent n)) (turn_left turn most within)

pub emptied_done : (more : ℕ) (ls : List Listener) (m : Running) → m.queue ≡ [] → emptied more ls m ≡ Ok m
unfolding emptied
emptied_done zero ls m is = refl
emptied_done (suc more) ls m is = ap (λ queue. queue_in_turn (steps_in (dispatched most_nested ls)) (emptied more ls) queue m) is

no_turn : (turn most : ℕ) → most ≤ turn → most - turn ≡ 0
no_turn turn most h = omega (arith, h)

pub emptied_none : (most turn : ℕ) (ls : List Listener) (m : Running) → most ≤ turn → emptied (most - turn) ls m ≡ Ok m
unfolding emptied
emptied_none most turn ls m h = ap (λ n. emptied n ls m) (no_turn turn most h)

-- ---- nothing is left in the queue

longer : {A : Type 0} (xs rest : List A) (x : A) → xs ≡ x ∷ rest → length xs ≡ length rest + 1
longer xs rest x e = let more : suc (length rest) ≡ length rest + 1 = omega arith in ap length e ∙ more

no_length : {A : Type 0} (xs : List A) → length xs ≤ 0 → xs ≡ []
no_length [] h = refl
no_length (x ∷ xs) h = absurd (omega (arith, h))

abbrev IsDone : Running → Type 0
IsDone n = n.queue ≡ []

-- so many turns are enough for a queue
pub record IsEnough (more : ℕ) (m : Running) : Type 0 where
  pub most : m.script.draft.counted ≤ most_counts
  pub turns : length m.queue + most_counts ≤ more + m.script.draft.counted

turn_ends : (more : ℕ) (ls : List Listener) (m : Running) → IsEnough (suc more) m → ((n : Running) → IsEnough more n → Makes IsDone (emptied more ls n))
    → (queue : List Queued) → m.queue ≡ queue → Makes IsDone (queue_in_turn (steps_in (dispatched most_nested ls)) (emptied more ls) queue m)
turn_ends more ls m h next [] e = e
turn_ends more ls m h next (q ∷ rest) e =
    makes_then (IsPaced (running m.script rest)) IsDone (steps_in (dispatched most_nested ls) q.sent q.steps (running m.script rest)) (emptied more ls)
    (steps_keep AnyRunning IsPaced paced (dispatched most_nested ls) (dispatched_keeps AnyRunning IsPaced paced most_nested ls) q.sent q.steps
    (running m.script rest) tt)
    (λ n p. next n (record { most = p.most h.most; turns = omega (arith, p.queued, h.turns, longer m.queue rest q e) }))

pub is_emptied : (more : ℕ) (ls : List Listener) (m : Running) → IsEnough more m → Makes IsDone (emptied more ls m)
unfolding emptied
is_emptied zero ls m h = no_length m.queue (omega (arith, h.most, h.turns))
is_emptied (suc more) ls m h = turn_ends more ls m h (is_emptied more ls) m.queue refl
