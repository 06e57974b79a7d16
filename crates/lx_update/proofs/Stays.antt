-- What stays through whatever a line runs: a relation that each step keeps by itself is kept by steps, offers and dispatches of
-- any depth, and by all that is queued.
use Rattle.std.proofs.Common.{◌≡◌, ℕ, zero, suc, Bool, true, false, List, [], ◌∷◌, Option, None, Some, Result, Ok, Err, refl, if◌then◌else◌}
use Rattle.lx_node.specs.declared.cause.Cause.{Cause}
use Rattle.lx_step.specs.BuiltIns.{built_in}
use Rattle.lx_step.specs.Spelled.{steps_of}
use Rattle.lx_step.specs.declared.built_in.BuiltIn.{BuiltIn}
use Rattle.lx_step.specs.declared.command.Payload.{Payload}
use Rattle.lx_step.specs.declared.listener.Listener.{Listener}
use Rattle.lx_step.specs.declared.step.Step.{Step}
use Rattle.lx_step.specs.declared.step.Step.TheVariants as step
use Rattle.lx_bus.specs.Offers.{above, behind}
use Rattle.lx_draft.specs.Faults.{after}
use Rattle.lx_update.specs.Holding.{conditions_hold}
use Rattle.lx_update.specs.Scripts.{effect_of}
use Rattle.lx_update.specs.Running.{Running, Queued, Dispatching, running, on_script, take_count, queued, done_by, done_if, payload_for, effect_in, step_in, steps_in, answered, offer, offered, unless_handled, built_in_or, dispatched, most_nested, queue_in_turn, emptied}

-- what is made, if it is, is so
abbrev pub Makes : {A E : Type 0} → (A → Type 0) → Result A E → Type 0
Makes P (Ok a) = P a
Makes P (Err e) = Unit {0}

pub makes_told : {A E : Type 0} (P : A → Type 0) (r : Result A E) → ((a : A) → r ≡ Ok a → P a) → Makes P r
makes_told P (Ok a) each = each a refl
makes_told P (Err e) each = tt

pub makes_on : {A E : Type 0} (P Q : A → Type 0) (r : Result A E) → Makes P r → ((a : A) → P a → Q a) → Makes Q r
makes_on P Q (Ok a) p each = each a p
makes_on P Q (Err e) p each = tt

pub makes_from : {A B : Type 0} (Q : B → Type 0) (first : Result A Cause) (next : A → Result B Cause) → ((a : A) → first ≡ Ok a → Makes Q (next a))
    → Makes Q (after first next)
makes_from Q (Ok a) next each = each a refl
makes_from Q (Err cause) next each = tt

pub makes_then : {A B : Type 0} (P : A → Type 0) (Q : B → Type 0) (first : Result A Cause) (next : A → Result B Cause) → Makes P first
    → ((a : A) → P a → Makes Q (next a)) → Makes Q (after first next)
makes_then P Q (Ok a) next p each = each a p
makes_then P Q (Err cause) next p each = tt

-- A relation of what a line works on to what it became. A step may rely on D, which holds again after each.
pub record IsKept (D : Running → Type 0) (R : Running → Running → Type 0) : Type 0 where
  pub ready : (m n : Running) → R m n → D n
  pub same : (m : Running) → D m → R m m
  pub on : (m n o : Running) → R m n → R n o → R m o
  pub counted : (m n : Running) → D m → take_count m ≡ Ok n → R m n
  pub plain : (s : Step) (m n : Running) → D m → on_script (effect_of s) m ≡ Ok n → R m n
  pub does : (command : BuiltIn) (sent : Payload) (m n : Running) → D m → done_by command sent m ≡ Ok n → R m n
  pub later : (m n : Running) (steps : List Step) (sent : Payload) → D m → take_count m ≡ Ok n → R m (queued steps sent n)

abbrev pub Keeps : (Running → Type 0) → (Running → Running → Type 0) → Dispatching → Type 0
Keeps D R d = (name : List ℕ) (sent : Payload) (m : Running) → D m → Makes (λ r. R m r.0) (d name sent m)

if_answered : (P : Running × Bool → Type 0) (b : Bool) (r : Result (Running × Bool) Cause) (m : Running) → Makes P r → P (m, false)
    → Makes P (if b then r else Ok (m, false))
if_answered P true r m p q = p
if_answered P false r m p q = q

unless : (P : Running × Bool → Type 0) (next : Running → Result (Running × Bool) Cause) (n : Running) (b : Bool) → P (n, b) → Makes P (next n)
    → Makes P (if b then Ok (n, b) else next n)
unless P next n true p q = p
unless P next n false p q = q

-- ---- built-in commands

built_in_keeps : (D : Running → Type 0) (R : Running → Running → Type 0) → IsKept D R → (command : BuiltIn) (sent : Payload) (m : Running) → D m
    → Makes (R m) (done_by command sent m)
built_in_keeps D R kept command sent m ready = makes_told (R m) (done_by command sent m) (λ n e. kept.does command sent m n ready e)

pub done_keeps : (D : Running → Type 0) (R : Running → Running → Type 0) → IsKept D R → (o : Option BuiltIn) (sent : Payload) (m : Running) → D m
    → Makes (R m) (done_if o sent m)
done_keeps D R kept None sent m ready = tt
done_keeps D R kept (Some command) sent m ready = built_in_keeps D R kept command sent m ready

-- ---- steps

effect_keeps : (D : Running → Type 0) (R : Running → Running → Type 0) → IsKept D R → (d : Dispatching) → Keeps D R d
    → (sent : Payload) (s : Step) (m n : Running) → D m → take_count m ≡ Ok n → Makes (R m) (effect_in d sent s n)
effect_keeps D R kept d keeps sent (step.Do c) m n ready e =
    let begun : R m n = kept.counted m n ready e in
    makes_on (R n) (R m) (done_if (built_in c.name) (payload_for sent c.payload) n)
    (done_keeps D R kept (built_in c.name) (payload_for sent c.payload) n (kept.ready m n begun)) (λ o h. kept.on m n o begun h)
effect_keeps D R kept d keeps sent (step.Dispatch c) m n ready e =
    let begun : R m n = kept.counted m n ready e in
    makes_then (λ r. R n r.0) (R m) (d c.name (payload_for sent c.payload) n) (λ r. Ok r.0) (keeps c.name (payload_for sent c.payload) n (kept.ready m n begun))
    (λ r h. kept.on m n r.0 begun h)
effect_keeps D R kept d keeps sent (step.Later script) m n ready e = kept.later m n (steps_of script) sent ready e
effect_keeps D R kept d keeps sent s m n ready e =
    let begun : R m n = kept.counted m n ready e in
    makes_told (R m) (on_script (effect_of s) n) (λ o f. kept.on m n o begun (kept.plain s n o (kept.ready m n begun) f))

pub step_keeps : (D : Running → Type 0) (R : Running → Running → Type 0) → IsKept D R → (d : Dispatching) → Keeps D R d
    → (sent : Payload) (s : Step) (m : Running) → D m → Makes (R m) (step_in d sent s m)
unfolding step_in
step_keeps D R kept d keeps sent s m ready = makes_from (R m) (take_count m) (effect_in d sent s) (λ n e. effect_keeps D R kept d keeps sent s m n ready e)

pub steps_keep : (D : Running → Type 0) (R : Running → Running → Type 0) → IsKept D R → (d : Dispatching) → Keeps D R d
    → (sent : Payload) (steps : List Step) (m : Running) → D m → Makes (R m) (steps_in d sent steps m)
unfolding steps_in
steps_keep D R kept d keeps sent [] m ready = kept.same m ready
steps_keep D R kept d keeps sent (s ∷ steps) m ready =
    makes_then (R m) (R m) (step_in d sent s m) (steps_in d sent steps) (step_keeps D R kept d keeps sent s m ready)
    (λ n h. makes_on (R n) (R m) (steps_in d sent steps n) (steps_keep D R kept d keeps sent steps n (kept.ready m n h)) (λ o i. kept.on m n o h i))

-- ---- offers

answered_keeps : (D : Running → Type 0) (R : Running → Running → Type 0) → IsKept D R → (d : Dispatching) → Keeps D R d
    → (sent : Payload) (l : Listener) (m n : Running) → R m n → Makes (λ r. R m r.0) (answered d sent l n)
answered_keeps D R kept d keeps sent l m n begun =
    if_answered (λ r. R m r.0) (conditions_hold l.when sent n.script.draft) (after (steps_in d sent (steps_of l.steps) n) (λ o. Ok (o, l.handled))) n
    (makes_then (R n) (λ r. R m r.0) (steps_in d sent (steps_of l.steps) n) (λ o. Ok (o, l.handled))
    (steps_keep D R kept d keeps sent (steps_of l.steps) n (kept.ready m n begun))
    (λ o h. kept.on m n o begun h)) begun

offer_keeps : (D : Running → Type 0) (R : Running → Running → Type 0) → IsKept D R → (d : Dispatching) → Keeps D R d
    → (sent : Payload) (l : Listener) (m : Running) → D m → Makes (λ r. R m r.0) (offer d sent l m)
unfolding offer
offer_keeps D R kept d keeps sent l m ready =
    makes_from (λ r. R m r.0) (take_count m) (answered d sent l) (λ n e. answered_keeps D R kept d keeps sent l m n (kept.counted m n ready e))

pub offered_keep : (D : Running → Type 0) (R : Running → Running → Type 0) → IsKept D R → (d : Dispatching) → Keeps D R d
    → (sent : Payload) (ls : List Listener) (m : Running) → D m → Makes (λ r. R m r.0) (offered d sent ls m)
unfolding offered
offered_keep D R kept d keeps sent [] m ready = kept.same m ready
offered_keep D R kept d keeps sent (l ∷ ls) m ready =
    makes_then (λ r. R m r.0) (λ r. R m r.0) (offer d sent l m) (unless_handled (offered d sent ls)) (offer_keeps D R kept d keeps sent l m ready)
    (λ r h. unless (λ r. R m r.0) (offered d sent ls) r.0 r.1 h
    (makes_on (λ o. R r.0 o.0) (λ o. R m o.0) (offered d sent ls r.0) (offered_keep D R kept d keeps sent ls r.0 (kept.ready m r.0 h))
    (λ o i. kept.on m r.0 o.0 h i)))

-- ---- dispatches

behind_keeps : (D : Running → Type 0) (R : Running → Running → Type 0) → IsKept D R → (d : Dispatching) → Keeps D R d
    → (o : Option BuiltIn) (sent : Payload) (ls : List Listener) (m : Running) → D m → Makes (λ r. R m r.0) (built_in_or o d sent ls m)
behind_keeps D R kept d keeps None sent ls m ready = offered_keep D R kept d keeps sent ls m ready
behind_keeps D R kept d keeps (Some command) sent ls m ready =
    makes_from (λ r. R m r.0) (take_count m) (λ n. after (done_by command sent n) (λ o. Ok (o, true))) (λ n e.
    let begun : R m n = kept.counted m n ready e in
    makes_then (λ o. R n o) (λ r. R m r.0) (done_by command sent n) (λ o. Ok (o, true)) (built_in_keeps D R kept command sent n (kept.ready m n begun))
    (λ o h. kept.on m n o begun h))

pub dispatched_keeps : (D : Running → Type 0) (R : Running → Running → Type 0) → IsKept D R → (left : ℕ) (ls : List Listener) → Keeps D R (dispatched left ls)
unfolding dispatched
dispatched_keeps D R kept zero ls name sent m ready = tt
dispatched_keeps D R kept (suc left) ls name sent m ready =
    makes_then (λ r. R m r.0) (λ r. R m r.0) (offered (dispatched left ls) sent (above name ls) m)
    (unless_handled (built_in_or (built_in name) (dispatched left ls) sent (behind name ls)))
    (offered_keep D R kept (dispatched left ls) (dispatched_keeps D R kept left ls) sent (above name ls) m ready)
    (λ r h. unless (λ r. R m r.0) (built_in_or (built_in name) (dispatched left ls) sent (behind name ls)) r.0 r.1 h
    (makes_on (λ o. R r.0 o.0) (λ o. R m o.0) (built_in_or (built_in name) (dispatched left ls) sent (behind name ls) r.0)
    (behind_keeps D R kept (dispatched left ls) (dispatched_keeps D R kept left ls) (built_in name) sent (behind name ls) r.0 (kept.ready m r.0 h))
    (λ o i. kept.on m r.0 o.0 h i)))

-- ---- the queue

-- ... that holds whatever is queued
abbrev pub IsOfScripts : (Running → Type 0) → (Running → Running → Type 0) → Type 0
IsOfScripts D R = (m : Running) (queue : List Queued) → D m → R m (running m.script queue)

turn_keeps : (D : Running → Type 0) (R : Running → Running → Type 0) → IsKept D R → IsOfScripts D R → (more : ℕ) (ls : List Listener) (m : Running) → D m
    → ((n : Running) → D n → Makes (R n) (emptied more ls n))
    → (queue : List Queued) → Makes (R m) (queue_in_turn (steps_in (dispatched most_nested ls)) (emptied more ls) queue m)
turn_keeps D R kept free more ls m ready next [] = kept.same m ready
turn_keeps D R kept free more ls m ready next (q ∷ queue) =
    let taken : R m (running m.script queue) = free m queue ready in
    makes_then (R m) (R m) (steps_in (dispatched most_nested ls) q.sent q.steps (running m.script queue)) (emptied more ls)
    (makes_on (R (running m.script queue)) (R m) (steps_in (dispatched most_nested ls) q.sent q.steps (running m.script queue))
    (steps_keep D R kept (dispatched most_nested ls) (dispatched_keeps D R kept most_nested ls) q.sent q.steps (running m.script queue)
    (kept.ready m (running m.script queue) taken))
    (λ n h. kept.on m (running m.script queue) n taken h))
    (λ n h. makes_on (R n) (R m) (emptied more ls n) (next n (kept.ready m n h)) (λ o i. kept.on m n o h i))

pub emptied_keeps : (D : Running → Type 0) (R : Running → Running → Type 0) → IsKept D R → IsOfScripts D R → (more : ℕ) (ls : List Listener) (m : Running) → D m
    → Makes (R m) (emptied more ls m)
unfolding emptied
emptied_keeps D R kept free zero ls m ready = kept.same m ready
emptied_keeps D R kept free (suc more) ls m ready = turn_keeps D R kept free more ls m ready (emptied_keeps D R kept free more ls) m.queue
