-- What holds of all that a line's own steps make.
use Rattle.std.proofs.Common.{◌≡◌, ◌∙◌, ◌+◌, ◌≤◌, ℕ, List, [], ◌∷◌, None, Result, Ok, Err, refl, ap, sym, subst, arith}
use Rattle.lx_node.specs.Limits.{most_counts}
use Rattle.lx_node.specs.declared.cause.Cause.{Cause}
use Rattle.lx_step.specs.declared.command.Payload.TheVariants.{Nothing}
use Rattle.lx_step.specs.declared.listener.Listener.{Listener}
use Rattle.lx_step.specs.declared.step.Step.{Step}
use Rattle.lx_draft.specs.Covering.{IsReady, AreCovered}
use Rattle.lx_draft.specs.Working.{Working}
use Rattle.lx_draft.specs.Steps.{count_step}
use Rattle.lx_update.specs.declared.refusal.Refusal.{Refusal}
use Rattle.lx_update.specs.declared.refusal.Refusal.TheVariants as refusal
use Rattle.lx_update.specs.Lines.{at_first, script_from, queue_run, steps_run, deferred_run, left_draft, IsEmptied}
use Rattle.lx_update.specs.Refusals.{Refused, at_step, at_none, refused_or, TellsRefusal}
use Rattle.lx_update.specs.Running.{Running, step_in, dispatched, most_nested, emptied}
use Rattle.lx_update.proofs.Covered.{IsReadyRunning, AreCoveredRunning, covered, covered_queue}
use Rattle.lx_update.proofs.Emptied.{IsEnough, is_emptied}
use Rattle.lx_update.proofs.Paced.{AnyRunning, IsPaced, paced, CountsOn, counts_on, counts_on_queue}
use Rattle.lx_update.proofs.Stays.{Makes, makes_on, IsKept, IsOfScripts, step_keeps, dispatched_keeps, emptied_keeps}

-- ---- what stays

pub makes_step : {A B : Type 0} (P : A → Type 0) (Q : B → Type 0) (index : ℕ) (first : Result A Cause) (next : A → Result B Refused) → Makes P first
    → ((a : A) → P a → Makes Q (next a)) → Makes Q (refused_or (at_step index first) next)
makes_step P Q index (Ok a) next p each = each a p
makes_step P Q index (Err cause) next p each = tt

pub makes_and : {A B : Type 0} (P : A → Type 0) (Q : B → Type 0) (first : Result A Refused) (next : A → Result B Refused) → Makes P first
    → ((a : A) → P a → Makes Q (next a)) → Makes Q (refused_or first next)
makes_and P Q (Ok a) next p each = each a p
makes_and P Q (Err refused) next p each = tt

makes_none : {A : Type 0} (P : A → Type 0) (r : Result A Cause) → Makes P r → Makes P (at_none r)
makes_none P (Ok a) p = p
makes_none P (Err cause) p = tt

script_keeps : (D : Running → Type 0) (R : Running → Running → Type 0) → IsKept D R → (at : ℕ) (ls : List Listener) (steps : List Step) (m : Running) → D m
    → Makes (R m) (script_from at ls steps m)
unfolding script_from
script_keeps D R kept at ls [] m ready = kept.same m ready
script_keeps D R kept at ls (s ∷ steps) m ready =
    makes_step (R m) (R m) at (step_in (dispatched most_nested ls) Nothing s m) (script_from (at + 1) ls steps)
    (step_keeps D R kept (dispatched most_nested ls) (dispatched_keeps D R kept most_nested ls) Nothing s m ready)
    (λ n h. makes_on (R n) (R m) (script_from (at + 1) ls steps n) (script_keeps D R kept (at + 1) ls steps n (kept.ready m n h)) (λ o i. kept.on m n o h i))

queue_keeps : (D : Running → Type 0) (R : Running → Running → Type 0) → IsKept D R → IsOfScripts D R → (ls : List Listener) (m n : Running) → R m n
    → Makes (R m) (queue_run ls n)
queue_keeps D R kept free ls m n h =
    makes_none (R m) (emptied most_counts ls n)
    (makes_on (R n) (R m) (emptied most_counts ls n) (emptied_keeps D R kept free most_counts ls n (kept.ready m n h)) (λ o i. kept.on m n o h i))

-- what is kept by each step, and by the queue, is kept by a line's steps
run_keeps : (D : Running → Type 0) (R : Running → Running → Type 0) → IsKept D R → IsOfScripts D R → (ls : List Listener) (steps : List Step) (w : Working)
    → D (at_first w) → Makes (R (at_first w)) (steps_run ls steps w)
unfolding steps_run
run_keeps D R kept free ls steps w ready =
    makes_and (R (at_first w)) (R (at_first w)) (script_from 0 ls steps (at_first w)) (queue_run ls)
    (script_keeps D R kept 0 ls steps (at_first w) ready) (λ n h. queue_keeps D R kept free ls (at_first w) n h)

-- ---- marks

pub queue_covered : (ls : List Listener) (m n : Running) → AreCoveredRunning m n → Makes (AreCoveredRunning m) (queue_run ls n)
queue_covered ls m n c = queue_keeps IsReadyRunning AreCoveredRunning covered covered_queue ls m n c

drafted_so : (P : Working → Type 0) (r : Result Running Refused) (left : Working) → Makes (λ m. P m.script.draft) r → left_draft r ≡ Ok left → P left
drafted_so P (Ok m) left p e = let is : m.script.draft ≡ left = cc in subst P is p
drafted_so P (Err refused) left p e = absurd (cc)

pub steps_told : (ls : List Listener) (steps : List Step) (w left : Working) → left_draft (steps_run ls steps w) ≡ Ok left → IsReady w → AreCovered w left
steps_told ls steps w left e ready =
    drafted_so (AreCovered w) (steps_run ls steps w) left (run_keeps IsReadyRunning AreCoveredRunning covered covered_queue ls steps w ready) e

-- ---- counts

pub steps_count : (ls : List Listener) (steps : List Step) (w left : Working) → left_draft (steps_run ls steps w) ≡ Ok left → w.counted ≤ left.counted
steps_count ls steps w left e =
    drafted_so (λ v. w.counted ≤ v.counted) (steps_run ls steps w) left (run_keeps AnyRunning CountsOn counts_on counts_on_queue ls steps w tt) e

-- ---- nothing is queued any more

enough : (most : ℕ) (w : Working) (m : Running) → w.counted ≤ most_counts → most ≡ most_counts → IsPaced (at_first w) m → IsEnough most m
enough most w m few is p = record { most = p.most few; turns = omega (arith, p.queued, is) }

pub queue_ends : (ls : List Listener) (w : Working) (m : Running) → w.counted ≤ most_counts → IsPaced (at_first w) m
    → Makes (λ n. n.queue ≡ []) (queue_run ls m)
queue_ends ls w m few p = makes_none (λ n. n.queue ≡ []) (emptied most_counts ls m) (is_emptied most_counts ls m (enough most_counts w m few refl p))

emptied_told : (r : Result Running Refused) → Makes (λ n. n.queue ≡ []) r → IsEmptied r
emptied_told (Ok m) p = p
emptied_told (Err refused) p = tt

pub steps_end : (ls : List Listener) (steps : List Step) (w : Working) → w.counted ≤ most_counts → IsEmptied (steps_run ls steps w)
unfolding steps_run
steps_end ls steps w few =
    emptied_told _ (makes_and (IsPaced (at_first w)) (λ n. n.queue ≡ []) (script_from 0 ls steps (at_first w)) (queue_run ls)
    (script_keeps AnyRunning IsPaced paced 0 ls steps (at_first w) tt) (λ n p. queue_ends ls w n few p))

-- ---- steps that wait

pub deferred_refused : (ls : List Listener) (steps : List Step) (w : Working) (cause : Cause) → count_step w ≡ Err cause
    → deferred_run ls steps w ≡ Err (cause, None)
unfolding deferred_run
deferred_refused ls steps w cause refused = ap (λ r. refused_or (at_none r) (steps_run ls steps)) refused

-- ---- a line's own step

step_most : (left : ℕ) (ls : List Listener) (s : Step) (m n : Running) → step_in (dispatched left ls) Nothing s m ≡ Ok n → IsPaced m n
step_most left ls s m n ran =
    subst (Makes (IsPaced m)) ran (step_keeps AnyRunning IsPaced paced (dispatched left ls) (dispatched_keeps AnyRunning IsPaced paced left ls) Nothing s m tt)

pub step_within : (left : ℕ) (ls : List Listener) (s : Step) (m n : Running) → step_in (dispatched left ls) Nothing s m ≡ Ok n
    → m.script.draft.counted ≤ most_counts → n.script.draft.counted ≤ most_counts
step_within left ls s m n ran few = (step_most left ls s m n ran).most few

-- ---- what a line comes to

pub steps_come_to : (ls : List Listener) (steps : List Step) (w : Working) (first m n : Running) → first ≡ at_first w → script_from 0 ls steps first ≡ Ok m
    → queue_run ls m ≡ Ok n → steps_run ls steps w ≡ Ok n
unfolding steps_run
steps_come_to ls steps w first m n is ran rest =
    ap (λ x. refused_or (script_from 0 ls steps x) (queue_run ls)) (sym is) ∙ ap (λ r. refused_or r (queue_run ls)) ran ∙ rest

-- what a part of a line says of a refusal, the line says, where it is refused as the part is
pub refusal_of : {A B : Type 0} (r : Refusal) (part : Result A Refused) (whole : Result B Refused)
    → ((refused : Refused) → part ≡ Err refused → whole ≡ Err refused) → TellsRefusal r part → TellsRefusal r whole
refusal_of (refusal.Cause cause index) part whole goes told = goes (cause, index) told
refusal_of refusal.Memory part whole goes told = tt

pub steps_refused_by : (ls : List Listener) (steps : List Step) (w : Working) (first : Running) (refused : Refused) → first ≡ at_first w
    → script_from 0 ls steps first ≡ Err refused → steps_run ls steps w ≡ Err refused
unfolding steps_run
steps_refused_by ls steps w first refused is ran =
    ap (λ x. refused_or (script_from 0 ls steps x) (queue_run ls)) (sym is) ∙ ap (λ r. refused_or r (queue_run ls)) ran
