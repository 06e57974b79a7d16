-- Each list of steps that is queued comes with a count, and so does each step.
use Rattle.std.proofs.Common.{◌≡◌, ◌∙◌, ◌+◌, ◌≤◌, ℕ, List, [], ◌∷◌, ◌++◌, length, length-append, Result, Ok, Err, refl, ap, sym, subst, arith}
use Rattle.lx_node.specs.Limits.{most_counts}
use Rattle.lx_node.specs.declared.cause.Cause.{Cause}
use Rattle.lx_step.specs.BuiltIns.{built_in}
use Rattle.lx_step.specs.declared.command.Payload.{Payload}
use Rattle.lx_step.specs.declared.listener.Listener.{Listener}
use Rattle.lx_step.specs.declared.step.Step.{Step}
use Rattle.lx_step.specs.declared.step.Step.TheVariants as step
use Rattle.lx_draft.specs.Working.{Working}
use Rattle.lx_draft.specs.Faults.{after}
use Rattle.lx_draft.specs.Steps.{count_step}
use Rattle.lx_edit.proofs.Counted.{Any, KeepsCounts}
use Rattle.lx_update.specs.Scripts.{Scripted, scripted, on_draft, effect_of}
use Rattle.lx_update.specs.Commands.{command_step}
use Rattle.lx_update.specs.Running.{Running, running, on_script, take_count, queued, done_if, payload_for, effect_in, step_in, dispatched}
use Rattle.lx_update.proofs.Bounded.{KeepsMost, count_within, within_scripts}
use Rattle.lx_update.proofs.CommandPaths.{command_reaches}
use Rattle.lx_update.proofs.Counted.{count-counted, counted_scripts}
use Rattle.lx_update.proofs.Paths.{Reaches, effect_path}
use Rattle.lx_update.proofs.Stays.{Makes, makes_told, makes_on, makes_from, makes_then, IsKept, IsOfScripts, done_keeps, dispatched_keeps}

-- what is queued takes counts
pub record IsPaced (m n : Running) : Type 0 where
  pub counted : m.script.draft.counted ≤ n.script.draft.counted
  pub queued : length n.queue + m.script.draft.counted ≤ length m.queue + n.script.draft.counted
  pub most : m.script.draft.counted ≤ most_counts → n.script.draft.counted ≤ most_counts

-- ---- what leaves the queue as it is

pub left_as : (T : Type 0) (edit : Scripted → Result Scripted Cause) (m n : Running) → ((s : Scripted) → edit m.script ≡ Ok s → running s m.queue ≡ n → T)
    → on_script edit m ≡ Ok n → T
left_as T edit m n each e = by_result (edit m.script) (λ s is. each s is) e
  where
    by_result : (r : Result Scripted Cause) → ((s : Scripted) → r ≡ Ok s → running s m.queue ≡ n → T) → after r (λ s. Ok (running s m.queue)) ≡ Ok n → T
    by_result (Ok s) each e = let is : running s m.queue ≡ n = cc in each s refl is
    by_result (Err cause) each e = absurd (cc)

drafted_as : (T : Type 0) (edit : Working → Result Working Cause) (s t : Scripted) → ((w : Working) → edit s.draft ≡ Ok w → scripted w s.names ≡ t → T)
    → on_draft edit s ≡ Ok t → T
drafted_as T edit s t each e = by_result (edit s.draft) each e
  where
    by_result : (r : Result Working Cause) → ((w : Working) → r ≡ Ok w → scripted w s.names ≡ t → T) → after r (λ w. Ok (scripted w s.names)) ≡ Ok t → T
    by_result (Ok w) each e = let is : scripted w s.names ≡ t = cc in each w refl is
    by_result (Err cause) each e = absurd (cc)

-- a count that was taken
pub record IsCounted (m n : Running) : Type 0 where
  pub draft : count_step m.script.draft ≡ Ok n.script.draft
  pub queue : n.queue ≡ m.queue

pub count_taken : (m n : Running) → take_count m ≡ Ok n → IsCounted m n
unfolding take_count
count_taken m n e =
    left_as (IsCounted m n) (on_draft count_step) m n (λ s f is.
    drafted_as (IsCounted m n) count_step m.script s (λ w g at. record {
      draft = g ∙ ap (λ (x : Working). Ok x) (ap (λ (x : Scripted). x.draft) at ∙ ap (λ (x : Running). x.script.draft) is);
      queue = sym (ap (λ (x : Running). x.queue) is);
    }) f) e

-- ---- each relation

length_one_more : {A : Type 0} (xs : List A) (a : A) → length (xs ++ a ∷ []) ≡ length xs + 1
length_one_more xs a = omega (arith, length-append xs (a ∷ []))

paced_count : (m n : Running) → take_count m ≡ Ok n → IsPaced m n
paced_count m n e =
    let c : IsCounted m n = count_taken m n e in
    let once : n.script.draft.counted ≡ m.script.draft.counted + 1 = count-counted m.script.draft n.script.draft c.draft in
    let same : length n.queue ≡ length m.queue = ap length c.queue in
    record { counted = omega (arith, once); queued = omega (arith, once, same); most = count_within m.script.draft n.script.draft c.draft }

paced_later : (m n : Running) (steps : List Step) (sent : Payload) → take_count m ≡ Ok n → IsPaced m (queued steps sent n)
paced_later m n steps sent e =
    let c : IsCounted m n = count_taken m n e in
    let once : n.script.draft.counted ≡ m.script.draft.counted + 1 = count-counted m.script.draft n.script.draft c.draft in
    let same : length n.queue ≡ length m.queue = ap length c.queue in
    let more : length (queued steps sent n).queue ≡ length n.queue + 1 = length_one_more n.queue (record { steps = steps; sent = sent }) in
    record { counted = omega (arith, once); queued = omega (arith, once, same, more); most = count_within m.script.draft n.script.draft c.draft }

paced_on : (edit : Scripted → Result Scripted Cause) (m n : Running) → Reaches Any KeepsCounts edit → Reaches Any KeepsMost edit → on_script edit m ≡ Ok n
    → IsPaced m n
paced_on edit m n counted within e = left_as (IsPaced m n) edit m n (λ t f is.
    let more : m.script.draft.counted ≤ t.draft.counted = counted m.script t tt f in
    let at : t.draft.counted ≡ n.script.draft.counted = ap (λ (x : Running). x.script.draft.counted) is in
    let same : length m.queue ≡ length n.queue = ap (λ (x : Running). length x.queue) is in
    let most : KeepsMost m.script.draft t.draft = within m.script t tt f in
    record { counted = omega (arith, more, at); queued = omega (arith, more, at, same); most = λ few. omega (arith, most few, at) }) e

paced_plain : (s : Step) (m n : Running) → on_script (effect_of s) m ≡ Ok n → IsPaced m n
paced_plain s m n e = paced_on (effect_of s) m n (effect_path counted_scripts s) (effect_path within_scripts s) e

abbrev pub AnyRunning : Running → Type 0
AnyRunning m = Unit {0}

pub paced : IsKept AnyRunning IsPaced
paced = record {
  ready = λ m n p. tt;
  same = λ m r. record { counted = omega arith; queued = omega arith; most = λ few. few };
  on = λ m n o p q. record
      { counted = omega (arith, p.counted, q.counted); queued = omega (arith, p.queued, q.queued, p.counted, q.counted); most = λ few. q.most (p.most few) };
  counted = λ m n r e. paced_count m n e;
  plain = λ s m n r e. paced_plain s m n e;
  does = λ command sent m n r e. paced_on (on_draft (command_step command sent)) m n (command_reaches counted_scripts command sent)
      (command_reaches within_scripts command sent) e;
  later = λ m n steps sent r e. paced_later m n steps sent e;
}

-- ---- counts alone

-- counts are never taken back
abbrev pub CountsOn : Running → Running → Type 0
CountsOn m n = m.script.draft.counted ≤ n.script.draft.counted

pub counts_on : IsKept AnyRunning CountsOn
counts_on = record {
  ready = λ m n p. tt;
  same = λ m r. omega arith;
  on = λ m n o p q. omega (arith, p, q);
  counted = λ m n r e. (paced.counted m n r e).counted;
  plain = λ s m n r e. (paced.plain s m n r e).counted;
  does = λ command sent m n r e. (paced.does command sent m n r e).counted;
  later = λ m n steps sent r e. (paced.later m n steps sent r e).counted;
}

pub counts_on_queue : IsOfScripts AnyRunning CountsOn
counts_on_queue m queue r = omega arith

-- ---- a step takes a count, whatever it does

-- counts rise
abbrev Rises : Running → Running → Type 0
Rises m n = m.script.draft.counted + 1 ≤ n.script.draft.counted

rises_on : (m n o : Running) → Rises m n → IsPaced n o → Rises m o
rises_on m n o begun p = omega (arith, begun, p.counted)

effect_rises : (left : ℕ) (ls : List Listener) (sent : Payload) (s : Step) (m n : Running) → Rises m n
    → Makes (Rises m) (effect_in (dispatched left ls) sent s n)
effect_rises left ls sent (step.Do c) m n begun =
    makes_on (IsPaced n) (Rises m) (done_if (built_in c.name) (payload_for sent c.payload) n)
    (done_keeps AnyRunning IsPaced paced (built_in c.name) (payload_for sent c.payload) n tt)
    (λ o p. rises_on m n o begun p)
effect_rises left ls sent (step.Dispatch c) m n begun =
    makes_then (λ r. IsPaced n r.0) (Rises m) (dispatched left ls c.name (payload_for sent c.payload) n) (λ r. Ok r.0)
    (dispatched_keeps AnyRunning IsPaced paced left ls c.name (payload_for sent c.payload) n tt) (λ r p. rises_on m n r.0 begun p)
effect_rises left ls sent (step.Later script) m n begun = begun
effect_rises left ls sent s m n begun = makes_told (Rises m) (on_script (effect_of s) n) (λ o e. rises_on m n o begun (paced_plain s n o e))

step_rises : (left : ℕ) (ls : List Listener) (sent : Payload) (s : Step) (m : Running) → Makes (Rises m) (step_in (dispatched left ls) sent s m)
unfolding step_in
step_rises left ls sent s m =
    makes_from (Rises m) (take_count m) (effect_in (dispatched left ls) sent s) (λ n e.
    effect_rises left ls sent s m n (omega (arith, count-counted m.script.draft n.script.draft (count_taken m n e).draft)))

pub step_counts : (left : ℕ) (ls : List Listener) (sent : Payload) (s : Step) (m n : Running) → step_in (dispatched left ls) sent s m ≡ Ok n
    → m.script.draft.counted + 1 ≤ n.script.draft.counted
step_counts left ls sent s m n ran = subst (Makes (Rises m)) ran (step_rises left ls sent s m)
