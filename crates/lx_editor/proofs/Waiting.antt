-- What is pending, as lines take it in or leave it.
use Rattle.std.proofs.Common.{◌≡◌, ◌∙◌, ℕ, ◌+◌, ◌<◌, ◌≤◌, ◌==◌, nat_lt, true, false, not, if◌then◌else◌, List, length, Option, None, Some, Ok, Err, refl, sym, ap, subst, arith, inl, inr}
use Rattle.std.proofs.lemmas.Bool.Decides.{nat_tests}
use Rattle.lx_node.specs.declared.cause.Cause.{Cause}
use Rattle.lx_node.specs.declared.cause.Cause.TheVariants.{TooManyRules}
use Rattle.lx_step.specs.declared.line.Form.{Form}
use Rattle.lx_step.specs.declared.line.Line.{Line}
use Rattle.lx_step.specs.declared.line.Tags.{Tags}
use Rattle.lx_step.specs.declared.rule.Rule.{Rule}
use Rattle.lx_step.specs.declared.step.Step.{Step}
use Rattle.lx_draft.specs.Working.{Working}
use Rattle.lx_script.specs.Grammar.{Reads}
use Rattle.lx_update.specs.Lines.{deferred_run, left_draft}
use Rattle.lx_update.specs.Refusals.{TellsRefusal}
use Rattle.lx_update.specs.declared.refusal.Refusal.{Refusal}
use Rattle.lx_update.specs.declared.refusal.Refusal.TheVariants as refusal
use Rattle.lx_editor.specs.declared.outcome.Outcome.{Outcome}
use Rattle.lx_editor.specs.declared.outcome.Outcome.TheVariants as made
use Rattle.lx_editor.specs.declared.pending.Pending.{Pending}
use Rattle.lx_editor.specs.declared.recording.Recording.{Recording}
use Rattle.lx_editor.specs.Editor.{Editor}
use Rattle.lx_editor.specs.Gathering.{begun, gathered_by, is_gathering, pending_of, recording, recording_all, started_of, with_line, with_nothing_pending, with_pending, IsDeferred, IsGatheredOf, IsPending}
use Rattle.lx_editor.specs.Follows.{at_moment, without_memory, IsLeftWithout}
use Rattle.lx_editor.specs.Registered.{most_rules, left_for, merging, unless_full, with_rule, IsRegistered}
use Rattle.lx_editor.specs.Standing.{IsValid}
use Rattle.lx_editor.specs.Updated.{IsMadeOf}

-- ---- a registering takes in what is pending, but for one too many

pub room_for_rule : (old : Editor) → nat_lt (length old.rules) most_rules ≡ true → unless_full old ≡ with_nothing_pending old
room_for_rule old fits = ap (λ b. record old { pending = if b then None else old.pending }) fits

-- where there is room for it
pub rules_fit : (old : Editor) (n : ℕ) → n ≡ length old.rules → n < 258 → nat_lt (length old.rules) most_rules ≡ true
rules_fit old n is less = let fits : nat_lt n 258 ≡ true = grind (arith, nat_tests) in subst (λ m. nat_lt m 258 ≡ true) is fits

pub rules_full : (old : Editor) (n : ℕ) → n ≡ length old.rules → 258 ≤ n → nat_lt (length old.rules) most_rules ≡ false
rules_full old n is full = let more : nat_lt n 258 ≡ false = grind (arith, nat_tests) in subst (λ m. nat_lt m 258 ≡ false) is more

-- one too many is refused, and nothing changes
pub rule_refused : (old : Editor) (rule : Rule) (moment : ℕ) → nat_lt (length old.rules) most_rules ≡ false
    → IsRegistered old rule moment (made.Refused TooManyRules None) old
unfolding IsRegistered
rule_refused old rule moment full =
    let all : Recording = recording_all old (recording merging moment) in
    let left = left_for (with_rule old.rules rule) rule.on in
    subst (λ b. IsMadeOf (if b then left (begun old) else Err (TooManyRules, None)) (record old { pending = if b then None else old.pending }) all
    (made.Refused TooManyRules None) old)
    (sym full) (refl, refl)

-- what it makes then of the editor with nothing pending is what registering it does
pub rule_registered : (old mid : Editor) (rule : Rule) (moment : ℕ) (draft : Working) (how : Recording) (outcome : Outcome) (new : Editor)
    → nat_lt (length old.rules) most_rules ≡ true → mid ≡ with_nothing_pending old → draft ≡ begun old → how ≡ recording_all old (recording merging moment)
    → IsMadeOf (left_for (with_rule mid.rules rule) rule.on draft) mid how outcome new → IsRegistered old rule moment outcome new
unfolding IsRegistered
rule_registered old mid rule moment draft how outcome new fits taken is recorded made =
    let all : Recording = recording_all old (recording merging moment) in
    let left = left_for (with_rule old.rules rule) rule.on in
    subst (λ b. IsMadeOf (if b then left (begun old) else Err (TooManyRules, None)) (record old { pending = if b then None else old.pending }) all outcome new)
    (sym fits)
    (subst (λ (w : Working). IsMadeOf (left w) (with_nothing_pending old) all outcome new) is
    (subst (λ (h : Recording). IsMadeOf (left draft) (with_nothing_pending old) h outcome new) recorded
    (subst (λ (e : Editor). IsMadeOf (left_for (with_rule e.rules rule) rule.on draft) e how outcome new) taken made)))

-- ---- whether lines are gathered

some_told : (n : ℕ) → nat_lt 0 n ≡ not (n == 0)
some_told n = grind (arith, nat_tests)

pub gathering_told : (old : Editor) (n : ℕ) → n ≡ (pending_of old).lines → nat_lt 0 n ≡ is_gathering old
gathering_told old n is = ap (nat_lt 0) is ∙ some_told (pending_of old).lines

-- ---- the invariant

-- and so it is with what goes on from its state
pub pending_valid : (e : Editor) (p : Pending) → IsValid e → IsPending (started_of e) p → IsValid (with_pending e p)
pending_valid e p valid goes = record {
  state = valid.state;
  shown = valid.shown;
  none = valid.none;
  some = valid.some;
  kept = record { kinds = valid.kept.kinds; now = valid.kept.now; entries = valid.kept.entries };
  pending = goes;
}

-- ---- the draft that a line begins with

-- ---- an update that waits

-- and where they are refused nothing is gathered
pub gathered_refused : (old mid : Editor) (steps : List Step) (draft : Working) (e : Refusal) → mid ≡ with_nothing_pending old → draft ≡ begun old
    → TellsRefusal e (deferred_run mid.listeners steps draft)
    → TellsRefusal e (gathered_by old steps)
gathered_refused old mid steps draft (refusal.Cause cause step) taken is told =
    ap left_draft
    (subst (λ w. deferred_run old.listeners steps w ≡ Err (cause, step)) is
    (subst (λ (e : Editor). deferred_run e.listeners steps draft ≡ Err (cause, step)) taken told))
gathered_refused old mid steps draft refusal.Memory taken is told = tt

-- what is kept then is what such an update makes of the editor
pub deferred_kept : (old mid new : Editor) (steps : List Step) (tags : Tags) (p : Pending) → mid ≡ with_nothing_pending old → gathered_by old steps ≡ Ok p.draft
    → p ≡ with_line tags (pending_of old) p.draft
    → new ≡ with_pending mid p → IsDeferred old steps tags (made.Gathered p.lines) new
unfolding IsDeferred
deferred_kept old mid new steps tags p taken gathered line kept =
    let count : p.lines ≡ (pending_of old).lines + 1 = ap (λ (q : Pending). q.lines) line in
    let is : new ≡ with_pending old (with_line tags (pending_of old) p.draft) =
    kept ∙ ap (λ (e : Editor). with_pending e p) taken ∙ ap (λ (q : Pending). with_pending old q) line in
    subst (λ r. IsGatheredOf r old tags (made.Gathered p.lines) new) (sym gathered) (ap (λ n. made.Gathered n) count, is)

pub deferred_refused : (old new : Editor) (steps : List Step) (tags : Tags) (cause : Cause) (step : Option ℕ)
    → TellsRefusal (refusal.Cause cause step) (gathered_by old steps) → new ≡ with_nothing_pending old
    → IsDeferred old steps tags (made.Refused cause step) new
unfolding IsDeferred
deferred_refused old new steps tags cause step told dropped = subst (λ r. IsGatheredOf r old tags (made.Refused cause step) new) (sym told) (refl, dropped)

-- what is gathered goes on from the editor with nothing pending, too
pub still_pending : (old mid : Editor) (p : Pending) → mid ≡ with_nothing_pending old → IsPending (started_of old) p → IsPending (started_of mid) p
still_pending old mid p taken goes = subst (λ (e : Editor). IsPending (started_of e) p) (sym taken) goes

-- ---- the time

-- an editor whose time a line carried, and is set back
pub moment_back : (old mid new : Editor) (form : Form) (at : Option ℕ) → mid ≡ without_memory form (at_moment at old)
    → new ≡ record mid { moment = old.moment } → new ≡ without_memory form old
moment_back old mid new form None left is = is ∙ ap (λ (e : Editor). record e { moment = old.moment }) left
moment_back old mid new form (Some moment) left is = is ∙ ap (λ (e : Editor). record e { moment = old.moment }) left

-- ---- out of memory

-- bytes that ask for a line leave what that leaves
pub left_by_line : (old new : Editor) (bytes : List ℕ) (line : Line) → Reads bytes (Ok line) → new ≡ without_memory line.form old
    → IsLeftWithout old bytes new
unfolding IsLeftWithout
left_by_line old new bytes line read left = inr (line, read, left)

-- and an editor that is as it was is left by any
pub left_as_it_was : (e : Editor) (bytes : List ℕ) → IsLeftWithout e bytes e
unfolding IsLeftWithout
left_as_it_was e bytes = inl refl
