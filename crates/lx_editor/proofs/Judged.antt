-- What steps or a rule come to is what they make of the editor.
use Rattle.std.proofs.Common.{◌≡◌, ◌≢◌, ◌∙◌, ℕ, Bool, false, if◌then◌else◌, List, Option, Some, Result, Ok, Err, refl, sym, ap, subst}
use Rattle.lx_node.specs.declared.cause.Cause.{Cause}
use Rattle.lx_host.specs.declared.op.Op.{Op}
use Rattle.lx_step.specs.declared.built_in.Turn.{Turn}
use Rattle.lx_step.specs.declared.command.Command.{Command}
use Rattle.lx_step.specs.declared.rule.Rule.{Rule}
use Rattle.lx_rules.specs.declared.any_rule.AnyRule.{AnyRule}
use Rattle.lx_update.specs.Lines.{Ended, answer_drafted}
use Rattle.lx_update.specs.Refusals.{TellsRefusal}
use Rattle.lx_update.specs.declared.ending.Ending.{Ending}
use Rattle.lx_update.specs.declared.ending.Ending.TheVariants as ending
use Rattle.lx_update.specs.declared.refusal.Refusal.{Refusal}
use Rattle.lx_update.specs.declared.refusal.Refusal.TheVariants as refusal
use Rattle.lx_editor.specs.declared.outcome.Outcome.{Outcome}
use Rattle.lx_editor.specs.declared.outcome.Outcome.TheVariants as made
use Rattle.lx_editor.specs.declared.outcome.Verdict.{Verdict}
use Rattle.lx_editor.specs.declared.outcome.Verdict.TheVariants.{Commit, Turned, Refused, Idle}
use Rattle.lx_draft.specs.Working.{Working}
use Rattle.lx_editor.specs.declared.recording.Recording.{Recording}
use Rattle.lx_editor.specs.Dispatched.{answer_by, answer_to, unless_gathering, unless_refused, IsMadeOfAnswer}
use Rattle.lx_editor.specs.Editor.{Editor}
use Rattle.lx_editor.specs.Gathering.{begun, is_gathering, recording_all, with_nothing_pending}
use Rattle.lx_editor.specs.Follows.{reply_of}
use Rattle.lx_editor.specs.Turned.{IsTurned, IsTurnedBy}
use Rattle.lx_editor.specs.Updated.{Left, Settled, rested_by, IsNothingNew, IsCommitted, IsTaken, IsMadeOf}
use Rattle.lx_editor.specs.Registered.{left_for, with_one_more, with_rule}
use Rattle.lx_editor.specs.Judged.{MayCommit, MayTurn, IsWeighed, IsJudged, IsTurnJudged, IsAnswerJudged, IsForCause, MayConclude, IsConcluded, is_refused, is_idle}

-- what is judged may be concluded
pub may_conclude : (r : Result Settled (Cause × Option ℕ)) (e : Editor) (verdict : Verdict) → IsJudged r e verdict → MayConclude e verdict
may_conclude r e (Refused cause step) judged = tt
may_conclude r e Idle judged = tt
may_conclude (Err refused) e (Commit frozen batch shown) judged = absurd (cc)
may_conclude (Ok settled) e (Commit frozen batch shown) judged = (subst (λ l. MayCommit e l batch) (sym judged.1.0) judged.1.1, judged.1.2)
may_conclude (Err refused) e (Turned turn state batch marks) judged = absurd (cc)
may_conclude (Ok settled) e (Turned turn state batch marks) judged = absurd judged.1

pub may_conclude_turn : (turn : Turn) (e : Editor) (verdict : Verdict) → IsTurnJudged turn e verdict → MayConclude e verdict
may_conclude_turn turn e (Refused cause step) judged = tt
may_conclude_turn turn e Idle judged = tt
may_conclude_turn turn e (Commit frozen batch shown) judged = absurd judged
may_conclude_turn turn e (Turned way state batch marks) judged = (subst (λ t. MayTurn e t state.value batch) (sym judged.0) judged.1, judged.2)

pub may_conclude_answer : (r : Result Ending (Cause × Option ℕ)) (e : Editor) (verdict : Verdict) (handled : Bool) → IsAnswerJudged r e verdict handled
    → MayConclude e verdict
may_conclude_answer (Err refused) e verdict handled judged = subst (MayConclude e) (sym judged.0) tt
may_conclude_answer (Ok (ending.Left w was_handled)) e verdict handled judged = may_conclude (rested_by e.rules w) e verdict judged.0
may_conclude_answer (Ok (ending.Turned turn)) e verdict handled judged = may_conclude_turn turn e verdict judged.0

-- a dispatch that is refused is judged so, and wasn't handled
pub answer_refused : (gathering : Bool) (run : Result Ended (Cause × Option ℕ)) (e : Refusal) (editor : Editor) (verdict : Verdict) → TellsRefusal e run
    → IsForCause e
    → ((left : Result Settled (Cause × Option ℕ)) (d : Editor) → TellsRefusal e left → IsJudged left d verdict)
    → IsAnswerJudged (unless_gathering gathering (answer_drafted run)) editor verdict false
answer_refused gathering run (refusal.Cause cause step) editor verdict told for_cause judged =
    subst (λ r. IsAnswerJudged (unless_gathering gathering (answer_drafted r)) editor verdict false) (sym told) (judged (Err (cause, step)) editor refl, refl)
answer_refused gathering run refusal.Memory editor verdict told for_cause judged = absurd for_cause

-- ---- an update

-- the same rules are no other editor
same_rules : (e : Editor) (rules : List AnyRule) → rules ≡ e.rules → e ≡ record e { rules = rules }
same_rules e rules is = ap (λ rs. record e { rules = rs }) (sym is)

module _ (how : Recording) where
  taken : (left : Left) (e : Editor) (verdict : Verdict) (outcome : Outcome) (new : Editor) → IsWeighed e left verdict → IsConcluded e how verdict outcome new
      → IsTaken e how left outcome new
  taken left e (Commit frozen batch shown) (made.Committed number ops) new weighed done = subst (λ l. IsCommitted e how l number ops new) weighed.0 done
  taken left e (Commit frozen batch shown) (made.Refused cause step) new weighed done = absurd done
  taken left e (Commit frozen batch shown) made.Idle new weighed done = absurd done
  taken left e (Commit frozen batch shown) (made.Gathered count) new weighed done = absurd done
  taken left e (Turned turn state batch marks) outcome new weighed done = absurd weighed
  taken left e (Refused cause step) outcome new weighed (is, same) =
      subst (λ o. IsTaken e how left o new) (sym is) (record { anew = weighed.anew; fault = weighed.fault; no_step = weighed.no_step; same = same })
  taken left e Idle outcome new weighed (is, same) = subst (λ o. IsTaken e how left o new) (sym is) (weighed.1, same ∙ same_rules e left.rules weighed.0)

  -- what is concluded is what was judged
  pub concluded : (r : Result Settled (Cause × Option ℕ)) (e : Editor) (verdict : Verdict) (outcome : Outcome) (new : Editor) → IsJudged r e verdict
      → IsConcluded e how verdict outcome new → IsMadeOf r e how outcome new
  concluded (Ok settled) e verdict outcome new judged done = (judged.0, taken settled.left e verdict outcome new judged.1 done)
  concluded (Err refused) e verdict outcome new judged done =
      let refusal : IsConcluded e how (Refused refused.0 refused.1) outcome new = subst (λ v. IsConcluded e how v outcome new) judged done in refusal

  -- ---- an undo or a redo

  pub turn_concluded : (turn : Turn) (e : Editor) (verdict : Verdict) (outcome : Outcome) (new : Editor) → IsTurnJudged turn e verdict
      → IsConcluded e how verdict outcome new → IsTurnedBy turn how.moment e outcome new
  turn_concluded turn e (Commit frozen batch shown) outcome new judged done = absurd judged
  turn_concluded turn e (Turned way state batch marks) (made.Committed number ops) new judged done =
      subst (λ t. IsTurned t how.moment e number ops new) judged.0 done
  turn_concluded turn e (Turned way state batch marks) (made.Refused cause step) new judged done = absurd done
  turn_concluded turn e (Turned way state batch marks) made.Idle new judged done = absurd done
  turn_concluded turn e (Turned way state batch marks) (made.Gathered count) new judged done = absurd done
  turn_concluded turn e (Refused cause step) outcome new judged (is, same) =
      subst (λ o. IsTurnedBy turn how.moment e o new) (sym is)
      (record { entry = judged.entry; next = judged.next; fault = judged.fault; no_step = judged.no_step; same = same })
  turn_concluded turn e Idle outcome new judged (is, same) = subst (λ o. IsTurnedBy turn how.moment e o new) (sym is) (judged, same)

  -- ---- a dispatch

  pub answer_concluded : (r : Result Ending (Cause × Option ℕ)) (e : Editor) (verdict : Verdict) (handled : Bool) (outcome : Outcome) (new : Editor)
      → IsAnswerJudged r e verdict handled → IsConcluded e how verdict outcome new
      → IsMadeOfAnswer r e how outcome (unless_refused outcome handled) new
  answer_concluded (Ok (ending.Left w was_handled)) e verdict handled outcome new judged done =
      (concluded (rested_by e.rules w) e verdict outcome new judged.0 done, ap (unless_refused outcome) judged.1)
  answer_concluded (Ok (ending.Turned turn)) e verdict handled outcome new judged done =
      (turn_concluded turn e verdict outcome new judged.0 done, ap (unless_refused outcome) judged.1)
  answer_concluded (Err refused) e verdict handled outcome new judged done =
      let refusal : IsConcluded e how (Refused refused.0 refused.1) outcome new = subst (λ v. IsConcluded e how v outcome new) judged.0 done in
      (refusal.0, refusal.1, ap (λ o. unless_refused o handled) refusal.0)

-- ---- a rule

-- the editor with which a rule's verdict is concluded
abbrev pub with_unless_refused : Rule → Editor → Verdict → Editor
with_unless_refused rule old verdict = if is_refused verdict then old else with_one_more rule old

module _ (how : Recording) (old : Editor) (rule : Rule) where
  abbrev pub mid : Editor
  mid = with_one_more rule old

  nothing_new : (left : Left) → IsNothingNew mid left → IsNothingNew old left
  nothing_new left n = record { none_marked = n.none_marked; selected = n.selected }

  as_mid : (left : Left) → IsNothingNew old left → IsNothingNew mid left
  as_mid left n = record { none_marked = n.none_marked; selected = n.selected }

  -- a commit doesn't look at the rules that there were
  committed_before : (left : Left) (number : ℕ) (ops : List Op) (new : Editor) → IsCommitted mid how left number ops new
      → IsCommitted old how left number ops new
  committed_before left number ops new c = record {
    anew = λ n. c.anew (as_mid left n);
    ids = c.ids;
    joined = c.joined;
    numbered = c.numbered;
    allowed = c.allowed;
    reads = c.reads;
    few = c.few;
    number = c.number;
    made = c.made;
  }

  rule_taken : (left : Left) (verdict : Verdict) (outcome : Outcome) (new : Editor) → IsWeighed mid left verdict
      → IsConcluded (with_unless_refused rule old verdict) how verdict outcome new → IsTaken old how left outcome new
  rule_taken left (Commit frozen batch shown) (made.Committed number ops) new weighed done =
      committed_before left number ops new (subst (λ l. IsCommitted mid how l number ops new) weighed.0 done)
  rule_taken left (Commit frozen batch shown) (made.Refused cause step) new weighed done = absurd done
  rule_taken left (Commit frozen batch shown) made.Idle new weighed done = absurd done
  rule_taken left (Commit frozen batch shown) (made.Gathered count) new weighed done = absurd done
  rule_taken left (Turned turn state batch marks) outcome new weighed done = absurd weighed
  rule_taken left (Refused cause step) outcome new weighed (is, same) =
      subst (λ o. IsTaken old how left o new) (sym is)
      (record { anew = λ n. weighed.anew (as_mid left n); fault = weighed.fault; no_step = weighed.no_step; same = same })
  rule_taken left Idle outcome new weighed (is, same) =
      subst (λ o. IsTaken old how left o new) (sym is) (nothing_new left weighed.1, same ∙ ap (λ rs. record old { rules = rs }) (sym weighed.0))

  rule_judged : (r : Result Settled (Cause × Option ℕ)) (verdict : Verdict) (outcome : Outcome) (new : Editor) → IsJudged r mid verdict
      → IsConcluded (with_unless_refused rule old verdict) how verdict outcome new → IsMadeOf r old how outcome new
  rule_judged (Ok settled) verdict outcome new judged done = (judged.0, rule_taken settled.left verdict outcome new judged.1 done)
  rule_judged (Err refused) verdict outcome new judged done =
      let refusal : IsConcluded old how (Refused refused.0 refused.1) outcome new =
      subst (λ v. IsConcluded (with_unless_refused rule old v) how v outcome new) judged done in refusal

  -- what is concluded of a rule is what was judged
  pub rule_concluded : (r : Result Settled (Cause × Option ℕ)) (verdict : Verdict) (e : Editor) (outcome : Outcome) (new : Editor) → IsJudged r mid verdict
      → e ≡ with_unless_refused rule old verdict
      → IsConcluded e how verdict outcome new → IsMadeOf r old how outcome new
  rule_concluded r verdict e outcome new judged is done = rule_judged r verdict outcome new judged (subst (λ x. IsConcluded x how verdict outcome new) is done)

-- a rule that isn't refused stays, and what is concluded with it is what was judged of it
pub rule_kept : (how : Recording) (old : Editor) (rule : Rule) (with : Editor) (draft : Working) (verdict : Verdict) (outcome : Outcome) (new : Editor)
    → with ≡ with_one_more rule old → IsJudged (left_for with.rules rule.on draft) with verdict → is_refused verdict ≡ false
    → IsConcluded with how verdict outcome new → IsMadeOf (left_for (with_rule old.rules rule) rule.on draft) old how outcome new
rule_kept how old rule with draft verdict outcome new is judged kept done =
    rule_concluded how old rule (left_for (with_rule old.rules rule) rule.on draft) verdict with outcome new
    (subst (λ (e : Editor). IsJudged (left_for e.rules rule.on draft) e verdict) is judged)
    (is ∙ ap (λ b. if b then old else with_one_more rule old) (sym kept)) done

-- ---- what a line takes in

-- What is concluded of a draft that was pending, or of one of what is committed, is what the line makes of the editor.
pub taken_in : (r : Editor → Working → Result Settled (Cause × Option ℕ)) (old mid : Editor) (draft : Working) (how all : Recording) (verdict : Verdict)
    (outcome : Outcome) (new : Editor)
    → mid ≡ with_nothing_pending old → draft ≡ begun old → all ≡ recording_all old how → IsJudged (r mid draft) mid verdict
    → IsConcluded mid all verdict outcome new
    → IsMadeOf (r (with_nothing_pending old) (begun old)) (with_nothing_pending old) (recording_all old how) outcome new
taken_in r old mid draft how all verdict outcome new taken is recorded judged done =
    let now : Editor = with_nothing_pending old in
    subst (λ (h : Recording). IsMadeOf (r now (begun old)) now h outcome new) recorded
    (concluded all (r now (begun old)) now verdict outcome new
    (subst (λ (e : Editor). IsJudged (r e (begun old)) e verdict) taken (subst (λ (w : Working). IsJudged (r mid w) mid verdict) is judged))
    (subst (λ (e : Editor). IsConcluded e all verdict outcome new) taken done))

-- so it is of a dispatch
pub answer_taken_in : (command : Command) (old mid : Editor) (draft : Working) (how all : Recording) (gathering : Bool) (verdict : Verdict) (handled : Bool)
    (outcome : Outcome) (new : Editor)
    → mid ≡ with_nothing_pending old → draft ≡ begun old → all ≡ recording_all old how → gathering ≡ is_gathering old
    → IsAnswerJudged (answer_by gathering mid.listeners command draft) mid verdict handled → IsConcluded mid all verdict outcome new
    → IsMadeOfAnswer (answer_to command old) (with_nothing_pending old) (recording_all old how) outcome (unless_refused outcome handled) new
answer_taken_in command old mid draft how all gathering verdict handled outcome new taken is recorded same judged done =
    let now : Editor = with_nothing_pending old in
    subst (λ (h : Recording). IsMadeOfAnswer (answer_to command old) now h outcome (unless_refused outcome handled) new) recorded
    (answer_concluded all (answer_to command old) now verdict handled outcome new
    (subst (λ b. IsAnswerJudged (answer_by b old.listeners command (begun old)) now verdict handled) same
    (subst (λ (e : Editor). IsAnswerJudged (answer_by gathering e.listeners command (begun old)) e verdict handled) taken
    (subst (λ (w : Working). IsAnswerJudged (answer_by gathering mid.listeners command w) mid verdict handled) is judged)))
    (subst (λ (e : Editor). IsConcluded e all verdict outcome new) taken done))

-- ---- a dispatch

-- a reply says of a refusal nothing of whether the command was handled
pub handled_told : (outcome : Outcome) (html : Option (List ℕ)) (handled : Bool)
    → reply_of (Some handled) html outcome ≡ reply_of (Some (unless_refused outcome handled)) html outcome
handled_told (made.Committed number ops) html handled = refl
handled_told (made.Refused cause step) html handled = refl
handled_told made.Idle html handled = refl
handled_told (made.Gathered count) html handled = refl

-- ---- a load

-- what isn't judged as idle isn't concluded as that
pub never_idle : (how : Recording) (e : Editor) (verdict : Verdict) (outcome : Outcome) (new : Editor) → is_idle verdict ≡ false
    → IsConcluded e how verdict outcome new → outcome ≢ made.Idle
never_idle how e (Commit frozen batch shown) (made.Committed number ops) new anew done is = cc
never_idle how e (Commit frozen batch shown) (made.Refused cause step) new anew done is = absurd done
never_idle how e (Commit frozen batch shown) made.Idle new anew done is = absurd done
never_idle how e (Commit frozen batch shown) (made.Gathered count) new anew done is = absurd done
never_idle how e (Turned turn state batch marks) (made.Committed number ops) new anew done is = cc
never_idle how e (Turned turn state batch marks) (made.Refused cause step) new anew done is = absurd done
never_idle how e (Turned turn state batch marks) made.Idle new anew done is = absurd done
never_idle how e (Turned turn state batch marks) (made.Gathered count) new anew done is = absurd done
never_idle how e (Refused cause step) outcome new anew (same, rest) is = let e : made.Refused cause step ≡ made.Idle = sym same ∙ is in cc
never_idle how e Idle outcome new anew done is = absurd (cc)
