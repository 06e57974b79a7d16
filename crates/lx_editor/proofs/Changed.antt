-- What a line has changed: it is answered where the line committed, and where it committed nothing all that is
-- committed stays.
use Rattle.std.proofs.Common.{◌≡◌, ◌∙◌, ℕ, ◌+◌, Bool, true, false, option_map, List, Option, None, Some, Result, Ok, Err, refl, sym, ap, subst}
use Rattle.lx_node.specs.declared.cause.Cause.{Cause}
use Rattle.lx_host.specs.declared.op.Op.{Op}
use Rattle.lx_host.specs.Hosts.{Leads}
use Rattle.lx_marks.specs.Marks.{Marked}
use Rattle.lx_step.specs.declared.line.Tags.{Tags}
use Rattle.lx_step.specs.declared.listener.Listener.{Listener}
use Rattle.lx_step.specs.declared.rule.Rule.{Rule}
use Rattle.lx_step.specs.declared.step.Step.{Step}
use Rattle.lx_forest.specs.Covered.{AreCovered}
use Rattle.lx_draft.specs.Working.{Working}
use Rattle.lx_draft.specs.declared.state.State.{State}
use Rattle.lx_reconcile.specs.Allowing.{marking}
use Rattle.lx_reconcile.specs.Told.{Told}
use Rattle.lx_editor.specs.declared.change.Change.{Change}
use Rattle.lx_editor.specs.declared.outcome.Outcome.{Outcome}
use Rattle.lx_editor.specs.Changes.{state_of, IsUncommitted, IsChange, IsToldChange, IsNoted}
use Rattle.lx_editor.specs.Dispatched.{IsListening}
use Rattle.lx_editor.specs.Editor.{Editor}
use Rattle.lx_editor.specs.Follows.{at_moment, IsReplyOfListener}
use Rattle.lx_editor.specs.Gathering.{gathered_by, with_nothing_pending, IsDeferred, IsGatheredOf}
use Rattle.lx_editor.specs.Registered.{with_one_more}
use Rattle.lx_editor.specs.Turned.{with_nothing_recorded}
use Rattle.lx_editor.specs.Updated.{state_with}

-- ---- where nothing is committed

uncommitted_of : (old mid new : Editor) → new ≡ mid → IsUncommitted old mid → IsUncommitted old new
uncommitted_of old mid new is u = subst (IsUncommitted old) (sym is) u

pub uncommitted_same : (old new : Editor) → new ≡ old → IsUncommitted old new
uncommitted_same old new is = uncommitted_of old old new is (record { commits = refl; tree = refl; selection = refl; view = refl; last = refl })

pub uncommitted_pending : (old new : Editor) → new ≡ with_nothing_pending old → IsUncommitted old new
uncommitted_pending old new is =
    uncommitted_of old (with_nothing_pending old) new is (record { commits = refl; tree = refl; selection = refl; view = refl; last = refl })

pub uncommitted_cleared : (old new : Editor) → new ≡ with_nothing_recorded old → IsUncommitted old new
uncommitted_cleared old new is =
    uncommitted_of old (with_nothing_recorded old) new is (record { commits = refl; tree = refl; selection = refl; view = refl; last = refl })

pub uncommitted_moment : (old new : Editor) (at : Option ℕ) → new ≡ at_moment at old → IsUncommitted old new
uncommitted_moment old new None is = uncommitted_same old new is
uncommitted_moment old new (Some moment) is =
    uncommitted_of old (record old { moment = moment }) new is (record { commits = refl; tree = refl; selection = refl; view = refl; last = refl })

-- with a rule more
pub uncommitted_rule : (old new : Editor) (rule : Rule) → new ≡ with_one_more rule old → IsUncommitted old new
uncommitted_rule old new rule is =
    uncommitted_of old (with_one_more rule old) new is (record { commits = refl; tree = refl; selection = refl; view = refl; last = refl })

-- and one commits nothing that follows on what commits nothing
pub uncommitted_on : (old mid new : Editor) → IsUncommitted old mid → IsUncommitted mid new → IsUncommitted old new
uncommitted_on old mid new u v = record {
  commits = v.commits ∙ u.commits;
  tree = v.tree ∙ u.tree;
  selection = v.selection ∙ u.selection;
  view = v.view ∙ u.view;
  last = v.last ∙ u.last;
}

gathered_uncommitted : (r : Result Working (Cause × Option ℕ)) (old : Editor) (tags : Tags) (outcome : Outcome) (new : Editor)
    → IsGatheredOf r old tags outcome new → IsUncommitted old new
gathered_uncommitted (Err refused) old tags outcome new g = uncommitted_pending old new g.1
gathered_uncommitted (Ok w) old tags outcome new g =
    uncommitted_of old _ new g.1 (record { commits = refl; tree = refl; selection = refl; view = refl; last = refl })

-- an update that waits commits nothing
pub uncommitted_gathered : (old : Editor) (steps : List Step) (tags : Tags) (outcome : Outcome) (new : Editor) → IsDeferred old steps tags outcome new
    → IsUncommitted old new
unfolding IsDeferred
uncommitted_gathered old steps tags outcome new deferred = gathered_uncommitted (gathered_by old steps) old tags outcome new deferred

listening_uncommitted : (old : Editor) (listener : Listener) (answer : Result ℕ Cause) (new : Editor) → IsListening old listener answer new
    → IsUncommitted old new
listening_uncommitted old listener (Ok number) new l =
    uncommitted_of old _ new l.2 (record { commits = refl; tree = refl; selection = refl; view = refl; last = refl })
listening_uncommitted old listener (Err cause) new l = uncommitted_same old new l.2

-- nor does a listener
pub uncommitted_listener : (old : Editor) (listener : Listener) (bytes : List ℕ) (new : Editor) → IsReplyOfListener old listener bytes new
    → IsUncommitted old new
uncommitted_listener old listener bytes new (answer, listening, text) = listening_uncommitted old listener answer new listening

-- then no change is answered
pub none_told : (asked : Bool) (old : Editor) (change : Option Change) (new : Editor) → change ≡ None → IsUncommitted old new
    → IsToldChange asked old change new
unfolding IsToldChange
none_told true old change new none same = subst (λ o. IsChange old o new) (sym none) same
none_told false old change new none same = tt

-- ---- where it is

-- a change of an editor in which the same is committed is one of this
change_from : (old mid : Editor) (change : Option Change) (new : Editor) → IsUncommitted old mid → IsChange mid change new → IsChange old change new
change_from old mid None new u c = uncommitted_on old mid new u c
change_from old mid (Some change) new u c = record {
  number = c.number ∙ ap (λ n. n + 1) u.commits;
  ops = c.ops;
  leads = subst (λ v. Leads v change.ops.items new.view) u.view c.leads;
  before = c.before ∙ ap (λ f. state_with f mid.selection) u.tree ∙ ap (state_with old.tree) u.selection;
  covered = subst (λ f. AreCovered f new.tree (marking change.marks)) u.tree c.covered;
}

pub told_from : (asked : Bool) (old mid : Editor) (change : Option Change) (new : Editor) → IsUncommitted old mid → IsToldChange asked mid change new
    → IsToldChange asked old change new
unfolding IsToldChange
told_from true old mid change new u c = change_from old mid change new u c
told_from false old mid change new u c = tt

-- ---- a commit

-- a copy of a state is that state
pub state_is : (a b : State) → a.links ≡ b.links → a.selection ≡ b.selection → a ≡ b
state_is a b links selection = ap (λ l. state_with l a.selection) links ∙ ap (λ s. state_with b.links s) selection

-- nothing has to be noted where it isn't asked for
pub unasked : (asked : Bool) (ops : List Op) (before : State) (marks : Marked) (change : Option Change) → asked ≡ false → IsNoted asked ops before marks change
unfolding IsNoted
unasked true ops before marks change not = absurd (cc)
unasked false ops before marks change not = tt

pub noted_as : (asked : Bool) (ops : List Op) (before : State) (marks : Marked) (change : Option Change) (made : Change) → change ≡ Some made
    → made.ops.items ≡ ops → made.before ≡ before → made.marks ≡ marks
    → IsNoted asked ops before marks change
unfolding IsNoted
noted_as true ops before marks (Some change) made is same state covers =
    let own : change ≡ made = some_is is in
    (ap (λ (c : Change). c.ops.items) own ∙ same, ap (λ (c : Change). c.before) own ∙ state, ap (λ (c : Change). c.marks) own ∙ covers)
  where
    some_is : ◌≡◌ {A = Option Change} (Some change) (Some made) → change ≡ made
    some_is e = cc
noted_as true ops before marks None made is same state covers = absurd (cc)
noted_as false ops before marks change made is same state covers = tt

-- what is noted of a commit is what it changed
pub noted_told : (asked : Bool) (old new : Editor) (ops : List Op) (marks : Marked) (change : Option Change) → new.commits ≡ old.commits + 1
    → option_map (λ (told : Told). told.ops) new.last ≡ Some ops
    → Leads old.view ops new.view → AreCovered old.tree new.tree (marking marks) → IsNoted asked ops (state_of old) marks change
    → IsToldChange asked old change new
unfolding IsToldChange IsNoted
noted_told true old new ops marks (Some change) number last leads covered noted = record {
  number = number;
  ops = last ∙ ap (λ xs. Some xs) (sym noted.0);
  leads = subst (λ xs. Leads old.view xs new.view) (sym noted.0) leads;
  before = noted.1;
  covered = subst (λ m. AreCovered old.tree new.tree (marking m)) (sym noted.2) covered;
}
noted_told true old new ops marks None number last leads covered noted = absurd noted
noted_told false old new ops marks change number last leads covered noted = tt
