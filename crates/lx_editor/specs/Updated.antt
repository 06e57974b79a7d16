-- What an update by steps makes of an editor, and what a commit is.
use Rattle.std.specs.Prelude.{◌≡◌, ◌≤◌, ℕ, ◌+◌, List, Option, None, Some, Result, Ok, Err}
use Rattle.lx_node.specs.Limits.{last_u32}
use Rattle.lx_node.specs.declared.cause.Cause.{Cause}
use Rattle.lx_node.specs.declared.cause.Fault.{Fault}
use Rattle.lx_node.specs.declared.cause.Fault.TheVariants as fault
use Rattle.lx_node.specs.declared.cause.Limit.TheVariants.{Hosts}
use Rattle.lx_host.specs.declared.op.Op.{Op}
use Rattle.lx_host.specs.Hosts.{HostTree}
use Rattle.lx_marks.specs.Marks.{Marked, unmarked, is_touched, is_noted}
use Rattle.lx_select.specs.declared.selection.Selection.{Selection}
use Rattle.lx_step.specs.declared.step.Step.{Step}
use Rattle.lx_step.specs.declared.listener.Listener.{Listener}
use Rattle.lx_forest.specs.Forest.{Forest}
use Rattle.lx_reconcile.specs.Reading.{most_reads}
use Rattle.lx_reconcile.specs.Allowed.{AreAllowed, unkept}
use Rattle.lx_reconcile.specs.Told.{Told}
use Rattle.lx_draft.specs.Working.{Working}
use Rattle.lx_draft.specs.Freezing.{freeze_step}
use Rattle.lx_draft.specs.Faults.{over, after}
use Rattle.lx_draft.specs.declared.state.Frozen.{Frozen}
use Rattle.lx_draft.specs.declared.state.State.{State}
use Rattle.lx_history.specs.History.{History, noted}
use Rattle.lx_update.specs.Lines.{steps_run, left_draft}
use Rattle.lx_update.specs.Refusals.{refused_or}
use Rattle.lx_rules.specs.Answers.{Answers}
use Rattle.lx_rules.specs.AnyRules.{any_rows, any_acts}
use Rattle.lx_rules.specs.declared.any_rule.AnyRule.{AnyRule}
use Rattle.lx_settle.specs.Acting.{all_asked}
use Rattle.lx_settle.specs.Joined.{IsJoined}
use Rattle.lx_settle.specs.Rested.{IsRested}
use Rattle.lx_settle.specs.Settling.{settle_step}
use Rattle.lx_list.specs.Numbered.{AreListsNumbered}
use Rattle.lx_list.specs.Numbering.{number_step}
use Rattle.lx_editor.specs.declared.recording.Recording.{Recording}
use Rattle.lx_editor.specs.declared.outcome.Outcome.{Outcome}
use Rattle.lx_editor.specs.declared.outcome.Outcome.TheVariants.{Committed, Gathered, Refused, Idle}
use Rattle.lx_editor.specs.Editor.{Editor}
use Rattle.lx_editor.specs.Gathering.{begun, recording_all, with_nothing_pending}

-- ---- what steps leave

-- What is left for a commit: the tree, the selection, what was marked, the key that the next new node gets, and the rules
-- under which it came to rest.
pub record Left : Type 0 where
  pub tree : Forest
  pub selection : Selection
  pub marks : Marked
  pub next_key : ℕ
  pub rules : List AnyRule

-- what is left for a commit in a draft
abbrev pub left_in : List AnyRule → Working → Left
left_in rules w = record { tree = w.forest; selection = w.selection; marks = w.marks; next_key = w.next_key; rules = rules }

-- what is left for a commit in what was frozen
abbrev pub what_is_left : List AnyRule → Frozen → Left
what_is_left rules frozen =
    record { tree = frozen.state.links; selection = frozen.state.selection; marks = frozen.marks; next_key = frozen.next_key; rules = rules }

-- what is left, with what was marked when it had come to rest, before items got other numbers
pub record Settled : Type 0 where
  pub left : Left
  pub marks : Marked

-- what is committed, or a refusal of the commit, which no step is refused for
abbrev pub at_commit : List AnyRule → Marked → Result Working Cause → Result Settled (Cause × Option ℕ)
at_commit rules settled (Ok w) = Ok (record { left = left_in rules w; marks = settled })
at_commit rules settled (Err cause) = Err (cause, None)

-- what rules answer
abbrev pub answers_of : List AnyRule → List Answers
answers_of rules = all_asked any_rows any_acts rules

-- what a draft leaves that has come to rest: its items get their numbers, and it is frozen
abbrev pub numbered_by : List AnyRule → Result Working Cause → Result Settled (Cause × Option ℕ)
numbered_by rules (Ok v) = at_commit rules v.marks (after (number_step v) freeze_step)
numbered_by rules (Err cause) = Err (cause, None)

-- what a draft leaves for a commit: it comes to rest under the rules first
abbrev pub rested_by : List AnyRule → Working → Result Settled (Cause × Option ℕ)
rested_by rules w = numbered_by rules (settle_step (answers_of rules) w)

-- What is left is at rest for its rules and for what was marked as it had come to rest.
abbrev pub IsAtRest : Settled → Type 0
IsAtRest settled = IsRested (answers_of settled.left.rules) settled.left.tree settled.marks

-- What steps leave of a draft for a commit, where these listeners are offered what they dispatch; or why they are refused, and
-- at which step.
unfoldable pub left_by : List AnyRule → List Listener → List Step → Working → Result Settled (Cause × Option ℕ)
left_by rules listeners steps w = refused_or (left_draft (steps_run listeners steps w)) (rested_by rules)

-- ---- how a commit is recorded

-- a state of this tree and selection
abbrev pub state_with : Forest → Selection → State
state_with f selection = record { links = f; selection = selection }

-- the history with what is left, beside what was committed
abbrev pub recorded : Editor → Recording → Left → History
recorded old how left =
    noted (state_with old.tree old.selection) (state_with left.tree left.selection) left.marks how.tags how.moment old.history

-- ---- what is made of it

-- the editor that has committed this state: nothing is pending in it any more, and its view, what the commit answered and its
-- history are these
abbrev pub with_commit : State → HostTree → Told → History → Editor → Editor
with_commit state view told history e = record e {
  tree = state.links;
  selection = state.selection;
  pending = None;
  commits = e.commits + 1;
  view = view;
  last = Some told;
  history = history;
}

-- nothing is marked, and the selection is the committed one
pub record IsNothingNew (old : Editor) (left : Left) : Type 0 where
  pub none_marked : left.marks ≡ unmarked
  pub selected : left.selection ≡ old.selection

-- why a view of the old tree can't come to show the new one: there are no ids for all the hosts of nodes that aren't kept
abbrev pub hosts_fault : Forest → Forest → HostTree → Option Cause
hosts_fault old new view = over Hosts last_u32 (view.next + unkept old None new)

-- An error of a call that looks for that fault: it is this, or memory ran out.
abbrev pub TellsHosts : Fault → Option Cause → Type 0
TellsHosts (fault.Cause cause) found = found ≡ Some cause
TellsHosts fault.Memory found = Unit {0}

-- It is something new, the view has ids for it, and it is committed: its texts are joined, its items are numbered, the
-- operations are allowed between the two trees, and they were found by no more reads than that. The history has it as these
-- tags and this time say, and nothing is pending any more. Of the new editor only the view's ids and the number of
-- reads are left open.
pub record IsCommitted (old : Editor) (how : Recording) (left : Left) (commit : ℕ) (ops : List Op) (new : Editor) : Type 0 where
  pub anew : IsNothingNew old left → ⊥
  pub ids : hosts_fault old.tree left.tree old.view ≡ None
  pub joined : IsJoined left.tree
  pub numbered : AreListsNumbered left.tree
  pub allowed : AreAllowed old.tree left.tree (is_touched left.marks) old.view ops new.view
  pub reads : ℕ
  pub few : reads ≤ most_reads old.tree left.tree (is_noted left.marks)
  pub number : commit ≡ old.commits + 1
  pub made : new ≡ with_commit (state_with left.tree left.selection) new.view (record { ops = ops; reads = reads }) (recorded old how left)
      (record old { next_key = left.next_key; rules = left.rules })

-- It is something new that the view has no ids for, and nothing changes.
pub record IsUnshowable (old : Editor) (left : Left) (cause : Cause) (step : Option ℕ) (new : Editor) : Type 0 where
  pub anew : IsNothingNew old left → ⊥
  pub fault : hosts_fault old.tree left.tree old.view ≡ Some cause
  pub no_step : step ≡ None
  pub same : new ≡ old

-- What is left is committed, unless it is nothing new, or can't be shown. Where it is nothing new the rules stay registered.
abbrev pub IsTaken : Editor → Recording → Left → Outcome → Editor → Type 0
IsTaken old how left (Committed commit ops) new = IsCommitted old how left commit ops new
IsTaken old how left (Refused cause step) new = IsUnshowable old left cause step new
IsTaken old how left Idle new = IsNothingNew old left × (new ≡ record old { rules = left.rules })
IsTaken old how left (Gathered count) new = ⊥

-- It is refused, and nothing changes; or what is left is at rest, and is taken.
abbrev pub IsMadeOf : Result Settled (Cause × Option ℕ) → Editor → Recording → Outcome → Editor → Type 0
IsMadeOf (Err refused) old how outcome new = (outcome ≡ Refused refused.0 refused.1) × (new ≡ old)
IsMadeOf (Ok settled) old how outcome new = IsAtRest settled × IsTaken old how settled.left outcome new

-- An update takes in what is pending, which is committed with what its steps leave, or dropped with it.
unfoldable pub IsUpdatedBy : Editor → List Step → Recording → Outcome → Editor → Type 0
IsUpdatedBy old steps how outcome new =
    IsMadeOf (left_by old.rules old.listeners steps (begun old)) (with_nothing_pending old) (recording_all old how) outcome new

-- A flush is an update that has no steps.
unfoldable pub IsFlushed : Editor → Recording → Outcome → Editor → Type 0
IsFlushed old how outcome new = IsMadeOf (rested_by old.rules (begun old)) (with_nothing_pending old) (recording_all old how) outcome new
