-- What steps and rules come to before anything is changed. Only this crate's own contracts cite it.
use Rattle.std.specs.Prelude.{◌≡◌, ◌≤◌, ◌⊎◌, ℕ, Bool, true, false, List, [], ◌∷◌, Option, None, Some, option_map, unwrap_or, Result, Ok, Err}
use Rattle.std.specs.Global.{Box}
use Rattle.lx_node.specs.declared.cause.Cause.{Cause}
use Rattle.lx_marks.specs.Marks.{Marked, unmarked, is_touched, is_noted, with_leaf}
use Rattle.lx_step.specs.declared.built_in.Turn.{Turn}
use Rattle.lx_forest.specs.Forest.{Forest}
use Rattle.lx_forest.specs.Lookups.{has, kind_of, parent_of, children_of, roots, IsForest}
use Rattle.lx_json.specs.Importing.{IsImported}
use Rattle.lx_list.specs.Began.{BeganNumbered}
use Rattle.lx_draft.specs.declared.state.Frozen.{Frozen}
use Rattle.lx_draft.specs.declared.state.State.{State}
use Rattle.lx_draft.specs.Working.{Working}
use Rattle.lx_draft.specs.Covering as drafts
use Rattle.lx_history.specs.History.{next_entry}
use Rattle.lx_forest.specs.Covered.{Marking, AreCovered}
use Rattle.lx_reconcile.specs.Told.{Told}
use Rattle.lx_reconcile.specs.Allowing.{marking, IsAllowed}
use Rattle.lx_update.specs.declared.ending.Ending.{Ending}
use Rattle.lx_update.specs.declared.ending.Ending.TheVariants as ending
use Rattle.lx_update.specs.declared.refusal.Refusal.{Refusal}
use Rattle.lx_update.specs.declared.refusal.Refusal.TheVariants as refusal
use Rattle.lx_editor.specs.declared.outcome.Outcome.{Outcome}
use Rattle.lx_editor.specs.declared.outcome.Outcome.TheVariants as made
use Rattle.lx_editor.specs.declared.outcome.Verdict.{Verdict}
use Rattle.lx_editor.specs.declared.outcome.Verdict.TheVariants.{Commit, Turned, Refused, Idle}
use Rattle.lx_editor.specs.declared.recording.Recording.{Recording}
use Rattle.lx_editor.specs.Editor.{Editor}
use Rattle.lx_editor.specs.Standing.{IsState}
use Rattle.lx_editor.specs.Turned.{is_in_either, IsTurned, IsUnshowableEntry}
use Rattle.lx_editor.specs.Updated.{Left, Settled, what_is_left, rested_by, IsAtRest, IsNothingNew, IsUnshowable, hosts_fault, IsCommitted}
use Rattle.lx_reconcile.specs.Reading.{most_reads}

-- ---- what is left

-- What may be left for a commit: a state again.
pub record IsLeft (left : Left) : Type 0 where
  pub state : IsState left.tree left.selection left.next_key

-- what a draft leaves under its rules, with what was marked as it had come to rest
abbrev pub LeavesAtRest : Working → Left → Type 0
LeavesAtRest w left = (settled : Marked) × (rested_by left.rules w ≡ Ok (record { left = left; marks = settled }))

-- all that a draft leaves is at rest
abbrev pub IsSettledOf : Working → Left → Type 0
IsSettledOf w left = (settled : Settled) → rested_by left.rules w ≡ Ok settled → IsAtRest settled

-- a draft as an update begins with it: a state of which nothing is marked
pub record IsFresh (u : Working) : Type 0 where
  pub state : IsState u.forest u.selection u.next_key
  pub marks : u.marks ≡ unmarked
  pub fresh : u.fresh ≡ unmarked

-- A draft that may come to rest: it is ready, and it began with items that have their numbers.
pub record MayRest (w : Working) : Type 0 where
  pub ready : drafts.IsReady w
  pub began : BeganNumbered w

-- It has grown from a tree with this next key: the next key doesn't fall, nodes that stay keep their kinds, and each node that
-- is new has a key that was still to be given.
pub record HasGrown (old : Forest) (next : ℕ) (left : Left) : Type 0 where
  pub next_key : next ≤ left.next_key
  pub kinds : (q : ℕ) → has q old ≡ true → has q left.tree ≡ true → kind_of old q ≡ kind_of left.tree q
  pub each : (q : ℕ) → has q left.tree ≡ true → (has q old ≡ true) ⊎ (next ≤ q)

-- What may be left of a draft that was fresh, and that its marks cover: they cover the two trees then.
abbrev pub IsLeftOf : Working → Left → Type 0
IsLeftOf w left =
    (u : Working) → IsFresh u → drafts.AreCovered u w
    → IsLeft left × AreCovered u.forest left.tree (marking left.marks) × HasGrown u.forest u.next_key left × IsSettledOf w left

-- ---- what is left of a document

-- the node was a child of one that stays, and that is marked
pub record IsChildOfMarked (old : Forest) (left : Left) (q : ℕ) : Type 0 where
  pub parent : ℕ
  pub up : parent_of old q ≡ Some parent
  pub stays : has parent left.tree ≡ true
  pub marked : is_touched left.marks parent ≡ true

-- Operations for these marks are operations for those of what is left: they cover the two trees, they mark the same nodes of
-- the new tree, and beside those only nodes that are gone from below a marked one.
pub record IsShownBy (old : Forest) (left : Left) (shown : Marked) : Type 0 where
  pub covered : AreCovered old left.tree (marking shown)
  pub touched : (q : ℕ) → has q left.tree ≡ true → is_touched shown q ≡ is_touched left.marks q
  pub noted : (q : ℕ) → has q left.tree ≡ true → is_noted shown q ≡ is_noted left.marks q
  pub gone : (q : ℕ) → has q left.tree ≡ false → is_touched shown q ≡ true → (is_touched left.marks q ≡ true) ⊎ IsChildOfMarked old left q

-- the marks with these keys among the leaves
abbrev pub with_leaves : List ℕ → Marked → Marked
with_leaves [] m = m
with_leaves (k ∷ ks) m = with_leaves ks (with_leaf k m)

-- a tree whose place another may take, whose new nodes get keys from the next one on
pub record MayGiveWay (old : Forest) (next : ℕ) : Type 0 where
  pub in_order : IsForest old
  pub alone : roots old ≡ 0 ∷ []
  pub free : (q : ℕ) → next ≤ q → has q old ≡ false

-- What may be left of an imported draft: its root is marked, and whatever tree it takes the place of, all children of that
-- one's root are gone.
abbrev pub IsLeftOfImport : Working → Left → Type 0
IsLeftOfImport w left =
    (next : ℕ) → IsImported next w → IsLeft left × (is_touched left.marks 0 ≡ true) × IsSettledOf w left
    × ((old : Forest) → MayGiveWay old next → IsShownBy old left (with_leaves (children_of old 0) left.marks) × HasGrown old next left)

-- ---- what it comes to

-- What is left may be committed with these operations: it is something new, the view has ids for it, and the operations are
-- allowed and were found by few reads.
pub record MayCommit (old : Editor) (left : Left) (batch : Told) : Type 0 where
  pub stands : IsLeft left
  pub grown : HasGrown old.tree old.next_key left
  pub anew : IsNothingNew old left → ⊥
  pub ids : hosts_fault old.tree left.tree old.view ≡ None
  pub allowed : IsAllowed old.tree left.tree (marking left.marks) old.view batch.ops
  pub few : batch.reads ≤ most_reads old.tree left.tree (is_noted left.marks)

-- the marks that cover the trees before and after: these, where a document was loaded, and else those of what is frozen
abbrev pub covering : Frozen → Option (Box Marked) → Marked
covering frozen shown = unwrap_or (option_map (λ (b : Box Marked). b.value) shown) frozen.marks

-- the marks cover the committed tree and the one after
abbrev pub IsCoveredBy : Editor → Forest → Marked → Type 0
IsCoveredBy old after marks = AreCovered old.tree after (marking marks)

-- What is left under the editor's rules is to be committed, or can't be shown, or is nothing new.
abbrev pub IsWeighed : Editor → Left → Verdict → Type 0
IsWeighed old left (Commit frozen batch shown) =
    (what_is_left old.rules frozen.value ≡ left) × MayCommit old left batch × IsCoveredBy old frozen.value.state.links (covering frozen.value shown)
IsWeighed old left (Turned turn state batch marks) = ⊥
IsWeighed old left (Refused cause step) = IsUnshowable old left cause step old
IsWeighed old left Idle = (left.rules ≡ old.rules) × IsNothingNew old left

-- what steps come to: they are refused, or what is left is at rest, and is weighed
abbrev pub IsJudged : Result Settled (Cause × Option ℕ) → Editor → Verdict → Type 0
IsJudged (Err refused) old verdict = verdict ≡ Refused refused.0 refused.1
IsJudged (Ok settled) old verdict = IsAtRest settled × IsWeighed old settled.left verdict

-- ---- what an undo or a redo comes to

-- both marks of every node of either tree
abbrev pub all_marked : Forest → Forest → Marking
all_marked old new = record { touched = is_in_either old new; noted = is_in_either old new }

-- The history may go to this state, which is its next entry, with these operations: the view has ids for it, and they are
-- allowed and were found by few reads.
pub record MayTurn (old : Editor) (turn : Turn) (state : State) (batch : Told) : Type 0 where
  pub next : next_entry turn old.history ≡ Some state
  pub stands : IsState state.links state.selection old.next_key
  pub ids : hosts_fault old.tree state.links old.view ≡ None
  pub allowed : IsAllowed old.tree state.links (all_marked old.tree state.links) old.view batch.ops
  pub few : batch.reads ≤ most_reads old.tree state.links (is_in_either old.tree state.links)

-- what an undo or a redo comes to
abbrev pub IsTurnJudged : Turn → Editor → Verdict → Type 0
IsTurnJudged turn old (Turned way state batch marks) = (way ≡ turn) × MayTurn old turn state.value batch × IsCoveredBy old state.value.links marks.value
IsTurnJudged turn old (Refused cause step) = IsUnshowableEntry turn old cause step old
IsTurnJudged turn old Idle = next_entry turn old.history ≡ None
IsTurnJudged turn old (Commit frozen batch shown) = ⊥

-- what a dispatch comes to, and whether it was handled
abbrev pub IsAnswerJudged : Result Ending (Cause × Option ℕ) → Editor → Verdict → Bool → Type 0
IsAnswerJudged (Err refused) old verdict handled = (verdict ≡ Refused refused.0 refused.1) × (handled ≡ false)
IsAnswerJudged (Ok (ending.Left w was_handled)) old verdict handled = IsJudged (rested_by old.rules w) old verdict × (handled ≡ was_handled)
IsAnswerJudged (Ok (ending.Turned turn)) old verdict handled = IsTurnJudged turn old verdict × (handled ≡ true)

-- a refusal is for a cause, and memory didn't run out
abbrev pub IsForCause : Refusal → Type 0
IsForCause (refusal.Cause cause step) = Unit {0}
IsForCause refusal.Memory = ⊥

-- ---- what is done

-- what has to hold for a verdict to be carried out: where there is a commit, it may be made, and its marks cover the two trees
abbrev pub MayConclude : Editor → Verdict → Type 0
MayConclude old (Commit frozen batch shown) = MayCommit old (what_is_left old.rules frozen.value) batch × IsCoveredBy old frozen.value.state.links (covering frozen.value shown)
MayConclude old (Turned turn state batch marks) = MayTurn old turn state.value batch × IsCoveredBy old state.value.links marks.value
MayConclude old verdict = Unit {0}

-- the outcome that a verdict has, and the editor that it leaves
abbrev pub IsConcluded : Editor → Recording → Verdict → Outcome → Editor → Type 0
IsConcluded old how (Commit frozen batch shown) (made.Committed number ops) new = IsCommitted old how (what_is_left old.rules frozen.value) number ops new
IsConcluded old how (Commit frozen batch shown) other new = ⊥
IsConcluded old how (Turned turn state batch marks) (made.Committed number ops) new = IsTurned turn how.moment old number ops new
IsConcluded old how (Turned turn state batch marks) other new = ⊥
IsConcluded old how (Refused cause step) outcome new = (outcome ≡ made.Refused cause step) × (new ≡ old)
IsConcluded old how Idle outcome new = (outcome ≡ made.Idle) × (new ≡ old)

-- whether the verdict refuses
abbrev pub is_refused : Verdict → Bool
is_refused (Refused cause step) = true
is_refused verdict = false

-- whether the verdict is that there is nothing new
abbrev pub is_idle : Verdict → Bool
is_idle Idle = true
is_idle verdict = false
