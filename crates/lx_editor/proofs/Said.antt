-- What is said of an outcome is what comes of it.
use Rattle.std.proofs.Common.{◌≡◌, ◌∙◌, ℕ, ◌+◌, Bool, List, Option, None, Some, option_map, Result, sym, ap, subst}
use Rattle.std.specs.Global.{Box}
use Rattle.std.specs.Result.{IfOk}
use Rattle.lx_host.specs.declared.op.Op.{Op}
use Rattle.lx_marks.specs.Marks.{Marked}
use Rattle.lx_step.specs.declared.built_in.Turn.{Turn}
use Rattle.lx_draft.specs.declared.state.Frozen.{Frozen}
use Rattle.lx_draft.specs.declared.state.State.{State}
use Rattle.lx_forest.specs.Covered.{AreCovered}
use Rattle.lx_history.specs.History.{next_entry}
use Rattle.lx_reconcile.specs.Allowing.{marking}
use Rattle.lx_reconcile.specs.Told.{Told}
use Rattle.lx_script.specs.Replies.{reply_text}
use Rattle.lx_editor.specs.declared.change.Change.{Change}
use Rattle.lx_editor.specs.declared.change.Telling.{Telling}
use Rattle.lx_editor.specs.declared.outcome.Outcome.{Outcome}
use Rattle.lx_editor.specs.declared.recording.Recording.{Recording}
use Rattle.lx_editor.specs.Changes.{state_of, IsNoted, IsToldChange, IsUncommitted}
use Rattle.lx_editor.specs.Editor.{Editor}
use Rattle.lx_editor.specs.Follows.{html_told, reply_of, view_told}
use Rattle.lx_editor.specs.Judged.{covering, IsCoveredBy}
use Rattle.lx_editor.specs.Saying.{HasCommitted, IsSaid}
use Rattle.lx_editor.specs.Turned.{IsTurned}
use Rattle.lx_editor.specs.Updated.{what_is_left, IsCommitted}
use Rattle.lx_editor.proofs.Changed.{none_told, noted_told, told_from, uncommitted_cleared, uncommitted_listener, uncommitted_same}
use Rattle.lx_editor.proofs.Kept.{state_or}
use Rattle.lx_editor.proofs.Told.{told}

-- ---- a commit, as it is said

pub committed_has : (old : Editor) (how : Recording) (frozen lent : Frozen) (shown : Option (Box Marked)) (marks : Marked) (ops : List Op) (new : Editor)
    → lent ≡ frozen → marks ≡ covering lent shown → IsCoveredBy old frozen.state.links (covering frozen shown)
    → IsCommitted old how (what_is_left old.rules frozen) (old.commits + 1) ops new → HasCommitted old lent.state ops marks new
committed_has old how frozen lent shown marks ops new is covers covered done =
    subst (λ m. HasCommitted old lent.state ops m new) (sym covers)
    (subst (λ (f : Frozen). HasCommitted old f.state ops (covering f shown) new) (sym is)
    (record {
      number = ap (λ (e : Editor). e.commits) done.made;
      last = ap (λ (e : Editor). option_map (λ (told : Told). told.ops) e.last) done.made;
      leads = done.allowed.leads;
      covered = subst (λ f. AreCovered old.tree f (marking (covering frozen shown))) (sym (ap (λ (e : Editor). e.tree) done.made)) covered;
      tree = ap (λ (e : Editor). e.tree) done.made;
      tells_view = ap (λ (e : Editor). e.tells_view) done.made;
    }))

pub turned_has : (turn : Turn) (moment : ℕ) (old : Editor) (state lent : State) (covers marks : Marked) (ops : List Op) (new : Editor)
    → lent ≡ state → marks ≡ covers → next_entry turn old.history ≡ Some state → IsCoveredBy old state.links covers
    → IsTurned turn moment old (old.commits + 1) ops new → HasCommitted old lent ops marks new
turned_has turn moment old state lent covers marks ops new is same next covered done =
    let tree : new.tree ≡ state.links = ap (λ (e : Editor). e.tree) done.made ∙ ap (λ (s : State). s.links) (ap (state_or state) (sym done.next ∙ next)) in
    subst (λ m. HasCommitted old lent ops m new) (sym same)
    (subst (λ (s : State). HasCommitted old s ops covers new) (sym is)
    (record {
      number = ap (λ (e : Editor). e.commits) done.made;
      last = ap (λ (e : Editor). option_map (λ (told : Told). told.ops) e.last) done.made;
      leads = done.allowed.leads;
      covered = subst (λ f. AreCovered old.tree f (marking covers)) (sym tree) covered;
      tree = tree;
      tells_view = ap (λ (e : Editor). e.tells_view) done.made;
    }))

-- the view in the reply to it is the new one
pub said_view : (old : Editor) (state : State) (ops : List Op) (marks : Marked) (new : Editor) → HasCommitted old state ops marks new
    → html_told old.tells_view state.links ≡ view_told new
said_view old state ops marks new has = ap (html_told old.tells_view) (sym has.tree) ∙ ap (λ b. html_told b new.tree) (sym has.tells_view)

-- what is noted before it is what it changed
pub said_change : (asked : Bool) (old mid : Editor) (state : State) (ops : List Op) (marks : Marked) (change : Option Change) (new : Editor)
    → IsUncommitted old mid → HasCommitted mid state ops marks new
    → IsNoted asked ops (state_of mid) marks change → IsToldChange asked old change new
said_change asked old mid state ops marks change new same has noted =
    told_from asked old mid change new same (noted_told asked mid new ops marks change has.number has.last has.leads has.covered noted)

-- ---- what is said, as it is answered

pub outcome_said : {E : Type 0} (r : Result Outcome E) (P : Outcome → Type 0) → IfOk r (λ said. (outcome : Outcome) × P outcome × (said ≡ outcome)) → IfOk r P
outcome_said r P said = told r _ P said (λ o (outcome, p, is). subst P (sym is) p)

-- what a request says is the reply that gives its outcome, and the change is there
pub reply_said : {X E : Type 0} (r : Result X E) (bytes : X → List ℕ) (telling : Telling) (old : Editor) (change : Option Change) (new : Editor)
    (P : Outcome → Type 0) → telling.change ≡ None
    → IfOk r (λ said. (outcome : Outcome) × P outcome × IsSaid telling None old outcome new (bytes said) change)
    → IfOk r (λ said. ((outcome : Outcome) × P outcome × (bytes said ≡ reply_text (reply_of None (view_told new) outcome)))
    × IsToldChange telling.asked old change new)
reply_said r bytes telling old change new P none said = told r _ _ said (λ x (outcome, p, is). ((outcome, p, is.0), is.1 none))

-- where nothing is committed there is no change to be said
pub still_said : {X E : Type 0} (r : Result X E) (bytes : X → List ℕ) (text : List ℕ) (telling : Telling) → IfOk r (λ said. bytes said ≡ text)
    → IfOk r (λ said. (old new : Editor) → IsUncommitted old new
    → (bytes said ≡ text) × (telling.change ≡ None → IsToldChange telling.asked old telling.change new))
still_said r bytes text telling said = told r _ _ said (λ x is. λ old new same. (is, λ none. none_told telling.asked old telling.change new none same))

-- what the reply to a line of any form follows from
pub ruleset replying = (reply_said, none_told, uncommitted_same, uncommitted_listener, uncommitted_cleared)
