-- What the fields of an editor mean, and what holds of them.
use Rattle.std.specs.Prelude.{◌≡◌, ℕ, true, [], ◌∷◌, None, Some, All, IfSome}
use Rattle.lx_node.specs.declared.kind.Kind.{Kind}
use Rattle.lx_select.specs.declared.selection.Selection.{Selection}
use Rattle.lx_forest.specs.Forest.{Forest}
use Rattle.lx_forest.specs.Lookups.{has, kind_of, roots, IsForest}
use Rattle.lx_reconcile.specs.Allowed.{Shows}
use Rattle.lx_draft.specs.declared.state.State.{State}
use Rattle.lx_draft.specs.Working.{MayStart}
use Rattle.lx_draft.specs.Freezing.{limits_fault, kept_selection}
use Rattle.lx_draft.specs.Selecting.{selection_lost}
use Rattle.lx_history.specs.History.{History}
use Rattle.lx_history.specs.Told.{IsAway}
use Rattle.lx_settle.specs.Joined.{IsJoined}
use Rattle.lx_list.specs.Numbered.{AreListsNumbered}
use Rattle.lx_editor.specs.declared.editor.Editor.TheInside.{Inside}
use Rattle.lx_editor.specs.Editor.{Editor}
use Rattle.lx_editor.specs.Gathering.{IsPending, started_of, unboxed}

-- the editor that the code's fields mean
abbrev pub editor_of : Inside → Editor
editor_of a = record {
  tree = a.state.links;
  selection = a.state.selection;
  next_key = a.next_key;
  pending = unboxed a.pending;
  commits = a.commits;
  view = a.view.tree;
  last = a.last;
  history = a.history.history;
  moment = a.moment;
  rules = a.rules.items;
  listeners = a.bus;
  tells_view = a.tells_view;
}

-- A state that may be committed: one tree, with no detached one beside it, from which an update may start with this next
-- key, which is within the limits, in which the selection lies, each point of a range and each selected node, whose texts
-- are joined, and whose items are numbered.
pub record IsState (f : Forest) (selection : Selection) (next_key : ℕ) : Type 0 where
  pub in_order : IsForest f
  pub alone : roots f ≡ 0 ∷ []
  pub start : MayStart f next_key
  pub within : limits_fault f next_key ≡ None
  pub selected : selection_lost selection f ≡ None
  pub kept : kept_selection f selection ≡ selection
  pub joined : IsJoined f
  pub numbered : AreListsNumbered f

-- ---- what the history keeps

-- Each node of the tree has the kind that its key has here.
abbrev pub HasKinds : (ℕ → Kind) → Forest → Type 0
HasKinds kinds f = (q : ℕ) → has q f ≡ true → kind_of f q ≡ Some (kinds q)

-- a state that may be committed, with this next key
abbrev pub IsEntry : ℕ → State → Type 0
IsEntry next_key s = IsState s.links s.selection next_key

-- each state of a history
pub record EachEntry (P : State → Type 0) (h : History) : Type 0 where
  pub undo : All P h.undo
  pub redo : All P h.redo
  pub current : IfSome h.current P

-- Each state of the history may be committed again as it is. A key is given to one node alone, so there is one kind for each
-- key, which its node has in the committed tree and in every state of the history.
pub record IsReturnable (e : Editor) : Type 0 where
  pub kinds : ℕ → Kind
  pub now : HasKinds kinds e.tree
  pub entries : EachEntry (λ s. IsEntry e.next_key s × HasKinds kinds s.links) e.history

-- An editor's state is such, and the view shows its tree and nothing else. There is a last commit exactly where there were
-- any. Of its history each state is kept. What is pending goes on from what is committed.
pub record IsValid (e : Editor) : Type 0 where
  pub state : IsState e.tree e.selection e.next_key
  pub shown : Shows e.view e.tree
  pub none : e.commits ≡ 0 → e.last ≡ None
  pub some : e.last ≡ None → e.commits ≡ 0
  pub kept : IsReturnable e
  pub pending : IfSome e.pending (IsPending (started_of e))

-- What holds of the fields of an editor: it is valid, and its tree differs from the history's current one only where the history
-- says so.
pub record IsWhole (a : Inside) : Type 0 where
  pub valid : IsValid (editor_of a)
  pub told : IsAway a.history.history.current a.history.strays a.state.links
