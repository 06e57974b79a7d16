-- What undo and redo make of an editor: the history goes to another of its states, which is committed.
use Rattle.std.specs.Prelude.{◌≡◌, ◌≤◌, ◌||◌, ℕ, ◌+◌, Bool, true, false, List, Option, None, Some}
use Rattle.lx_node.specs.declared.cause.Cause.{Cause}
use Rattle.lx_node.specs.declared.cause.Cause.TheVariants.{HistoryInside}
use Rattle.lx_host.specs.declared.op.Op.{Op}
use Rattle.lx_step.specs.declared.built_in.Turn.{Turn}
use Rattle.lx_forest.specs.Forest.{Forest}
use Rattle.lx_forest.specs.Lookups.{has}
use Rattle.lx_reconcile.specs.Allowed.{AreAllowed}
use Rattle.lx_draft.specs.declared.state.State.{State}
use Rattle.lx_history.specs.History.{next_entry, history_turned, cleared}
use Rattle.lx_settle.specs.Joined.{IsJoined}
use Rattle.lx_list.specs.Numbered.{AreListsNumbered}
use Rattle.lx_editor.specs.declared.outcome.Outcome.{Outcome}
use Rattle.lx_editor.specs.declared.outcome.Outcome.TheVariants.{Committed, Gathered, Refused, Idle}
use Rattle.lx_editor.specs.Editor.{Editor}
use Rattle.lx_editor.specs.Gathering.{is_gathering, with_nothing_pending}
use Rattle.lx_editor.specs.Updated.{hosts_fault, with_commit}
use Rattle.lx_reconcile.specs.Reading.{most_reads}

-- whether a node is in either tree, each of which counts as marked
abbrev pub is_in_either : Forest → Forest → ℕ → Bool
is_in_either old new q = has q old || has q new

-- The history has gone to an entry, whose tree and selection are committed as they were recorded, whatever was written since.
-- No rule is asked, no key is given back, and the operations lead from the committed tree to the entry's, whose texts are
-- joined and whose items are numbered. Of the new editor only the view's ids and the number of reads are left open.
pub record IsTurned (turn : Turn) (moment : ℕ) (old : Editor) (commit : ℕ) (ops : List Op) (new : Editor) : Type 0 where
  pub entry : State
  pub next : next_entry turn old.history ≡ Some entry
  pub turns : history_turned turn moment old.history ≡ Some new.history
  pub current : new.history.current ≡ Some entry
  pub ids : hosts_fault old.tree entry.links old.view ≡ None
  pub allowed : AreAllowed old.tree entry.links (is_in_either old.tree entry.links) old.view ops new.view
  pub reads : ℕ
  pub few : reads ≤ most_reads old.tree entry.links (is_in_either old.tree entry.links)
  pub joined : IsJoined entry.links
  pub numbered : AreListsNumbered entry.links
  pub number : commit ≡ old.commits + 1
  pub made : new ≡ with_commit entry new.view (record { ops = ops; reads = reads }) new.history old

-- There is an entry, but the view has no ids for it, and nothing changes.
pub record IsUnshowableEntry (turn : Turn) (old : Editor) (cause : Cause) (step : Option ℕ) (new : Editor) : Type 0 where
  pub entry : State
  pub next : next_entry turn old.history ≡ Some entry
  pub fault : hosts_fault old.tree entry.links old.view ≡ Some cause
  pub no_step : step ≡ None
  pub same : new ≡ old

-- The outcome that an undo or a redo may have, and the editor that it may leave. It is idle exactly where there is no entry to
-- go to.
abbrev pub IsTurnedBy : Turn → ℕ → Editor → Outcome → Editor → Type 0
IsTurnedBy turn moment old (Committed commit ops) new = IsTurned turn moment old commit ops new
IsTurnedBy turn moment old (Refused cause step) new = IsUnshowableEntry turn old cause step new
IsTurnedBy turn moment old Idle new = (next_entry turn old.history ≡ None) × (new ≡ old)
IsTurnedBy turn moment old (Gathered count) new = ⊥

-- the outcome of an undo or a redo where lines may be gathered: then it is refused, and they are dropped
abbrev pub IsTurnedUnless : Bool → Turn → ℕ → Editor → Outcome → Editor → Type 0
IsTurnedUnless true turn moment old outcome new = (outcome ≡ Refused HistoryInside None) × (new ≡ old)
IsTurnedUnless false turn moment old outcome new = IsTurnedBy turn moment old outcome new

-- the outcome that an undo or a redo by itself may have, and the editor that it may leave
unfoldable pub IsTurnedAlone : Turn → ℕ → Editor → Outcome → Editor → Type 0
IsTurnedAlone turn moment old outcome new = IsTurnedUnless (is_gathering old) turn moment (with_nothing_pending old) outcome new

-- the editor whose history has forgotten its entries
abbrev pub with_nothing_recorded : Editor → Editor
with_nothing_recorded e = record e { history = cleared e.history }
