-- What a line changed, as `line_with_change` answers it.
use Rattle.std.specs.Prelude.{◌≡◌, ◌+◌, Bool, true, false, List, Option, None, Some, option_map}
use Rattle.lx_host.specs.declared.op.Op.{Op}
use Rattle.lx_host.specs.Hosts.{Leads}
use Rattle.lx_marks.specs.Marks.{Marked}
use Rattle.lx_forest.specs.Covered.{AreCovered}
use Rattle.lx_draft.specs.declared.state.State.{State}
use Rattle.lx_reconcile.specs.Allowing.{marking}
use Rattle.lx_editor.specs.declared.change.Change.{Change}
use Rattle.lx_editor.specs.Editor.{Editor}
use Rattle.lx_editor.specs.Updated.{state_with}

-- the state that is committed
abbrev pub state_of : Editor → State
state_of e = state_with e.tree e.selection

-- A commit changed this: its operations are those of the last batch, and lead from the view before to the view after; the
-- state before is the one that was committed; and the marks cover the trees before and after. With updates that waited it is
-- all that they changed, too.
pub record TellsChange (old : Editor) (change : Change) (new : Editor) : Type 0 where
  pub number : new.commits ≡ old.commits + 1
  pub ops : option_map (λ told. told.ops) new.last ≡ Some change.ops.items
  pub leads : Leads old.view change.ops.items new.view
  pub before : change.before ≡ state_of old
  pub covered : AreCovered old.tree new.tree (marking change.marks)

-- Nothing was committed.
pub record IsUncommitted (old new : Editor) : Type 0 where
  pub commits : new.commits ≡ old.commits
  pub tree : new.tree ≡ old.tree
  pub selection : new.selection ≡ old.selection
  pub view : new.view ≡ old.view
  pub last : new.last ≡ old.last

-- The line committed, and changed this; or it committed nothing.
abbrev pub IsChange : Editor → Option Change → Editor → Type 0
IsChange old None new = IsUncommitted old new
IsChange old (Some change) new = TellsChange old change new

-- ---- on the way there, which only this crate's own contracts cite

-- a change is answered where it is asked for
unfoldable pub IsToldChange : Bool → Editor → Option Change → Editor → Type 0
IsToldChange true old change new = IsChange old change new
IsToldChange false old change new = Unit {0}

-- where a change is asked for, it has these operations, this state before and these marks
unfoldable pub IsNoted : Bool → List Op → State → Marked → Option Change → Type 0
IsNoted true ops before marks (Some change) = (change.ops.items ≡ ops) × (change.before ≡ before) × (change.marks ≡ marks)
IsNoted true ops before marks None = ⊥
IsNoted false ops before marks change = Unit {0}
