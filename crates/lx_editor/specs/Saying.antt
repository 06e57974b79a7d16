-- How an outcome is told before anything is committed. Only this crate's own contracts cite it.
use Rattle.std.specs.Prelude.{◌≡◌, ◌+◌, ℕ, Bool, List, Option, None, Some, option_map}
use Rattle.lx_host.specs.declared.op.Op.{Op}
use Rattle.lx_host.specs.Hosts.{Leads}
use Rattle.lx_marks.specs.Marks.{Marked}
use Rattle.lx_forest.specs.Covered.{AreCovered}
use Rattle.lx_draft.specs.declared.state.State.{State}
use Rattle.lx_reconcile.specs.Allowing.{marking}
use Rattle.lx_script.specs.Replies.{reply_text}
use Rattle.lx_editor.specs.declared.change.Change.{Change}
use Rattle.lx_editor.specs.declared.change.Telling.{Telling}
use Rattle.lx_editor.specs.declared.outcome.Outcome.{Outcome}
use Rattle.lx_editor.specs.Changes.{IsToldChange}
use Rattle.lx_editor.specs.Editor.{Editor}
use Rattle.lx_editor.specs.Follows.{reply_of, view_told}

-- what is said of a commit: the editor has this state now, which these operations show, and the marks cover the trees before
-- and after
pub record HasCommitted (old : Editor) (state : State) (ops : List Op) (marks : Marked) (new : Editor) : Type 0 where
  pub number : new.commits ≡ old.commits + 1
  pub last : option_map (λ told. told.ops) new.last ≡ Some ops
  pub leads : Leads old.view ops new.view
  pub covered : AreCovered old.tree new.tree (marking marks)
  pub tree : new.tree ≡ state.links
  pub tells_view : new.tells_view ≡ old.tells_view

-- These bytes are the reply that gives the outcome, and the change is there where it is asked for, if there was none before.
abbrev pub IsSaid : Telling → Option Bool → Editor → Outcome → Editor → List ℕ → Option Change → Type 0
IsSaid telling handled old outcome new bytes change =
    (bytes ≡ reply_text (reply_of handled (view_told new) outcome)) × (telling.change ≡ None → IsToldChange telling.asked old change new)
