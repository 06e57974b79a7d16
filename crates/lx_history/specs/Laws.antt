-- What goes back comes forth again.
use Rattle.std.specs.Prelude.{◌≡◌, ℕ, Some}
use Rattle.lx_draft.specs.declared.state.State.{State}
use Rattle.lx_marks.specs.Marks.{Marked}
use Rattle.lx_step.specs.declared.line.Tags.{Tags}
use Rattle.lx_history.specs.declared.kinds.Action.TheVariants.{Push}
use Rattle.lx_history.specs.History.{History, action_of, noted, undone, redone}

-- the history is at this state, and has the entries of the other before it and after it
pub record IsBackAt (state : State) (h g : History) : Type 0 where
  pub current : g.current ≡ Some state
  pub undo : g.undo ≡ h.undo
  pub redo : g.redo ≡ h.redo

-- the history goes back by an entry and has come to this one
abbrev pub GoesBack : ℕ → History → History → Type 0
GoesBack moment h g = undone moment h ≡ Some g

-- the history goes forth by an entry and has come to this one
abbrev pub GoesForth : ℕ → History → History → Type 0
GoesForth moment h g = redone moment h ≡ Some g

-- what is pushed can be undone, and what is undone redone
pub record HistoriesTurn : Type 0 where
  -- what is pushed after a current state is undone: there is an entry to go back to, which is that state
  pub push_undone : (before after state : State) (marks : Marked) (tags : Tags) (moment later : ℕ) (h : History) → h.current ≡ Some state
      → action_of h before after marks tags moment ≡ Push → (g : History) × GoesBack later (noted before after marks tags moment h) g × (g.current ≡ Some state)
  -- what is undone is redone, and what is redone is undone
  pub undo_redone : (state : State) (moment later : ℕ) (h mid g : History) → h.current ≡ Some state → GoesBack moment h mid → GoesForth later mid g
      → IsBackAt state h g
  pub redo_undone : (state : State) (moment later : ℕ) (h mid g : History) → h.current ≡ Some state → GoesForth moment h mid → GoesBack later mid g
      → IsBackAt state h g
