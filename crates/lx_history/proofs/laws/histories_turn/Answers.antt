use Rattle.std.proofs.Common.{◌≡◌, ℕ, List, [], ◌∷◌, None, Some, Option, refl, arith, take}
use Rattle.std.proofs.lemmas.Grind.{common_steps}
use Rattle.lx_draft.specs.declared.state.State.{State}
use Rattle.lx_history.specs.declared.kinds.Action.{Action}
use Rattle.lx_history.specs.declared.kinds.Action.TheVariants.{Push, Merge, Discard}
use Rattle.lx_history.specs.declared.kinds.Change.{Change}
use Rattle.lx_history.specs.History.{History, noted, history_recorded, most_entries, entry_before, undone, redone, undone_to, redone_to}
use Rattle.lx_history.specs.Laws.{IsBackAt}
use Rattle.lx_history.proofs.laws.histories_turn.Goals as goal

-- a current state in front of the entries is the first of them, of as many as there may be
front_reached : (later : ℕ) (state : State) (current : Option State) (entries : List State) (h : History) → current ≡ Some state
    → (g : History) × (undone_to later (take most_entries (entry_before current entries)) h ≡ Some g) × (g.current ≡ Some state)
front_reached later state None entries h is = absurd (cc)
front_reached later state (Some other) entries h is = (_, refl, is)

-- what is pushed is undone
push_back : (later moment : ℕ) (state after : State) (last : Change) (action : Action) (h : History) → h.current ≡ Some state → action ≡ Push
    → (g : History) × (undone later (record (history_recorded action after h) { last = last; moment = moment }) ≡ Some g) × (g.current ≡ Some state)
unfolding undone
push_back later moment state after last Push h is_current is_push = front_reached later state h.current h.undo _ is_current
push_back later moment state after last Merge h is_current is_push = absurd (cc)
push_back later moment state after last Discard h is_current is_push = absurd (cc)

undo_redo : (moment later : ℕ) (state : State) (entries : List State) (h mid g : History) → h.undo ≡ entries → h.current ≡ Some state
    → undone_to moment entries h ≡ Some mid → redone_to later mid.redo mid ≡ Some g → IsBackAt state h g
undo_redo moment later state [] h mid g is_undo is_current goes comes = absurd (cc)
undo_redo moment later state (e ∷ es) h mid g is_undo is_current goes comes = grind (arith, common_steps)

redo_undo : (moment later : ℕ) (state : State) (entries : List State) (h mid g : History) → h.redo ≡ entries → h.current ≡ Some state
    → redone_to moment entries h ≡ Some mid → undone_to later mid.undo mid ≡ Some g → IsBackAt state h g
redo_undo moment later state [] h mid g is_redo is_current goes comes = absurd (cc)
redo_undo moment later state (e ∷ es) h mid g is_redo is_current goes comes = grind (arith, common_steps)

pub returns : goal.returns
unfolding undone redone noted
returns c = record {
  push_undone = λ before after state marks tags moment later h is_current is_push. push_back later moment state after _ _ h is_current is_push;
  undo_redone = λ state moment later h mid g is_current goes comes. undo_redo moment later state h.undo h mid g refl is_current goes comes;
  redo_undone = λ state moment later h mid g is_current goes comes. redo_undo moment later state h.redo h mid g refl is_current goes comes;
}
