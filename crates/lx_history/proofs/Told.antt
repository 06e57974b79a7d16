-- Entries of which the oldest go.
use Rattle.std.proofs.Common.{◌≡◌, ℕ, zero, suc, List, [], ◌∷◌, take, Option, None, Some, IfSome, refl, ap}
use Rattle.lx_forest.specs.Forest.{Forest}
use Rattle.lx_history.specs.declared.entry.Entry.{Entry}
use Rattle.lx_draft.specs.declared.state.State.{State}
use Rattle.lx_history.specs.Told.{states, AreTold, IsAway, with_told}

pub states_take : (n : ℕ) (entries : List Entry) → states (take n entries) ≡ take n (states entries)
states_take zero es = refl
states_take (suc n) [] = refl
states_take (suc n) (e ∷ es) = ap (λ rest. e.state ∷ rest) (states_take n es)

pub told_take : (n : ℕ) (beside : Forest) (entries : List Entry) → AreTold beside entries → AreTold beside (take n entries)
told_take zero beside es told = tt
told_take (suc n) beside [] told = tt
told_take (suc n) beside (e ∷ es) told = (told.0, told_take n e.state.links es told.1)

-- what is pushed tells of the tree after it
pub told_pushed : (current : Option State) (places : Option (List ℕ)) (undo redo : List Entry) (after : Forest) → IsAway current places after
    → IfSome current (λ c. AreTold c.links undo × AreTold c.links redo) → (current ≡ None → (states undo ≡ []) × (states redo ≡ []))
    → AreTold after (with_told current places undo)
told_pushed None places [] redo after away told none = tt
told_pushed None places (e ∷ es) redo after away told none = let nothing : e.state ∷ states es ≡ [] = (none refl).0 in absurd (cc)
told_pushed (Some c) places undo redo after away told none = (away, told.0)
