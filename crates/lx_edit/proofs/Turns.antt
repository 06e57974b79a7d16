-- A step for each of a list in turn, seen from a place in the list.
use Rattle.std.proofs.Common.{◌≡◌, ◌∙◌, ◌+◌, ◌≤◌, ◌<◌, ℕ, zero, suc, List, [], ◌∷◌, length, drop, Some, Result, Ok, Err, refl, ap, sym, arith}
use Rattle.std.specs.List.{slice_get, slice_index_or}
use Rattle.std.proofs.lemmas.Option.{slice_get_read}
use Rattle.lx_node.specs.declared.cause.Fault.{Fault}
use Rattle.lx_node.specs.declared.cause.Fault.TheVariants as fault
use Rattle.lx_node.specs.declared.cause.Cause.{Cause}
use Rattle.lx_draft.specs.Working.{Working}
use Rattle.lx_draft.specs.Faults.{after, TellsStep}
use Rattle.lx_edit.specs.InTurn.{in_turn}

one_more : (i : ℕ) → i + 1 ≡ suc i
one_more i = omega arith

-- what is left of a list at an item of it
pub left_at : {A : Type 0} (all : List A) (i : ℕ) (a : A) → slice_get all i ≡ Some a → drop i all ≡ a ∷ drop (suc i) all
left_at [] zero a e = cc
left_at [] (suc i) a e = cc
left_at (x ∷ xs) zero a e = grind (arith, e)
left_at (x ∷ xs) (suc i) a e = left_at xs i a e

-- the step for an item was taken: it goes on
pub turn_on : {A : Type 0} (step : A → Working → Result Working Cause) (all : List A) (i : ℕ) (a : A) (w v : Working) → slice_get all i ≡ Some a
    → step a w ≡ Ok v
    → in_turn step (drop (i + 1) all) v ≡ in_turn step (drop i all) w
unfolding in_turn
turn_on step all i a w v at taken =
    ap (λ n. in_turn step (drop n all) v) (one_more i)
    ∙ sym (ap (λ rest. in_turn step rest w) (left_at all i a at) ∙ ap (λ r. after r (in_turn step (drop (suc i) all))) taken)

-- it was refused
pub turn_refused : {A : Type 0} (step : A → Working → Result Working Cause) (all : List A) (i : ℕ) (a : A) (w : Working) (cause : Cause)
    → slice_get all i ≡ Some a → step a w ≡ Err cause
    → in_turn step (drop i all) w ≡ Err cause
unfolding in_turn
turn_refused step all i a w cause at refused =
    ap (λ rest. in_turn step rest w) (left_at all i a at) ∙ ap (λ r. after r (in_turn step (drop (suc i) all))) refused

-- none is left
pub turns_done : {A : Type 0} (step : A → Working → Result Working Cause) (all : List A) (i : ℕ) (w : Working) → length all ≤ i
    → in_turn step (drop i all) w ≡ Ok w
unfolding in_turn
turns_done step [] zero w h = refl
turns_done step [] (suc i) w h = refl
turns_done step (x ∷ xs) zero w h = absurd (omega (arith, h))
turns_done step (x ∷ xs) (suc i) w h = turns_done step xs i w (omega (arith, h))

-- ... and so is all of it
pub turn_told : {A : Type 0} (step : A → Working → Result Working Cause) (all : List A) (i : ℕ) (a : A) (w : Working) (fault : Fault)
    (whole : Result Working Cause) → slice_get all i ≡ Some a
    → in_turn step (drop i all) w ≡ whole → TellsStep fault (step a w) → TellsStep fault whole
turn_told step all i a w (fault.Cause cause) whole at same told = sym same ∙ turn_refused step all i a w cause at told
turn_told step all i a w fault.Memory whole at same told = tt

-- the item at an index within the list
pub item_at : {A : Type 0} (all : List A) (i : ℕ) (a : A) → i < length all → a ≡ slice_index_or all i a → slice_get all i ≡ Some a
item_at all i a within is = slice_get_read all (length all) i a refl within is
