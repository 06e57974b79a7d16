-- A pass over elements, seen from one element after another.
use Rattle.std.proofs.Common.{◌≡◌, ◌∙◌, ℕ, Bool, true, false, cond, eqb, ◌&&◌, not, List, [], ◌∷◌, ◌++◌, Result, Ok, Err, refl, sym, ap}
use Rattle.std.specs.Prelude.{is_some}
use Rattle.lx_node.specs.declared.cause.Cause.{Cause}
use Rattle.lx_marks.specs.Marks.{flag_in}
use Rattle.lx_draft.specs.Working.{Working}
use Rattle.lx_draft.specs.Faults.{after}
use Rattle.lx_edit.specs.InTurn.{in_turn}
use Rattle.lx_rules.specs.Answers.{Answers}
use Rattle.lx_settle.specs.Acting.{rules_step}
use Rattle.lx_settle.specs.Passes.{flagged_first, element_step, root_step, element_pass}

-- ---- one step after another

after_same : (r : Result Working Cause) (f g : Working → Result Working Cause) → ((u : Working) → f u ≡ g u) → after r f ≡ after r g
after_same (Ok u) f g same = same u
after_same (Err cause) f g same = refl

after_twice : (r : Result Working Cause) (f g : Working → Result Working Cause) → after r (λ u. after (f u) g) ≡ after (after r f) g
after_twice (Ok u) f g = refl
after_twice (Err cause) f g = refl

after_nothing : (r : Result Working Cause) → after r (λ u. Ok u) ≡ r
after_nothing (Ok u) = refl
after_nothing (Err cause) = refl

in_both : (step : ℕ → Working → Result Working Cause) (xs ys : List ℕ) (w : Working) → in_turn step (xs ++ ys) w ≡ after (in_turn step xs w) (in_turn step ys)
unfolding in_turn
in_both step [] ys w = refl
in_both step (x ∷ xs) ys w =
    after_same (step x w) (in_turn step (xs ++ ys)) (λ u. after (in_turn step xs u) (in_turn step ys)) (λ u. in_both step xs ys u)
    ∙ after_twice (step x w) (in_turn step xs) (in_turn step ys)

-- ---- elements with their flags

flagged_by : (rules : List Answers) (flagged : Bool) (k : ℕ) (es : List (ℕ × Bool)) (w : Working)
    → ((u : Working) → in_turn (element_step rules) es u ≡ in_turn (rules_step rules) (flagged_first es) u)
    → after (cond flagged (rules_step rules k w) (Ok w)) (in_turn (element_step rules) es)
    ≡ in_turn (rules_step rules) (cond flagged (k ∷ flagged_first es) (flagged_first es)) w
unfolding in_turn
flagged_by rules true k es w later = after_same (rules_step rules k w) (in_turn (element_step rules) es) (in_turn (rules_step rules) (flagged_first es)) later
flagged_by rules false k es w later = later w

flagged_in_turn : (rules : List Answers) (es : List (ℕ × Bool)) (w : Working)
    → in_turn (element_step rules) es w ≡ in_turn (rules_step rules) (flagged_first es) w
unfolding in_turn element_step
flagged_in_turn rules [] w = refl
flagged_in_turn rules (e ∷ es) w = flagged_by rules (e.1 && not (eqb e.0 0)) e.0 es w (λ u. flagged_in_turn rules es u)

root_by : (rules : List Answers) (listed : Bool) (w : Working)
    → in_turn (rules_step rules) (cond listed (0 ∷ []) []) w ≡ cond listed (rules_step rules 0 w) (Ok w)
unfolding in_turn
root_by rules true w = after_nothing (rules_step rules 0 w)
root_by rules false w = refl

root_in_turn : (rules : List Answers) (es : List (ℕ × Bool)) (w : Working)
    → in_turn (rules_step rules) (cond (is_some (flag_in es 0)) (0 ∷ []) []) w ≡ root_step rules es w
unfolding root_step
root_in_turn rules es w = root_by rules (is_some (flag_in es 0)) w

-- each element in its order, and then the root
pub element_turns : (rules : List Answers) (es : List (ℕ × Bool)) (w : Working)
    → element_pass rules es w ≡ after (in_turn (element_step rules) es w) (root_step rules es)
unfolding element_pass
element_turns rules es w =
    in_both (rules_step rules) (flagged_first es) (cond (is_some (flag_in es 0)) (0 ∷ []) []) w
    ∙ ap (λ r. after r (in_turn (rules_step rules) (cond (is_some (flag_in es 0)) (0 ∷ []) []))) (sym (flagged_in_turn rules es w))
    ∙ after_same (in_turn (element_step rules) es w) (in_turn (rules_step rules) (cond (is_some (flag_in es 0)) (0 ∷ []) [])) (root_step rules es)
    (root_in_turn rules es)
