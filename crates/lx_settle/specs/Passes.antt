-- Passes over what is marked.
use Rattle.std.specs.Prelude.{ℕ, ◌==◌, ◌&&◌, ◌++◌, not, Bool, is_some, if◌then◌else◌, List, [], ◌∷◌, Result, Ok}
use Rattle.lx_node.specs.declared.cause.Cause.{Cause}
use Rattle.lx_marks.specs.Marks.{flag_in}
use Rattle.lx_forest.specs.Lookups.{is_attached}
use Rattle.lx_draft.specs.Working.{Working}
use Rattle.lx_draft.specs.Faults.{after}
use Rattle.lx_edit.specs.InTurn.{in_turn}
use Rattle.lx_edit.specs.Texts.{join_around_step}
use Rattle.lx_rules.specs.Answers.{Answers}
use Rattle.lx_settle.specs.Acting.{rules_step}

-- a leaf in its turn, if it is in the root's tree: it is joined with what is around it, and then the rules
unfoldable pub leaf_step : List Answers → ℕ → Working → Result Working Cause
leaf_step rules k w = if is_attached w.forest k then after (join_around_step k w) (rules_step rules k) else Ok w

-- leaves in their turns, one after another
unfoldable pub leaf_pass : List Answers → List ℕ → Working → Result Working Cause
leaf_pass rules leaves w = in_turn (leaf_step rules) leaves w

-- the elements whose flag is true, other than the root
abbrev pub flagged_first : List (ℕ × Bool) → List ℕ
flagged_first [] = []
flagged_first (e ∷ es) = if e.1 && not (e.0 == 0) then e.0 ∷ flagged_first es else flagged_first es

-- the elements in the order of their turns: those whose flag is true, and the root last whatever its flag
abbrev pub turns_of : List (ℕ × Bool) → List ℕ
turns_of es = flagged_first es ++ (if is_some (flag_in es 0) then 0 ∷ [] else [])

-- one of the elements in its turn, where its flag is true and it isn't the root
unfoldable pub element_step : List Answers → ℕ × Bool → Working → Result Working Cause
element_step rules e w = if e.1 && not (e.0 == 0) then rules_step rules e.0 w else Ok w

-- the root in its turn, after all the elements, if it is marked at all
unfoldable pub root_step : List Answers → List (ℕ × Bool) → Working → Result Working Cause
root_step rules es w = if is_some (flag_in es 0) then rules_step rules 0 w else Ok w

-- the rules on elements, in the order of their turns
unfoldable pub element_pass : List Answers → List (ℕ × Bool) → Working → Result Working Cause
element_pass rules elements w = in_turn (rules_step rules) (turns_of elements) w
