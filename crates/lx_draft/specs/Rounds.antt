-- What is handled next of what is marked.
use Rattle.std.specs.Prelude.{ℕ, Bool, List, [], ◌∷◌}
use Rattle.lx_marks.specs.Marks.{Marked}
use Rattle.lx_draft.specs.declared.rounds.Round.{Round}
use Rattle.lx_draft.specs.declared.rounds.Round.TheVariants.{Leaves, Elements, Rest}

-- the leaves if there are any, or else the elements if there are any, or else what comes last
abbrev pub round_by : List ℕ → List (ℕ × Bool) → Round
round_by (k ∷ ks) elements = Leaves (k ∷ ks)
round_by [] (e ∷ es) = Elements (e ∷ es)
round_by [] [] = Rest

-- what is handled next of what is marked
abbrev pub round_of : Marked → Round
round_of m = round_by m.leaves m.elements

-- the elements that are left: all where leaves are handled, and else none
abbrev pub elements_left : List ℕ → List (ℕ × Bool) → List (ℕ × Bool)
elements_left [] elements = []
elements_left (k ∷ ks) elements = elements

-- the marks that are left once this round is taken
abbrev pub rounded : Marked → Marked
rounded m = record { leaves = []; elements = elements_left m.leaves m.elements }
