-- Marks above which all is marked.
use Rattle.std.specs.Prelude.{ℕ, ◌≡◌, ◌≢◌, Bool, true, is_some, Some}
use Rattle.lx_marks.specs.Marks.{Marked, flag_in, is_noted}
use Rattle.lx_forest.specs.Forest.{Forest}
use Rattle.lx_forest.specs.Lookups.{parent_of}

-- whether the node is among the marked elements
abbrev pub is_element_listed : Marked → ℕ → Bool
is_element_listed m q = is_some (flag_in m.elements q)

-- the parent of each marked node is among the marked elements, but maybe not that of k
abbrev pub IsRaisedBut : Forest → ℕ → Marked → Type 0
IsRaisedBut f k m = (q p : ℕ) → is_noted m q ≡ true → q ≢ k → parent_of f q ≡ Some p → is_element_listed m p ≡ true

-- the parent of each marked node is among the marked elements
abbrev pub IsRaised : Forest → Marked → Type 0
IsRaised f m = (q p : ℕ) → is_noted m q ≡ true → parent_of f q ≡ Some p → is_element_listed m p ≡ true
