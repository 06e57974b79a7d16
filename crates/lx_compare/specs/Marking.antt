-- What holds of the marks while two trees are compared. Only this crate's own contracts cite it.
use Rattle.std.specs.Prelude.{◌≡◌, ◌≢◌, ◌||◌, ◌⊎◌, ℕ, true, false, Some}
use Rattle.lx_forest.specs.Forest.{Forest}
use Rattle.lx_forest.specs.Lookups.{has, parent_of}
use Rattle.lx_marks.specs.Marks.{Marked, is_touched, is_noted}
use Rattle.lx_compare.specs.Differing.{IsAffected, IsUnchanged}

-- the parent of each noted node is noted, except perhaps that of one node
abbrev pub IsRaisedBut : Forest → ℕ → Marked → Type 0
IsRaisedBut f k m = (q p : ℕ) → is_noted m q ≡ true → q ≢ k → parent_of f q ≡ Some p → is_noted m p ≡ true

-- the parent of each noted node is noted
abbrev pub IsRaised : Forest → Marked → Type 0
IsRaised f m = (q p : ℕ) → is_noted m q ≡ true → parent_of f q ≡ Some p → is_noted m p ≡ true

-- All above a noted node of the new tree is noted, nothing is noted but nodes of the two trees, and nothing is touched but
-- what is affected.
pub record AreFounded (old new : Forest) (m : Marked) : Type 0 where
  pub raised : IsRaised new m
  pub known : (q : ℕ) → is_noted m q ≡ true → (has q old || has q new) ≡ true
  pub affected : (q : ℕ) → is_touched m q ≡ true → IsAffected old new q

-- what was touched before still is after
abbrev pub Grows : Marked → Marked → Type 0
Grows before after = (q : ℕ) → is_touched before q ≡ true → is_touched after q ≡ true

-- the marks show a node that differs: it is touched, and its parent in either tree
pub record IsTold (old new : Forest) (m : Marked) (q : ℕ) : Type 0 where
  pub itself : is_touched m q ≡ true
  pub before : (p : ℕ) → parent_of old q ≡ Some p → is_touched m p ≡ true
  pub after : (p : ℕ) → parent_of new q ≡ Some p → is_touched m p ≡ true

-- neither tree has the node, or it is the same in both, or the marks show it
abbrev pub IsSettled : Forest → Forest → Marked → ℕ → Type 0
IsSettled old new m q = ((has q old ≡ false) × (has q new ≡ false)) ⊎ (IsUnchanged old new q ⊎ IsTold old new m q)
