-- At which keys two trees may differ: at these alone, or, where none are told, at any.
use Rattle.std.specs.Prelude.{◌≡◌, ◌⊎◌, ℕ, true, false, List, Option, None, Some}
use Rattle.lx_trees.specs.Siblings.{is_among}
use Rattle.lx_forest.specs.Forest.{Forest}
use Rattle.lx_forest.specs.Lookups.{has, is_within}
use Rattle.lx_compare.specs.Differing.{IsUnchanged}

-- neither tree has the node, or it is the same in both
abbrev pub IsAsBefore : Forest → Forest → ℕ → Type 0
IsAsBefore old new q = ((has q old ≡ false) × (has q new ≡ false)) ⊎ IsUnchanged old new q

-- it is told that a key is none of them
abbrev pub IsOutside : Option (List ℕ) → ℕ → Type 0
IsOutside None q = ⊥
IsOutside (Some keys) q = is_among q keys ≡ false

-- two trees differ at no key beside these
abbrev pub DifferAt : Option (List ℕ) → Forest → Forest → Type 0
DifferAt places old new = (q : ℕ) → IsOutside places q → IsAsBefore old new q

-- what is outside the new places is outside the old ones and the others
abbrev pub IsJoined : Option (List ℕ) → Option (List ℕ) → Option (List ℕ) → Type 0
IsJoined old others new = (q : ℕ) → IsOutside new q → IsOutside old q × IsOutside others q

-- ---- while keys are listed. Only this crate's own contracts cite it.

-- what was among keys still is
abbrev pub AreKept : List ℕ → List ℕ → Type 0
AreKept before after = (q : ℕ) → is_among q before ≡ true → is_among q after ≡ true

-- a key is listed, and all that was below it where its node is gone
pub record IsListed (old new : Forest) (keys : List ℕ) (k : ℕ) : Type 0 where
  pub itself : is_among k keys ≡ true
  pub below : has k new ≡ false → (q : ℕ) → is_within old k q ≡ true → is_among q keys ≡ true
