-- When the marks of a commit cover its two trees.
use Rattle.std.specs.Prelude.{◌≡◌, ℕ, true, Some}
use Rattle.lx_marks.specs.Marks.{Marked, is_touched, is_noted}
use Rattle.lx_forest.specs.Forest.{Forest}
use Rattle.lx_forest.specs.Lookups.{has, kind_of, parent_of}
use Rattle.lx_outline.specs.Events.{IsCreated, IsUpdated}

-- The marks cover two trees. A key of both has the same kind in both. Each node of both with other fields, another parent or
-- another list of children is marked itself, and so is each node of the second alone. Each node above a marked one is marked.
pub record IsCovered (old new : Forest) (m : Marked) : Type 0 where
  pub kinds : (q : ℕ) → has q old ≡ true → has q new ≡ true → kind_of old q ≡ kind_of new q
  pub changed : (q : ℕ) → IsUpdated old new q → is_touched m q ≡ true
  pub made : (q : ℕ) → IsCreated old new q → is_touched m q ≡ true
  pub above : (q p : ℕ) → parent_of new q ≡ Some p → is_noted m q ≡ true → is_noted m p ≡ true
