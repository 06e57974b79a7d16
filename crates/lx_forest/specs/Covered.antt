-- When marks cover what two forests differ in.
use Rattle.std.specs.Prelude.{◌≡◌, ℕ, Bool, true, false, Some}
use Rattle.lx_forest.specs.Forest.{Forest}
use Rattle.lx_forest.specs.Lookups.{has, kind_of, fields_of, parent_of, previous_of, next_of, children_of}

-- Which nodes are touched, that is marked themselves, and which are noted, that is marked at all: themselves, or since
-- something below them is.
pub record Marking : Type 0 where
  pub touched : ℕ → Bool
  pub noted : ℕ → Bool

-- The node is the same in both trees, beside what is below its children: it has its neighbours too.
pub record IsAlike (old new : Forest) (key : ℕ) : Type 0 where
  pub fields : fields_of old key ≡ fields_of new key
  pub parent : parent_of old key ≡ parent_of new key
  pub previous : previous_of old key ≡ previous_of new key
  pub next : next_of old key ≡ next_of new key
  pub children : children_of old key ≡ children_of new key

-- The marks cover two trees. A node of both keeps its kind, and is the same in both unless it is marked itself. Each node of
-- the new tree alone is marked itself, and so is each child of a node of both that the new tree hasn't any more. Each node
-- above a marked one is marked.
pub record AreCovered (old new : Forest) (marks : Marking) : Type 0 where
  pub kinds : (key : ℕ) → has key old ≡ true → has key new ≡ true → kind_of old key ≡ kind_of new key
  pub alike : (key : ℕ) → has key old ≡ true → has key new ≡ true → marks.touched key ≡ false → IsAlike old new key
  pub made : (key : ℕ) → has key old ≡ false → has key new ≡ true → marks.touched key ≡ true
  pub gone : (key parent : ℕ) → parent_of old key ≡ Some parent → has parent new ≡ true → has key new ≡ false → marks.touched key ≡ true
  pub noted : (key : ℕ) → marks.touched key ≡ true → marks.noted key ≡ true
  pub above : (key parent : ℕ) → parent_of new key ≡ Some parent → marks.noted key ≡ true → marks.noted parent ≡ true
