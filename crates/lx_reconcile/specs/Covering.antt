-- When marks cover two trees, where the mark of a parent tells alone that its children come, go or move.
use Rattle.std.specs.Prelude.{◌≡◌, ℕ, true, false, Some}
use Rattle.lx_forest.specs.Forest.{Forest}
use Rattle.lx_forest.specs.Lookups.{has, kind_of, fields_of, parent_of, children_of}
use Rattle.lx_forest.specs.Covered.{Marking}

-- The node has the same fields, the same parent and the same children in both trees.
pub record IsUnchanged (old new : Forest) (key : ℕ) : Type 0 where
  pub fields : fields_of old key ≡ fields_of new key
  pub parent : parent_of old key ≡ parent_of new key
  pub children : children_of old key ≡ children_of new key

-- The marks cover two trees by parents. A node of both keeps its kind, and is unchanged unless it is marked itself. Each
-- node of the new tree alone is marked itself, and each node above a marked one is marked. Neither a child whose
-- neighbours alone change nor one that is gone needs a mark.
pub record AreCoveredByParents (old new : Forest) (marks : Marking) : Type 0 where
  pub kinds : (key : ℕ) → has key old ≡ true → has key new ≡ true → kind_of old key ≡ kind_of new key
  pub alike : (key : ℕ) → has key old ≡ true → has key new ≡ true → marks.touched key ≡ false → IsUnchanged old new key
  pub made : (key : ℕ) → has key old ≡ false → has key new ≡ true → marks.touched key ≡ true
  pub above : (key parent : ℕ) → parent_of new key ≡ Some parent → marks.noted key ≡ true → marks.noted parent ≡ true
