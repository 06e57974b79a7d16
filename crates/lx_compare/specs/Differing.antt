-- What differs between two trees.
use Rattle.std.specs.Prelude.{◌≡◌, ◌||◌, ℕ, true, Some}
use Rattle.lx_node.specs.declared.node.Node.{Node}
use Rattle.lx_forest.specs.Forest.{Forest}
use Rattle.lx_forest.specs.Lookups.{has, kind_of, fields_of, parent_of, previous_of, next_of}
use Rattle.lx_marks.specs.Marks.{Marked, is_touched, is_noted}

-- a key that both trees have is one of the same kind in both
abbrev pub KeepsKinds : Forest → Forest → Type 0
KeepsKinds old new = (key : ℕ) → has key old ≡ true → has key new ≡ true → kind_of old key ≡ kind_of new key

-- Both trees have the node, with the same fields, the same parent and the same neighbours.
pub record IsUnchanged (old new : Forest) (key : ℕ) : Type 0 where
  pub was : has key old ≡ true
  pub stays : has key new ≡ true
  pub fields : fields_of old key ≡ fields_of new key
  pub parent : parent_of old key ≡ parent_of new key
  pub previous : previous_of old key ≡ previous_of new key
  pub next : next_of old key ≡ next_of new key

-- two nodes that were read have the same fields, the same parent and the same neighbours
pub record IsSameNode (a b : Node) : Type 0 where
  pub fields : a.fields ≡ b.fields
  pub parent : a.parent ≡ b.parent
  pub previous : a.prev ≡ b.prev
  pub next : a.next ≡ b.next

-- A node of either tree differs where one of the two alone has it, or where its fields, its parent or a neighbour are others.
pub record Differs (old new : Forest) (key : ℕ) : Type 0 where
  pub there : (has key old || has key new) ≡ true
  pub other : IsUnchanged old new key → ⊥

-- A node is affected where it differs, and where it is the parent, in one of the trees, of one that differs.
pub data IsAffected (old new : Forest) : ℕ → Type 0 where
  itself : (key : ℕ) → Differs old new key → IsAffected old new key
  parent_before : (key parent : ℕ) → Differs old new key → parent_of old key ≡ Some parent → IsAffected old new parent
  parent_after : (key parent : ℕ) → Differs old new key → parent_of new key ≡ Some parent → IsAffected old new parent

-- nothing is marked but nodes of the two trees
pub record AreKnown (old new : Forest) (marks : Marked) : Type 0 where
  pub touched : (key : ℕ) → is_touched marks key ≡ true → (has key old || has key new) ≡ true
  pub noted : (key : ℕ) → is_noted marks key ≡ true → (has key old || has key new) ≡ true
