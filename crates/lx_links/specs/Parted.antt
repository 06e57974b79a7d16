-- Two keys of a forest, and the two siblings above them.
use Rattle.std.specs.Prelude.{ℕ, ◌≡◌, ◌≢◌, ◌==◌, Bool, true, false, length, Option, None, Some}
use Rattle.lx_forest.specs.Forest.{Forest}
use Rattle.lx_forest.specs.Lookups.{parent_of, ancestors, is_within, is_attached}
use Rattle.lx_links.specs.Stands.{Sound}

-- both are one name, or neither is there
abbrev pub same_named : Option ℕ → Option ℕ → Bool
same_named None None = true
same_named (Some x) (Some y) = x == y
same_named _ _ = false

-- two keys in the root's tree, with as many keys above the one as above the other
pub record IsLevel (f : Forest) (x y : ℕ) : Type 0 where
  pub sound : Sound f
  pub other : x ≢ y
  pub first : is_attached f x ≡ true
  pub second : is_attached f y ≡ true
  pub level : length (ancestors f x) ≡ length (ancestors f y)

-- two siblings, the one with a in its tree and the other with b
pub record IsParted (f : Forest) (a b x y : ℕ) : Type 0 where
  pub parent : ℕ
  pub first_below : parent_of f x ≡ Some parent
  pub second_below : parent_of f y ≡ Some parent
  pub other : x ≢ y
  pub attached : is_attached f parent ≡ true
  pub first : is_within f x a ≡ true
  pub second : is_within f y b ≡ true
