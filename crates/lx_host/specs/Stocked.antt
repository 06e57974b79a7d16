-- Vectors without items that have room for each attribute that there is.
use Rattle.std.specs.Prelude.{ℕ, ◌≡◌, ◌≤◌, List, [], ◌∷◌}
use Rattle.std.specs.Global.{Vec}
use Rattle.std.specs.Vec.{vec_capacity}

-- a host has an attribute of each name at most, and there are so many names
abbrev pub most_attributes : ℕ
most_attributes = 19

-- empty vectors, each with room for so many attributes
abbrev pub AreRoomy : {X : Type 0} → List (Vec X) → Type 0
AreRoomy [] = Unit {0}
AreRoomy (v ∷ vs) = (v.items ≡ []) × (most_attributes ≤ vec_capacity v) × AreRoomy vs
