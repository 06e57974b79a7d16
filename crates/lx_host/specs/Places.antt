-- Where an attribute is written.
use Rattle.std.specs.Prelude.{◌≡◌, ℕ, ◌+◌, ◌≤◌, List, ◌++◌, length, take, drop, Option, Result, Ok, Err}
use Rattle.lx_host.specs.Words.{before_others, with_attribute}
use Rattle.lx_host.specs.declared.tag.Name.{Name}

-- writing the attribute of that name leaves those in front of one place, and those from another on
pub record IsWrittenAt (name : Name) (attributes : List (Name × List ℕ)) (here there : ℕ) : Type 0 where
  pub within : there ≤ length attributes
  pub is : (value : Option (List ℕ)) → with_attribute name value attributes ≡ take here attributes ++ before_others name value (drop there attributes)

-- the place where the attribute is, or else where it belongs
abbrev pub IsPlaceOf : Name → List (Name × List ℕ) → Result ℕ ℕ → Type 0
IsPlaceOf name attributes (Ok at) = IsWrittenAt name attributes at (at + 1)
IsPlaceOf name attributes (Err at) = IsWrittenAt name attributes at at
