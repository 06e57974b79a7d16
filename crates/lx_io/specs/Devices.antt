-- What a read does to the bytes that are left, what a write does to the bytes that were taken, and when either fails.
use Rattle.std.specs.Prelude.{◌≡◌, ℕ, ◌+◌, ◌-◌, ◌^◌, ◌<◌, ◌≤◌, ◌⊎◌, List, [], ◌++◌, Option, None, Some, Result, Ok, Err}

-- a read took these bytes from the front of what was left; where a source doesn't show its bytes nothing is said
abbrev pub Consumes : Option (List ℕ) → Option (List ℕ) → List ℕ → Type 0
Consumes None new bytes = Unit {0}
Consumes (Some old) None bytes = ⊥
Consumes (Some old) (Some new) bytes = old ≡ bytes ++ new

-- nothing is left, where that is known
abbrev pub IsAtEnd : Option (List ℕ) → Type 0
IsAtEnd None = Unit {0}
IsAtEnd (Some left) = left ≡ []

-- a write added these bytes to what was taken; where a sink doesn't show its bytes nothing is said
abbrev pub Appends : Option (List ℕ) → Option (List ℕ) → List ℕ → Type 0
Appends None new bytes = Unit {0}
Appends (Some old) None bytes = ⊥
Appends (Some old) (Some new) bytes = new ≡ old ++ bytes

-- the last value of a count of faults
abbrev pub last_count : ℕ
last_count = 2 ^ 64 - 1

-- the count went up, or it is at its last value
abbrev pub HasRisen : ℕ → ℕ → Type 0
HasRisen old new = (old < new) ⊎ (last_count ≤ old)

-- the count rises in a call that fails, and in no other
abbrev pub HasCause : {T E : Type 0} → ℕ → ℕ → Result T E → Type 0
HasCause old new (Ok value) = new ≡ old
HasCause old new (Err failed) = (old ≤ new) × HasRisen old new

-- there were at most so many calls more, where calls are counted
abbrev pub IsCounted : Option ℕ → Option ℕ → ℕ → Type 0
IsCounted None new calls = Unit {0}
IsCounted (Some old) None calls = ⊥
IsCounted (Some old) (Some new) calls = new ≤ old + calls
