-- The UTF-16 code units of texts, which lengths and offsets count.
use Rattle.std.specs.Prelude.{ℕ, ◌+◌, nat_lt, if◌then◌else◌, List, [], ◌∷◌}

-- how many code units a scalar value has: one, and above U+FFFF two, which are a surrogate pair
unfoldable pub units_of : ℕ → ℕ
units_of c = if nat_lt c 65536 then 1 else 2

-- how many code units a text has
unfoldable pub units : List ℕ → ℕ
units [] = 0
units (c ∷ text) = units_of c + units text
