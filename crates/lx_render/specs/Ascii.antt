-- Texts whose characters are their bytes.
use Rattle.std.specs.Prelude.{ℕ, nat_lt, ◌&&◌, Bool, true, List, [], ◌∷◌}

-- whether each byte is below 128
abbrev pub is_ascii : List ℕ → Bool
is_ascii [] = true
is_ascii (byte ∷ bytes) = nat_lt byte 128 && is_ascii bytes
