-- The lines of the input.
use Rattle.std.specs.Prelude.{ℕ, ◌==◌, ◌++◌, if◌then◌else◌, List, [], ◌∷◌}

-- lines of which the first begins with one byte more; with no line the byte belongs to what no line end has ended yet
abbrev pub longer : ℕ → List (List ℕ) → List (List ℕ)
longer byte [] = []
longer byte (line ∷ lines) = (byte ∷ line) ∷ lines

-- the lines that a line end, byte 10, has ended, without it
unfoldable pub lines_ended : List ℕ → List (List ℕ)
lines_ended [] = []
lines_ended (byte ∷ bytes) = if byte == 10 then [] ∷ lines_ended bytes else longer byte (lines_ended bytes)

-- the byte in front of what isn't ended, if no line is ended after it
abbrev pub with_front : List (List ℕ) → ℕ → List ℕ → List ℕ
with_front [] byte rest = byte ∷ rest
with_front (line ∷ lines) byte rest = rest

-- what is after the last line end
unfoldable pub unended : List ℕ → List ℕ
unended [] = []
unended (byte ∷ bytes) = if byte == 10 then unended bytes else with_front (lines_ended bytes) byte (unended bytes)

-- a last line, if it isn't empty
abbrev pub last_line : List ℕ → List (List ℕ)
last_line [] = []
last_line (byte ∷ bytes) = (byte ∷ bytes) ∷ []

-- all lines of the input
abbrev pub lines_of : List ℕ → List (List ℕ)
lines_of bytes = lines_ended bytes ++ last_line (unended bytes)
