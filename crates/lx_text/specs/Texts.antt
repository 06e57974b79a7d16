-- Places in texts, and the pieces between them. A text is the list of its Unicode scalar values, and an offset counts
-- UTF-16 code units. What offsets count is known here and nowhere else.
use Rattle.std.specs.Prelude.{ℕ, ◌-◌, ◌≡◌, ◌++◌, ◌==◌, Bool, nat_le, if◌then◌else◌, List, [], ◌∷◌, Option, None, Some}
use Rattle.std.specs.Option.{option_or}
use Rattle.lx_node.specs.Units.{units_of, units}
use Rattle.lx_node.specs.Limits.{last_u32}
use Rattle.lx_node.specs.declared.cause.Cause.{Cause}
use Rattle.lx_node.specs.declared.cause.Cause.TheVariants.{BadPlace}
use Rattle.lx_node.specs.declared.cause.Fault.{Fault}
use Rattle.lx_node.specs.declared.cause.Fault.TheVariants as fault

-- how long a text is, which is the offset of its end
unfoldable pub text_length : List ℕ → ℕ
text_length text = units text

-- the text up to an offset: up to the start of a pair that the offset is inside, and all of it past the end
unfoldable pub front_of : ℕ → List ℕ → List ℕ
front_of offset [] = []
front_of offset (c ∷ text) = if nat_le (units_of c) offset then c ∷ front_of (offset - units_of c) text else []

-- the text from an offset on: from the start of a pair that the offset is inside, and nothing past the end
unfoldable pub rest_of : ℕ → List ℕ → List ℕ
rest_of offset [] = []
rest_of offset (c ∷ text) = if nat_le (units_of c) offset then rest_of (offset - units_of c) text else c ∷ text

-- the last place at an offset or before it
unfoldable pub within : List ℕ → ℕ → ℕ
within text offset = text_length (front_of offset text)

-- whether the offset is one of a place in the text, of which the end is one: it isn't past the end, nor inside a pair
unfoldable pub is_offset : ℕ → List ℕ → Bool
is_offset offset text = within text offset == offset

-- the last place that an offset can name: the end, up to the last number of a u32
unfoldable pub length_told : List ℕ → ℕ
length_told text = within text last_u32

-- the piece of the text between two offsets
unfoldable pub slice_of : ℕ → ℕ → List ℕ → List ℕ
slice_of from to text = front_of (to - from) (rest_of from text)

-- the text with another piece in the place of the one between two offsets
unfoldable pub spliced_text : ℕ → ℕ → List ℕ → List ℕ → List ℕ
spliced_text from to new text = front_of from text ++ new ++ rest_of to text

-- `BadPlace`, where the offset is none of the text
abbrev pub no_offset : List ℕ → ℕ → Option Cause
no_offset text offset = if is_offset offset text then None else Some (BadPlace offset)

-- the first offset is after the second
abbrev pub turned_round : ℕ → ℕ → Option Cause
turned_round from to = if nat_le from to then None else Some (BadPlace from)

-- why there is no piece between two offsets: the first of these causes
abbrev pub slice_fault : List ℕ → ℕ → ℕ → Option Cause
slice_fault text from to = option_or (no_offset text from) (option_or (no_offset text to) (turned_round from to))

-- what an error says, where this is the first cause: the call was refused for it, or there was none and memory ran out
abbrev pub TellsFirst : Option Cause → Fault → Type 0
TellsFirst first (fault.Cause cause) = first ≡ Some cause
TellsFirst first fault.Memory = first ≡ None
