-- Numbers, texts and what may be missing, as they are written.
use Rattle.std.specs.Prelude.{ℕ, List, encode_utf8_all, Option, None, Some}
use Rattle.serde_json.specs.Data.{Data, null, number, unsigned, string}

-- a number as JSON
abbrev pub natural : ℕ → Data
natural n = number (unsigned n)

-- a text as JSON, its characters in UTF-8
abbrev pub text_data : List ℕ → Data
text_data text = string (encode_utf8_all text)

-- a value as JSON, or null where there is none
abbrev pub or_null : {A : Type 0} → (A → Data) → Option A → Data
or_null data_of None = null
or_null data_of (Some a) = data_of a
