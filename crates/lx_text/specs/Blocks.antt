-- What the bytes of a text say of its code units. No definition of other crates needs this.
use Rattle.std.specs.Prelude.{ℕ, nat_lt, if◌then◌else◌, List}
use Rattle.std.specs.List.{sum_by}

-- how many code units a byte of UTF-8 stands for: none where it continues a character, two where it is the first of
-- four bytes, and one where it begins any other character
abbrev pub byte_units : ℕ → ℕ
byte_units byte = if nat_lt byte 128 then 1 else if nat_lt byte 192 then 0 else if nat_lt byte 240 then 1 else 2

-- how many code units all bytes stand for
abbrev pub bytes_units : List ℕ → ℕ
bytes_units bytes = sum_by byte_units bytes
