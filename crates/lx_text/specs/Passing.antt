-- How far a text was gone through up to an offset. No definition of other crates needs this.
use Rattle.std.specs.Prelude.{ℕ, ◌+◌, ◌≡◌, ◌++◌, List, length, encode_utf8_all}
use Rattle.std.specs.Str.{chars, IsUtf8}
use Rattle.lx_text.specs.Texts.{text_length, front_of, rest_of, within}

-- these characters of a text were passed up to an offset, the bytes after them are left, and so many code units of the
-- offset
pub record IsPassed (text : List ℕ) (offset left : ℕ) (rest : List ℕ) : Type 0 where
  pub front : List ℕ
  pub utf8 : IsUtf8 rest
  pub bytes : encode_utf8_all front ++ rest ≡ text
  pub front_is : front_of offset (chars text) ≡ front ++ front_of left (chars rest)
  pub rest_is : rest_of offset (chars text) ≡ rest_of left (chars rest)
  pub length_is : text_length front + left ≡ offset

-- the last place at the offset or before it: after these characters, before so many bytes, and the offset is so much
-- further
pub record IsStopped (text : List ℕ) (offset left rest : ℕ) : Type 0 where
  pub front : List ℕ
  pub back : List ℕ
  pub utf8 : IsUtf8 back
  pub bytes : encode_utf8_all front ++ back ≡ text
  pub rest_is : length back ≡ rest
  pub front_of_is : front ≡ front_of offset (chars text)
  pub rest_of_is : chars back ≡ rest_of offset (chars text)
  pub within_is : within (chars text) offset + left ≡ offset
