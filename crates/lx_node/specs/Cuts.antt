-- Where a text is cut in three, by numbers of bytes.
use Rattle.std.specs.Prelude.{ℕ, ◌≡◌, ◌++◌, List, length, encode_utf8_all}

-- the text is these three, one after another, and the first two have so many bytes
pub record Cuts (front piece : ℕ) (before within behind text : List ℕ) : Type 0 where
  pub whole : text ≡ before ++ within ++ behind
  pub front_is : length (encode_utf8_all before) ≡ front
  pub piece_is : length (encode_utf8_all within) ≡ piece

-- the text can be cut so into three
pub record IsCut (front piece : ℕ) (text : List ℕ) : Type 0 where
  pub before : List ℕ
  pub within : List ℕ
  pub behind : List ℕ
  pub cuts : Cuts front piece before within behind text
