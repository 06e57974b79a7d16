-- Clusters and words of a text, as far as a caret goes by them.
use Rattle.std.specs.Prelude.{ℕ, ◌+◌, ◌-◌, true, if◌then◌else◌, List, [], ◌∷◌, map, reverse, min, encode_utf8_all}
use Rattle.std.specs.List.{list_all}
use Rattle.std.specs.Str.{chars}
use Rattle.std.specs.Char.{is_whitespace}
use Rattle.unicode_segmentation.specs.Grapheme.{graphemes}
use Rattle.unicode_segmentation.specs.Word.{word_bounds}
use Rattle.lx_text.specs.Texts.{text_length, front_of, rest_of}

-- the extended grapheme clusters of a text, each as its characters
abbrev pub clusters : List ℕ → List (List ℕ)
clusters text = map chars (graphemes true (encode_utf8_all text))

-- the pieces of a text between Unicode's word bounds, each as its characters
abbrev pub words : List ℕ → List (List ℕ)
words text = map chars (word_bounds (encode_utf8_all text))

-- the length of the first of some pieces, if there is one
abbrev pub over_first : List (List ℕ) → ℕ
over_first [] = 0
over_first (piece ∷ pieces) = text_length piece

-- the length of the pieces of white space that come first, and of the piece after them
abbrev pub over_word : List (List ℕ) → ℕ
over_word [] = 0
over_word (piece ∷ pieces) = if list_all is_whitespace piece then text_length piece + over_word pieces else text_length piece

-- where the last cluster of the text up to an offset begins
unfoldable pub cluster_before : List ℕ → ℕ → ℕ
cluster_before text at = at - over_first (reverse (clusters (front_of at text)))

-- where the last word of the text up to an offset begins, after which there may be white space
unfoldable pub word_before : List ℕ → ℕ → ℕ
word_before text at = at - over_word (reverse (words (front_of at text)))

-- a sum of offsets, which ends at the last number of 32 bits
abbrev pub offset_sum : ℕ → ℕ → ℕ
offset_sum at more = min (at + more) 4294967295

-- where the first cluster of the text from an offset on ends
unfoldable pub cluster_after : List ℕ → ℕ → ℕ
cluster_after text at = offset_sum at (over_first (clusters (rest_of at text)))

-- where the first word of the text from an offset on ends, before which there may be white space
unfoldable pub word_after : List ℕ → ℕ → ℕ
word_after text at = offset_sum at (over_word (words (rest_of at text)))
