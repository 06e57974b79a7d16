-- The clusters and words of a text, as the toolchain's iterators give them.
use Rattle.std.proofs.Common.{◌≡◌, ◌∙◌, ℕ, ◌+◌, ◌-◌, ◌<◌, ◌^◌, min, true, List, [], ◌∷◌, ◌++◌, map, reverse, sym, ap, arith, IsUtf8}
use Rattle.std.specs.Str.{chars}
use Rattle.std.proofs.lemmas.Str.{encodes-chars}
use Rattle.std.proofs.lemmas.List.{map-append, reverse-append}
use Rattle.unicode_segmentation.specs.Grapheme.{graphemes}
use Rattle.unicode_segmentation.specs.Word.{word_bounds}
use Rattle.lx_text.specs.Texts.{text_length, front_of, rest_of}
use Rattle.lx_text.specs.Clusters.{clusters, words, over_first, over_word, cluster_before, cluster_after, word_before, word_after, offset_sum}

-- ---- pieces of bytes, and of characters

-- the clusters and words of what bytes spell
clusters_of : (bytes : List ℕ) → IsUtf8 bytes → clusters (chars bytes) ≡ map chars (graphemes true bytes)
clusters_of bytes u = ap (λ b. map chars (graphemes true b)) (encodes-chars bytes u)

words_of : (bytes : List ℕ) → IsUtf8 bytes → words (chars bytes) ≡ map chars (word_bounds bytes)
words_of bytes u = ap (λ b. map chars (word_bounds b)) (encodes-chars bytes u)

-- pieces of bytes as their characters, from the last one on
abbrev pub turned : List (List ℕ) → List (List ℕ)
turned pieces = reverse (map chars pieces)

pub turned_last : (pieces rest : List (List ℕ)) (piece : List ℕ) → pieces ≡ rest ++ piece ∷ [] → turned pieces ≡ chars piece ∷ turned rest
turned_last pieces rest piece e =
    ap turned e ∙ ap reverse (map-append chars rest (piece ∷ [])) ∙ reverse-append (map chars rest) (chars piece ∷ [])

-- ---- one cluster

pub last_told : (bytes piece : List ℕ) (rest : List (List ℕ)) → IsUtf8 bytes → graphemes true bytes ≡ rest ++ piece ∷ []
    → over_first (reverse (clusters (chars bytes))) ≡ text_length (chars piece)
last_told bytes piece rest u e = ap (λ ps. over_first (reverse ps)) (clusters_of bytes u) ∙ ap over_first (turned_last (graphemes true bytes) rest piece e)

pub first_told : (bytes piece : List ℕ) (rest : List (List ℕ)) → IsUtf8 bytes → graphemes true bytes ≡ piece ∷ rest
    → over_first (clusters (chars bytes)) ≡ text_length (chars piece)
first_told bytes piece rest u e = ap over_first (clusters_of bytes u ∙ ap (map chars) e)

pub none_before : (bytes : List ℕ) → IsUtf8 bytes → graphemes true bytes ≡ [] → over_first (reverse (clusters (chars bytes))) ≡ 0
none_before bytes u e = ap (λ ps. over_first (reverse ps)) (clusters_of bytes u ∙ ap (map chars) e)

pub none_behind : (bytes : List ℕ) → IsUtf8 bytes → graphemes true bytes ≡ [] → over_first (clusters (chars bytes)) ≡ 0
none_behind bytes u e = ap over_first (clusters_of bytes u ∙ ap (map chars) e)

-- ---- one word, gone over piece by piece; a sum ends at the last of 32 bits

from_none : (n : ℕ) → min (0 + n) 4294967295 ≡ min n 4294967295
from_none n = omega arith

pub last_start : (bytes : List ℕ) (left : List (List ℕ)) → IsUtf8 bytes → left ≡ word_bounds bytes
    → min (0 + over_word (turned left)) 4294967295 ≡ min (over_word (reverse (words (chars bytes)))) 4294967295
last_start bytes left u is =
    from_none (over_word (turned left)) ∙ ap (λ ps. min (over_word (reverse ps)) 4294967295) (ap (map chars) is ∙ sym (words_of bytes u))

pub first_start : (bytes : List ℕ) (left : List (List ℕ)) → IsUtf8 bytes → left ≡ word_bounds bytes
    → min (0 + over_word (map chars left)) 4294967295 ≡ min (over_word (words (chars bytes))) 4294967295
first_start bytes left u is = from_none (over_word (map chars left)) ∙ ap (λ ps. min (over_word ps) 4294967295) (ap (map chars) is ∙ sym (words_of bytes u))

-- ---- the calls

less : (at n : ℕ) → at < 2 ^ 32 → at - min n 4294967295 ≡ at - n
less at n h = omega (arith, h)

more_than : (at n : ℕ) → min (at + min n 4294967295) 4294967295 ≡ offset_sum at n
more_than at n = omega arith

pub before_told : (text start : List ℕ) (at : ℕ) → at < 2 ^ 32 → start ≡ front_of at text
    → at - min (over_first (reverse (clusters start))) 4294967295 ≡ cluster_before text at
unfolding cluster_before
before_told text start at h e = less at _ h ∙ ap (λ s. at - over_first (reverse (clusters s))) e

pub word_before_told : (text start : List ℕ) (at : ℕ) → at < 2 ^ 32 → start ≡ front_of at text
    → at - min (over_word (reverse (words start))) 4294967295 ≡ word_before text at
unfolding word_before
word_before_told text start at h e = less at _ h ∙ ap (λ s. at - over_word (reverse (words s))) e

pub after_told : (text rest : List ℕ) (at : ℕ) → rest ≡ rest_of at text
    → min (at + min (over_first (clusters rest)) 4294967295) 4294967295 ≡ cluster_after text at
unfolding cluster_after
after_told text rest at e = more_than at _ ∙ ap (λ s. offset_sum at (over_first (clusters s))) e

pub word_after_told : (text rest : List ℕ) (at : ℕ) → rest ≡ rest_of at text
    → min (at + min (over_word (words rest)) 4294967295) 4294967295 ≡ word_after text at
unfolding word_after
word_after_told text rest at e = more_than at _ ∙ ap (λ s. offset_sum at (over_word (words s))) e
