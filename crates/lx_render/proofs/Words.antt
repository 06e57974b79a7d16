-- Texts of ASCII, and words with one space between.
use Rattle.std.proofs.Common.{◌≡◌, ℕ, ◌+◌, ◌<◌, ◌^◌, ◌++◌, nat_lt, if◌then◌else◌, true, IsTrue, List, [], ◌∷◌, length, take, get_or, codes, zero, suc, refl, ap, sym, ◌∙◌, append_assoc, arith, decimal}
use Rattle.std.proofs.lemmas.Fmt.{IsAscii-decimal}
use Rattle.std.proofs.lemmas.Bool.{lt-ltb}
use Rattle.std.proofs.lemmas.List.{take_more, length-take-le}
use Rattle.std.proofs.lemmas.Str.{chars-IsAscii}
use Rattle.std.specs.Str.{chars, IsAscii}
use Rattle.lx_render.specs.Render.{spaced}
use Rattle.lx_render.specs.Ascii.{is_ascii}

-- ---- ASCII

below_128 : (bytes : List ℕ) → is_ascii bytes ≡ true → IsAscii bytes
below_128 [] ascii place = omega arith
below_128 (byte ∷ bytes) ascii zero = grind (arith, ascii)
below_128 (byte ∷ bytes) ascii (suc place) = below_128 bytes (grind (arith, ascii)) place

-- the characters of a text of ASCII are its bytes
pub chars_of_ascii : (bytes : List ℕ) → IsTrue (is_ascii bytes) → chars bytes ≡ bytes
chars_of_ascii bytes ascii = chars-IsAscii bytes (below_128 bytes ascii)

-- so are those of a number
pub chars_of_decimal : (number : ℕ) → number < 2 ^ 64 → chars (decimal number) ≡ decimal number
chars_of_decimal number small = chars-IsAscii (decimal number) (IsAscii-decimal number small)

-- ---- words

-- a word after others comes after a space
spaced-append : (words : List (List ℕ)) (word : List ℕ) → 0 < length words → spaced (words ++ (word ∷ [])) ≡ spaced words ++ codes " " ++ word
spaced-append [] word some = absurd (omega arith)
spaced-append (first ∷ []) word some = refl
spaced-append (first ∷ next ∷ words) word some =
    rw (spaced-append (next ∷ words) word (omega arith)) (simp append_assoc)

-- what is before a word that isn't the first
space_if : (place : ℕ) → 0 < place → (if nat_lt 0 place then codes " " else []) ≡ codes " "
space_if place behind = rw (lt-ltb 0 place behind) refl

pub chars-space : (place : ℕ) → 0 < place → chars (codes " ") ≡ (if nat_lt 0 place then codes " " else [])
unfolding chars
chars-space place behind = sym (space_if place behind)

-- the words up to a place, and the one there
pub spaced-next : (words : List (List ℕ)) (place : ℕ) (word : List ℕ) → place < length words
    → spaced (take (place + 1) words) ≡ spaced (take place words) ++ (if nat_lt 0 place then codes " " else []) ++ get_or words place word
spaced-next words zero word within = rw (take_more words 0 word within) refl
spaced-next words (suc place) word within =
    let some : 0 < length (take (suc place) words) = rw (length-take-le (suc place) words (omega arith)) (omega arith) in
    ap spaced (take_more words (suc place) word within)
    ∙ spaced-append (take (suc place) words) (get_or words (suc place) word) some
    ∙ ap (λ space. spaced (take (suc place) words) ++ space ++ get_or words (suc place) word) (sym (space_if (suc place) (omega arith)))
