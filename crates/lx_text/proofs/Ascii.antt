-- A text that has as many code units as bytes is ASCII: its offsets are the places of its bytes.
use Rattle.std.proofs.Common.{◌≡◌, ◌∙◌, ℕ, ◌+◌, ◌<◌, ◌≤◌, true, List, [], ◌∷◌, ◌++◌, length, take, drop, sym, ap, subst, arith, encode_utf8, encode_utf8_all, IsUtf8, length-append}
use Rattle.std.specs.Str.{chars, IsAscii, IsCharBoundary}
use Rattle.std.specs.Char.{len_utf8}
use Rattle.std.proofs.lemmas.Bool.Decides.{nat_tests}
use Rattle.std.proofs.lemmas.Str.{length-encode, encode_ascii, IsAscii-append, chars-IsAscii, encodes-chars, IsAscii-take, IsAscii-drop, IsUtf8-from_ascii, IsCharBoundary-from_ascii}
use Rattle.std.proofs.Math.Seq.{take-append_seam, drop-append_seam}
use Rattle.lx_node.specs.Units.{units_of, units}
use Rattle.lx_node.specs.Strings.{capped}
use Rattle.lx_node.proofs.CodeUnits.{units-append, units-many, units-le_encoded, units-le_bytes}
use Rattle.lx_text.specs.Texts.{text_length, front_of, rest_of, is_offset}
use Rattle.lx_text.proofs.Places.{parts, offset_is, plain-offset}

-- a character with no fewer code units than bytes, and none has more
small : (c : ℕ) → len_utf8 c ≤ units_of c → c < 128
unfolding units_of
small c h = grind (arith, nat_tests, h)

few_units : (c : ℕ) → units_of c ≤ len_utf8 c
unfolding units_of
few_units c = grind (arith, nat_tests)

none_ascii : IsAscii []
none_ascii i = omega arith

one_ascii : (c : ℕ) → c < 128 → IsAscii (c ∷ [])
one_ascii c h = λ i. grind (arith, nat_tests, h)

pub ascii_by : (text : List ℕ) → units text ≡ length (encode_utf8_all text) → IsAscii (encode_utf8_all text)
unfolding units
ascii_by [] e = none_ascii
ascii_by (c ∷ text) e =
    let sum : length (encode_utf8 c ++ encode_utf8_all text) ≡ length (encode_utf8 c) + length (encode_utf8_all text) =
    length-append (encode_utf8 c) (encode_utf8_all text) in
    let plain : c < 128 = small c (omega (arith, e, sum, length-encode c, units-le_encoded text)) in
    let rest : units text ≡ length (encode_utf8_all text) = omega (arith, e, sum, length-encode c, units-le_encoded text, few_units c) in
    let first : IsAscii (encode_utf8 c) = subst (λ bs. IsAscii bs) (sym (encode_ascii c plain)) (one_ascii c plain) in
    IsAscii-append (encode_utf8 c) (encode_utf8_all text) first (ascii_by text rest)

-- where no character has two code units, as many characters as the offset says come before it
module _ (o : ℕ) (text : List ℕ) (plain : units text ≡ length text) (within : o ≤ units text) where
  pub plain-place : is_offset o text ≡ true
  unfolding text_length
  plain-place = plain-offset o text plain within

  front_characters : length (front_of o text) ≡ o
  unfolding text_length
  front_characters =
      let place : units (front_of o text) ≡ o = offset_is o text plain-place in
      let sums : units (front_of o text) + units (rest_of o text) ≡ units text =
      sym (units-append (front_of o text) (rest_of o text)) ∙ ap units (parts o text) in
      let lengths : length (front_of o text) + length (rest_of o text) ≡ length text =
      sym (length-append (front_of o text) (rest_of o text)) ∙ ap length (parts o text) in
      omega (arith, place, sums, lengths, plain, units-many (front_of o text), units-many (rest_of o text))

  pub plain-take : take o text ≡ front_of o text
  plain-take =
      ap (λ n. take n text) (sym front_characters) ∙ ap (take (length (front_of o text))) (sym (parts o text))
      ∙ take-append_seam (front_of o text) (rest_of o text)

  pub plain-drop : drop o text ≡ rest_of o text
  plain-drop =
      ap (λ n. drop n text) (sym front_characters) ∙ ap (drop (length (front_of o text))) (sym (parts o text))
      ∙ drop-append_seam (front_of o text) (rest_of o text)

-- the bytes of a text that has as many code units as bytes may be cut at an offset, and the parts are the text's
module _ (bytes : List ℕ) (o : ℕ) (utf8 : IsUtf8 bytes) (plain : units (chars bytes) ≡ length bytes) (within : o ≤ length bytes) where
  ascii : IsAscii bytes
  ascii = subst (λ bs. IsAscii bs) (encodes-chars bytes utf8) (ascii_by (chars bytes) (plain ∙ ap length (sym (encodes-chars bytes utf8))))

  itself : chars bytes ≡ bytes
  itself = chars-IsAscii bytes ascii

  one_each : units (chars bytes) ≡ length (chars bytes)
  one_each = plain ∙ ap length (sym itself)

  all_within : o ≤ units (chars bytes)
  all_within = omega (arith, within, plain)

  pub ascii-boundary : IsCharBoundary bytes o
  ascii-boundary = IsCharBoundary-from_ascii bytes o ascii within

  pub ascii-place : is_offset o (chars bytes) ≡ true
  ascii-place = plain-place o (chars bytes) one_each all_within

  pub ascii-front : chars (take o bytes) ≡ front_of o (chars bytes)
  ascii-front = chars-IsAscii (take o bytes) (IsAscii-take bytes o ascii) ∙ ap (take o) (sym itself) ∙ plain-take o (chars bytes) one_each all_within

  pub ascii-rest : chars (drop o bytes) ≡ rest_of o (chars bytes)
  ascii-rest = chars-IsAscii (drop o bytes) (IsAscii-drop bytes o ascii) ∙ ap (drop o) (sym itself) ∙ plain-drop o (chars bytes) one_each all_within

  pub ascii-left : units (chars (drop o bytes)) ≡ length (drop o bytes)
  ascii-left =
      let rest : IsAscii (drop o bytes) = IsAscii-drop bytes o ascii in
      omega (arith, ap length (chars-IsAscii (drop o bytes) rest), units-many (chars (drop o bytes)), units-le_bytes (drop o bytes) (IsUtf8-from_ascii (drop o bytes) rest))

-- a text of which a machine counts as many code units as bytes
pub ascii-counted : (bytes : List ℕ) → IsUtf8 bytes → length bytes < 18446744073709551616 → capped (units (chars bytes)) ≡ length bytes
    → units (chars bytes) ≡ length bytes
unfolding capped
ascii-counted bytes utf8 fits e = omega (arith, e, fits, units-le_bytes bytes utf8)
