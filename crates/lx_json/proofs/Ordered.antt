-- The order of texts by their bytes is that by their characters, against a word of ASCII characters.
use Rattle.std.proofs.Common.{◌≡◌, ◌∙◌, ◌+◌, ◌≤◌, ℕ, Bool, true, false, ◌&&◌, ltb, List, [], ◌∷◌, ◌++◌, length, drop, inl, inr, length-append, refl, ap, sym, arith, IsUtf8, Ordering}
use Rattle.std.specs.Str.{chars}
use Rattle.std.specs.Ordering.{nat_cmp, ordering_then}
use Rattle.std.specs.declared.cmp.Ordering.TheVariants.{Greater}
use Rattle.std.specs.Cmp.Lexicographic.{slice_cmp}
use Rattle.std.proofs.Math.Utf8.{encode, encodes}
use Rattle.std.proofs.lemmas.Bool.Decides.{leb_tells, nat_tests}
use Rattle.std.proofs.lemmas.Str.{byte_from_char, char_from_byte, drop_past_char, len_utf8_ascii, len_utf8_bounds, length-encode, encodes-chars}

abbrev pub are_ascii : List ℕ → Bool
are_ascii [] = true
are_ascii (d ∷ ds) = ltb d 128 && are_ascii ds

above : (a d : ℕ) (o : Ordering) → 128 ≤ a → ltb d 128 ≡ true → ordering_then (nat_cmp a d) o ≡ Greater
above a d o high low = grind (arith, nat_tests, high, low)

-- bytes that begin with those of a character
first : (bs rest : List ℕ) (c d : ℕ) (ds : List ℕ) (o : Ordering) → bs ≡ encode c ++ rest → ltb d 128 ≡ true → slice_cmp nat_cmp rest ds ≡ o
    → slice_cmp nat_cmp bs (d ∷ ds) ≡ ordering_then (nat_cmp c d) o
first [] rest c d ds o is low same = absurd (omega (arith, ap length is, length-append (encode c) rest, length-encode c, (len_utf8_bounds c).0))
first (b ∷ bs) rest c d ds o is low same = elim (leb_tells 128 c) [
  | inl high ↦
      let up : 128 ≤ b =
      elim (leb_tells 128 b)
      [ inl up ↦ up.1 | inr down ↦ absurd (omega (arith, high.1, down.1, char_from_byte (b ∷ bs) rest c is down.1 (omega arith))) ] in
      above b d (slice_cmp nat_cmp bs ds) up low ∙ sym (above c d o high.1 low)
  | inr ascii ↦
      let here : b ≡ c = byte_from_char (b ∷ bs) rest c is ascii.1 in
      let there : bs ≡ rest = ap (λ n. drop (0 + n) (b ∷ bs)) (sym (len_utf8_ascii c ascii.1)) ∙ drop_past_char (b ∷ bs) rest 0 c is in
      ap (λ b. ordering_then (nat_cmp b d) (slice_cmp nat_cmp bs ds)) here ∙ ap (λ bs. ordering_then (nat_cmp c d) (slice_cmp nat_cmp bs ds)) there
      ∙ ap (ordering_then (nat_cmp c d)) same
]

none : (bs rest : List ℕ) (c : ℕ) → bs ≡ encode c ++ rest → slice_cmp nat_cmp bs [] ≡ Greater
none [] rest c is = absurd (omega (arith, ap length is, length-append (encode c) rest, length-encode c, (len_utf8_bounds c).0))
none (b ∷ bs) rest c is = refl

left : (a b : Bool) → (a && b) ≡ true → (a ≡ true) × (b ≡ true)
left true b e = (refl, e)
left false b e = absurd (cc)

encoded : (cs ds : List ℕ) → are_ascii ds ≡ true → slice_cmp nat_cmp (encodes cs) ds ≡ slice_cmp nat_cmp cs ds
encoded [] [] ascii = refl
encoded [] (d ∷ ds) ascii = refl
encoded (c ∷ cs) [] ascii = none (encodes (c ∷ cs)) (encodes cs) c refl
encoded (c ∷ cs) (d ∷ ds) ascii =
    let both = left (ltb d 128) (are_ascii ds) ascii in
    first (encodes (c ∷ cs)) (encodes cs) c d ds (slice_cmp nat_cmp cs ds) refl both.0 (encoded cs ds both.1)

-- a text against a word
pub same_order : (bs ds : List ℕ) → IsUtf8 bs → are_ascii ds ≡ true → slice_cmp nat_cmp bs ds ≡ slice_cmp nat_cmp (chars bs) ds
same_order bs ds utf8 ascii = ap (λ bs. slice_cmp nat_cmp bs ds) (sym (encodes-chars bs utf8)) ∙ encoded (chars bs) ds ascii
