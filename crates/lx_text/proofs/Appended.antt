-- The end of a text, where nothing is looked for.
use Rattle.std.proofs.Common.{◌≡◌, ◌∙◌, ℕ, ◌^◌, ◌<◌, ◌≤◌, min, Bool, true, false, eqb, List, [], ◌-◌, ◌++◌, length, None, refl, sym, ap, arith, append-nil, encode_utf8_all}
use Rattle.std.proofs.lemmas.Bool.Decides.{nat_tests, eqb_tells}
use Rattle.lx_node.specs.Strings.{capped}
use Rattle.lx_node.specs.Cuts.{Cuts}
use Rattle.lx_text.specs.Texts.{text_length, front_of, rest_of, is_offset, length_told, slice_of, spliced_text, slice_fault}
use Rattle.lx_text.proofs.Places.{front-none, rest-end, plain-offset}
use Rattle.lx_text.proofs.Told.{front-end, offset_end, offset_within, told-all}

-- an offset that is the number of code units, as far as a machine counts them, is the text's length
pub at_end : (at n : ℕ) → at < 2 ^ 32 → at ≡ capped n → at ≡ n
unfolding capped
at_end at n small e = omega arith

-- what is capped at 64 bits may be capped at 32 bits
pub min-capped : (n : ℕ) → min (capped n) 4294967295 ≡ min n 4294967295
unfolding capped
min-capped n = omega arith

pub spliced-end : (at : ℕ) (new text : List ℕ) → at ≡ text_length text → spliced_text at at new text ≡ text ++ new
unfolding spliced_text
spliced-end at new text e =
    ap (λ cs. (cs ++ new) ++ rest_of at text) (front-end at text (omega (arith, e)))
    ∙ ap (λ cs. (text ++ new) ++ cs) (rest-end at text (omega (arith, e))) ∙ append-nil (text ++ new)

none_behind : (text rest : List ℕ) → rest ≡ [] → text ++ [] ++ rest ≡ text
none_behind text rest e = ap (λ cs. (text ++ []) ++ cs) e ∙ append-nil (text ++ []) ∙ append-nil text

-- nothing comes after the end
pub cut-end : (at bytes : ℕ) (text : List ℕ) → at ≡ text_length text → bytes ≡ length (encode_utf8_all text)
    → Cuts bytes 0 (front_of at text) (slice_of at at text) (rest_of at text) text
unfolding slice_of
cut-end at bytes text e n =
    let front : front_of at text ≡ text = front-end at text (omega (arith, e)) in
    let rest : rest_of at text ≡ [] = rest-end at text (omega (arith, e)) in
    let piece : front_of (at - at) (rest_of at text) ≡ [] = ap (front_of (at - at)) rest ∙ front-none (at - at) in
    record {
      whole =
          sym
          (ap (λ cs. cs ++ front_of (at - at) (rest_of at text) ++ rest_of at text) front ∙ ap (λ cs. text ++ cs ++ rest_of at text) piece
          ∙ none_behind text (rest_of at text) rest);
      front_is = ap (λ cs. length (encode_utf8_all cs)) front ∙ sym n;
      piece_is = ap (λ cs. length (encode_utf8_all cs)) piece;
    }

pub no_fault_at_end : (at : ℕ) (text : List ℕ) → at ≡ text_length text → slice_fault text at at ≡ None
no_fault_at_end at text e =
    let here : is_offset at text ≡ true = ap (λ n. is_offset n text) e ∙ offset_end text in
    grind (arith, nat_tests, here)

-- ---- what a machine counts

-- a number of code units that fits an offset is the length
pub told_fits : (n : ℕ) (text : List ℕ) → n ≡ capped (text_length text) → n < 4294967296 → n ≡ length_told text
unfolding capped
told_fits n text e small =
    let all : n ≡ text_length text = omega (arith, e, small) in
    all ∙ sym (told-all text (omega (arith, all, small)))

-- an offset from there on is one where it is the length
pub told_past : (o n : ℕ) (text : List ℕ) → n ≡ capped (text_length text) → o < 2 ^ 32 → n ≤ o → eqb o n ≡ is_offset o text
unfolding capped
told_past o n text e small past = by_test (is_offset o text) refl where
  by_test : (b : Bool) → is_offset o text ≡ b → eqb o n ≡ is_offset o text
  by_test true is =
      let same : o ≡ n = omega (arith, e, small, past, offset_within o text is) in
      let equal : eqb o n ≡ true = grind (arith, same, eqb_tells o n) in equal ∙ sym is
  by_test false is =
      let other : eqb o n ≡ false = grind (arith, eqb_tells o n, is, e, small, offset_end text) in other ∙ sym is

-- as many characters as code units: no pairs
pub told_plain : (o m n : ℕ) (text : List ℕ) → m ≡ capped (length text) → n ≡ capped (text_length text) → m ≡ n → n < 18446744073709551615 → o < n
    → true ≡ is_offset o text
unfolding capped
told_plain o m n text many e same small within =
    let plain : text_length text ≡ length text = omega (arith, many, e, same, small) in
    sym (plain-offset o text plain (omega (arith, e, small, within)))
