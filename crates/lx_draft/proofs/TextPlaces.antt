-- Places of points: those that offsets can say.
use Rattle.std.proofs.Common.{◌≡◌, ◌∙◌, ℕ, ◌<◌, ◌≤◌, ◌^◌, Bool, true, false, eqb, leb, ◌&&◌, List, [], refl, sym, ap, arith}
use Rattle.std.proofs.lemmas.Bool.Decides.{nat_tests, eqb_tells}
use Rattle.lx_text.specs.Texts.{is_offset, length_told}
use Rattle.lx_text.proofs.Told.{offset_start, told-last}

-- where there is no text the only place is the start
pub none_place : (o : ℕ) → eqb o 0 ≡ (leb o 0 && is_offset o [])
none_place o = by_test (leb o 0) refl where
  by_test : (b : Bool) → leb o 0 ≡ b → eqb o 0 ≡ (b && is_offset o [])
  by_test true is =
      let start : o ≡ 0 = grind (arith, nat_tests, is) in
      let here : is_offset o [] ≡ true = ap (λ n. is_offset n []) start ∙ offset_start [] in
      let same : eqb o 0 ≡ true = grind (arith, start, eqb_tells o 0) in same ∙ sym here
  by_test false is = grind (arith, nat_tests, is, eqb_tells o 0)

-- an offset that a u32 can say is within the length that one can
pub text_place : (o : ℕ) (text : List ℕ) → o < 2 ^ 32 → is_offset o text ≡ (leb o (length_told text) && is_offset o text)
text_place o text small = by_test (is_offset o text) refl where
  by_test : (b : Bool) → is_offset o text ≡ b → is_offset o text ≡ (leb o (length_told text) && is_offset o text)
  by_test true is =
      let within : o ≤ length_told text = told-last o text is (omega (arith, small)) in
      let first : leb o (length_told text) ≡ true = grind (arith, nat_tests, within) in
      grind (arith, is, first)
  by_test false is = grind (arith, is)
