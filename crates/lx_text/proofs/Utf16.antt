-- What an offset counts: the length of a text is that of its UTF-16.
use Rattle.std.proofs.Common.{◌≡◌, ◌∙◌, ℕ, ◌≤◌, false, List, [], ◌∷◌, length, refl, ap, arith, length-append}
use Rattle.std.proofs.lemmas.Bool.Decides.{nat_tests, eqb_tells}
use Rattle.std.specs.List.{flat_map}
use Rattle.std.specs.Char.Escape.{encode_utf16}
use Rattle.lx_node.specs.Units.{units_of, units}
use Rattle.lx_text.specs.Texts.{text_length, within, is_offset}
use Rattle.lx_text.proofs.Places.{length-none, pair-front, within_is}

length-one : (c : ℕ) → length (encode_utf16 c) ≡ units_of c
unfolding units_of
length-one c = grind (arith, nat_tests)

pub length-utf16 : (text : List ℕ) → text_length text ≡ length (flat_map encode_utf16 text)
unfolding text_length units
length-utf16 [] = refl
length-utf16 (c ∷ text) = omega (arith, length-append (encode_utf16 c) (flat_map encode_utf16 text), length-one c, length-utf16 text)

pub offset-pair : (c : ℕ) (text : List ℕ) → 65536 ≤ c → is_offset 1 (c ∷ text) ≡ false
unfolding is_offset
offset-pair c text h =
    let none : within (c ∷ text) 1 ≡ 0 = within_is 1 (c ∷ text) ∙ ap text_length (pair-front c text h) ∙ length-none in
    grind (arith, none, eqb_tells (within (c ∷ text) 1) 1)
