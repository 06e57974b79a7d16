-- The fields of what an append makes, and when it makes a text.
use Rattle.std.specs.Str.{chars, encode_utf8_all, IsUtf8}
use Rattle.std.proofs.Common.{◌≡◌, ◌≢◌, ◌∙◌, ℕ, true, false, eqb, length, List, [], ◌∷◌, refl, sym, ap, subst, arith}
use Rattle.std.proofs.lemmas.Str.{chars-nil, encodes-chars}
use Rattle.lx_node.specs.OfKind.{IsOfKind, is_of_kind, fits_kind, is_element_of, is_extra_of, is_plain, is_text_of, are_text_fields}
use Rattle.lx_node.specs.Kinds.{is_possible}
use Rattle.lx_node.specs.declared.kind.Kind.TheVariants.{Paragraph, Text}
use Rattle.lx_node.specs.declared.fields.Fields.{Fields}
use Rattle.lx_node.specs.Plain.{plain_element, plain_text}
use Rattle.lx_draft.specs.Working.{Working}
use Rattle.lx_update.specs.Appending.{text_put, text_step}

-- ---- fields

pub element_suits : (fields : Fields) → fields ≡ plain_element → IsOfKind Paragraph fields
unfolding is_of_kind fits_kind is_element_of is_extra_of is_plain is_possible
element_suits fields e = subst (λ f. IsOfKind Paragraph f) (sym e) refl

pub text_suits : (fields : Fields) (text : List ℕ) → fields ≡ plain_text text → IsOfKind Text fields
unfolding is_of_kind fits_kind is_text_of are_text_fields is_possible
text_suits fields text e = subst (λ f. IsOfKind Text f) (sym e) refl

-- ---- steps

-- a text has characters exactly if it has bytes
pub no_chars : (bs : List ℕ) → eqb (length bs) 0 ≡ true → chars bs ≡ []
no_chars [] none = chars-nil
no_chars (b ∷ bs) none = absurd (grind (arith, none))

pub some_chars : (bs : List ℕ) → IsUtf8 bs → eqb (length bs) 0 ≡ false → chars bs ≢ []
some_chars [] utf8 some none = absurd (grind (arith, some))
some_chars (b ∷ bs) utf8 some none =
    let all : encode_utf8_all (chars (b ∷ bs)) ≡ b ∷ bs = encodes-chars (b ∷ bs) utf8 in
    let nothing : encode_utf8_all [] ≡ b ∷ bs = ap encode_utf8_all (sym none) ∙ all in
    absurd (grind (arith, nothing))

-- a text that isn't empty is put in
pub filled_with : (text : List ℕ) (key : ℕ) (w : Working) → text ≢ [] → text_put key text w ≡ text_step key text w
filled_with [] key w some = absurd (some refl)
filled_with (c ∷ text) key w some = refl
