-- What says nothing: a node that holds another, and one that may not be left without children, where fields are of their kinds.
use Rattle.lx_caret_laws.specs.Reading.{said}
use Rattle.lx_draft.proofs.Touched.{is_some-kind_of}
use Rattle.lx_draft.specs.Selecting.{text_of}
use Rattle.lx_edit.specs.Edits.{may_not_be_left}
use Rattle.lx_forest.proofs.Lookups.{has-child}
use Rattle.lx_forest.specs.Forest.{Forest, Label}
use Rattle.lx_forest.specs.Lookups.{IsHeld, holds, kind_of, label_of, parent_of}
use Rattle.lx_forest.specs.Suited.{IsSuited, is_suited}
use Rattle.lx_node.specs.Kinds.{has_characters, is_item, is_possible, may_be_empty, may_hold}
use Rattle.lx_node.specs.OfKind.{are_bare, are_embed_fields, fits_kind, is_element_of, is_of_kind}
use Rattle.lx_node.specs.declared.fields.Fields.{Fields}
use Rattle.lx_node.specs.declared.fields.TextFields.{TextFields}
use Rattle.lx_node.specs.declared.kind.Kind.{Kind}
use Rattle.std.proofs.Common.{None, Option, Some, [], ap, ap₂, arith, false, option_map, refl, sym, true, ℕ, ◌∙◌, ◌≡◌, ◌≢◌}
use Rattle.lx_node.specs.declared.fields.Fields.TheVariants as fields
use Rattle.lx_node.specs.declared.kind.Kind.TheVariants as kinds

-- only what has characters has the fields of a text
text_kind : (kind : Kind) (t : TextFields) → is_of_kind kind (fields.Text t) ≡ true → has_characters kind ≡ true
unfolding is_of_kind fits_kind is_element_of are_bare are_embed_fields has_characters is_possible
text_kind kinds.Text t e = refl
text_kind kinds.Tab t e = refl
text_kind (kinds.Heading level) t e = absurd (grind (arith, e))
text_kind kind t e = absurd (cc)

silent_kind : (kind : Kind) (x : Fields) → is_of_kind kind x ≡ true → has_characters kind ≡ false → text_of (Some x) ≡ []
silent_kind kind (fields.Text t) e plain = absurd (let bad : false ≡ true = sym plain ∙ text_kind kind t e in cc)
silent_kind kind x e plain = refl

pub silent_at : (f : Forest) (q : ℕ) → IsSuited f → ((kind : Kind) → kind_of f q ≡ Some kind → has_characters kind ≡ false) → said f q ≡ []
silent_at f q suited plain = by_label (label_of f q) refl where
  by_label : (o : Option Label) → label_of f q ≡ o → said f q ≡ []
  by_label None is = ap (λ o. text_of (option_map (λ (l : Label). l.fields) o)) is
  by_label (Some l) is =
      ap (λ o. text_of (option_map (λ (l : Label). l.fields) o)) is
      ∙ silent_kind l.kind l.fields (sym (ap is_suited is) ∙ suited.each q) (plain l.kind (ap (option_map (λ (l : Label). l.kind)) is))

holder_plain : (outer inner : Kind) → may_hold outer inner ≡ true → has_characters outer ≡ false
unfolding may_hold has_characters
holder_plain kinds.Text inner e = absurd (cc)
holder_plain kinds.Tab inner e = absurd (cc)
holder_plain outer inner e = refl

goer_plain : (outer : Kind) (inner : Option Kind) → may_not_be_left (Some outer) inner ≡ true → has_characters outer ≡ false
unfolding may_be_empty is_item has_characters
goer_plain outer None e = absurd (cc)
goer_plain kinds.Text (Some inner) e = absurd (cc)
goer_plain kinds.Tab (Some inner) e = absurd (cc)
goer_plain outer (Some inner) e = refl

-- what holds another says nothing
pub holder_silent : (f : Forest) (q c : ℕ) → IsSuited f → IsHeld may_hold f → parent_of f c ≡ Some q → said f q ≡ []
holder_silent f q c suited held up = silent_at f q suited (λ kind is. by_kind kind is (kind_of f c) refl) where
  by_kind : (kind : Kind) → kind_of f q ≡ Some kind → (o : Option Kind) → kind_of f c ≡ o → has_characters kind ≡ false
  by_kind kind is None none = absurd (grind (arith, none, is_some-kind_of f c, has-child f c q up))
  by_kind kind is (Some inner) own = holder_plain kind inner (sym (ap₂ (holds may_hold) is own) ∙ held.each c q up)

-- nor does what goes since it may not be left, and that is no text
pub goer_silent : (f : Forest) (q : ℕ) (inner : Option Kind) → IsSuited f → may_not_be_left (kind_of f q) inner ≡ true → said f q ≡ []
goer_silent f q inner suited goes =
    silent_at f q suited (λ kind is. goer_plain kind inner (ap (λ o. may_not_be_left o inner) (sym is) ∙ goes))

pub goer_no_text : (f : Forest) (q s : ℕ) (inner : Option Kind) → kind_of f s ≡ Some kinds.Text → may_not_be_left (kind_of f q) inner ≡ true → q ≢ s
unfolding has_characters
goer_no_text f q s inner text goes same =
    let plain = goer_plain kinds.Text inner (ap (λ o. may_not_be_left o inner) (sym (ap (kind_of f) same ∙ text)) ∙ goes) in
    absurd (cc)
