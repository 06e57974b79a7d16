-- The nodes of a kind all have a text, or none of them has.
use Rattle.std.proofs.Common.{◌≡◌, Bool, true, None, refl}
use Rattle.lx_node.specs.declared.kind.Kind.{Kind}
use Rattle.lx_node.specs.declared.kind.Kind.TheVariants.{Text, Tab}
use Rattle.lx_node.specs.declared.fields.TextFields.{TextFields}
use Rattle.lx_node.specs.declared.fields.Fields.{Fields}
use Rattle.lx_node.specs.declared.fields.Fields.TheVariants as fields
use Rattle.lx_node.specs.Kinds.{has_characters, is_possible}
use Rattle.lx_node.specs.OfKind.{is_of_kind, fits_kind, is_element_of, is_text_of, are_text_fields, are_tab_fields, are_embed_fields, are_bare}
use Rattle.lx_render.specs.Render.{text_of}
use Rattle.std.proofs.lemmas.Bool.{and_parts}

-- only what has characters has the fields of a text
characters_of_text : (k : Kind) (t : TextFields) → fits_kind k (fields.Text t) ≡ true → has_characters k ≡ true
unfolding fits_kind is_element_of is_text_of are_embed_fields are_bare has_characters
characters_of_text Text t fit = refl
characters_of_text Tab t fit = refl
characters_of_text _ t fit = absurd (cc)

-- and has no other fields
text_there : (test : TextFields → Bool) (f : Fields) → is_text_of test f ≡ true → text_of f ≡ None → ⊥
unfolding is_text_of
text_there test (fields.Element e) fit none = absurd (cc)
text_there test (fields.Text t) fit none = absurd (cc)
text_there test (fields.Embed src) fit none = absurd (cc)
text_there test fields.Bare fit none = absurd (cc)

text_of_characters : (k : Kind) (f : Fields) → has_characters k ≡ true → fits_kind k f ≡ true → text_of f ≡ None → ⊥
unfolding fits_kind has_characters
text_of_characters Text f own fit none = text_there are_text_fields f fit none
text_of_characters Tab f own fit none = text_there are_tab_fields f fit none
text_of_characters _ f own fit none = absurd (cc)

-- where the fields of two nodes of a kind are of that kind, and the one has no text, the other has none
pub none_of_kind : (k : Kind) (was now : Fields) → is_of_kind k was ≡ true → is_of_kind k now ≡ true → text_of now ≡ None → text_of was ≡ None
unfolding is_of_kind
none_of_kind k (fields.Element e) now fit other none = refl
none_of_kind k (fields.Text t) now fit other none =
    absurd (text_of_characters k now (characters_of_text k t (and_parts (is_possible k) (fits_kind k (fields.Text t)) fit).1)
    (and_parts (is_possible k) (fits_kind k now) other).1 none)
none_of_kind k (fields.Embed src) now fit other none = refl
none_of_kind k fields.Bare now fit other none = refl
