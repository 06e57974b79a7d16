-- The tests of equality show equality.
use Rattle.std.proofs.Common.{◌≡◌, ◌∙◌, ℕ, List, [], ◌∷◌, Bool, Option, None, Some, refl, sym, ap, encode_utf8_all}
use Rattle.std.specs.Str.{bytes_eq, chars}
use Rattle.std.proofs.lemmas.Slice.Eq.{bytes_eq-Decides}
use Rattle.std.specs.Prelude.{IsTrue, ◌↔◌}
use Rattle.std.specs.Bool.{Decides, beq}
use Rattle.std.proofs.lemmas.Bool.Decides.{Decides-eqb, Decides-and, Decides-like, Decides-at, same_from_decides}
use Rattle.std.specs.Option.{option_eq}
use Rattle.std.specs.Cmp.{booleans_Decides}
use Rattle.lx_node.specs.declared.fields.Mode.{Mode}
use Rattle.lx_node.specs.declared.fields.Mode.TheVariants.{Normal, Token, Segmented}
use Rattle.lx_node.specs.declared.fields.Direction.{Direction}
use Rattle.lx_node.specs.declared.fields.Direction.TheVariants as direction
use Rattle.lx_node.specs.declared.fields.Align.{Align}
use Rattle.lx_node.specs.declared.fields.Align.TheVariants as align
use Rattle.lx_node.specs.declared.fields.TextFields.{TextFields}
use Rattle.lx_node.specs.declared.fields.ElementFields.{ElementFields}
use Rattle.lx_node.specs.declared.fields.Extra.{Extra}
use Rattle.lx_node.specs.declared.fields.Extra.TheVariants as extra
use Rattle.lx_node.specs.declared.fields.Fields.{Fields}
use Rattle.lx_node.specs.declared.fields.Fields.TheVariants as fields
use Rattle.lx_node.specs.Same.{same_text, same_mode, same_direction, same_align, same_text_fields, same_extra, same_element, same_fields}

-- ---- parts

pub same_text-Decides : (xs ys : List ℕ) → Decides (same_text xs ys) (xs ≡ ys)
unfolding same_text
same_text-Decides [] [] = (λ e. refl, λ e. refl)
same_text-Decides [] (y ∷ ys) = (λ e. cc, λ e. cc)
same_text-Decides (x ∷ xs) [] = (λ e. cc, λ e. cc)
same_text-Decides (x ∷ xs) (y ∷ ys) =
    Decides-like _ (λ e. cc (e.0, e.1)) (λ e. (cc, cc)) (Decides-and _ _ (Decides-eqb x y) (same_text-Decides xs ys))

pub option_eq-Decides : {A : Type 0} (same : A → A → Bool) → ((x y : A) → Decides (same x y) (x ≡ y)) → (o r : Option A) → Decides (option_eq same o r) (o ≡ r)
option_eq-Decides same h None None = (λ e. refl, λ e. refl)
option_eq-Decides same h None (Some y) = (λ e. cc, λ e. cc)
option_eq-Decides same h (Some x) None = (λ e. cc, λ e. cc)
option_eq-Decides same h (Some x) (Some y) = Decides-like _ (ap (λ z. Some z)) (λ e. cc) (h x y)

same_mode-Decides : (a b : Mode) → Decides (same_mode a b) (a ≡ b)
unfolding same_mode
same_mode-Decides Normal Normal = (λ e. refl, λ e. refl)
same_mode-Decides Token Token = (λ e. refl, λ e. refl)
same_mode-Decides Segmented Segmented = (λ e. refl, λ e. refl)
same_mode-Decides _ _ = (λ e. cc, λ e. cc)

same_direction-Decides : (a b : Direction) → Decides (same_direction a b) (a ≡ b)
unfolding same_direction
same_direction-Decides direction.Unset direction.Unset = (λ e. refl, λ e. refl)
same_direction-Decides direction.Ltr direction.Ltr = (λ e. refl, λ e. refl)
same_direction-Decides direction.Rtl direction.Rtl = (λ e. refl, λ e. refl)
same_direction-Decides _ _ = (λ e. cc, λ e. cc)

same_align-Decides : (a b : Align) → Decides (same_align a b) (a ≡ b)
unfolding same_align
same_align-Decides align.Unset align.Unset = (λ e. refl, λ e. refl)
same_align-Decides align.Left align.Left = (λ e. refl, λ e. refl)
same_align-Decides align.Center align.Center = (λ e. refl, λ e. refl)
same_align-Decides align.Right align.Right = (λ e. refl, λ e. refl)
same_align-Decides align.Justify align.Justify = (λ e. refl, λ e. refl)
same_align-Decides align.Start align.Start = (λ e. refl, λ e. refl)
same_align-Decides align.End align.End = (λ e. refl, λ e. refl)
same_align-Decides _ _ = (λ e. cc, λ e. cc)

optional_text : (o r : Option (List ℕ)) → Decides (option_eq same_text o r) (o ≡ r)
optional_text o r = option_eq-Decides same_text same_text-Decides o r

-- ---- what a text has, and an element

abbrev text_fields : List ℕ → ℕ → ℕ → Mode → List ℕ → TextFields
text_fields text format detail mode style = record { text = text; format = format; detail = detail; mode = mode; style = style }

same_texts : (a b : TextFields) → a.text ≡ b.text → a.format ≡ b.format → a.detail ≡ b.detail → a.mode ≡ b.mode → a.style ≡ b.style → a ≡ b
same_texts a b text format detail mode style =
    let e : text_fields a.text a.format a.detail a.mode a.style ≡ text_fields b.text b.format b.detail b.mode b.style = cc in e

pub same_text_fields-Decides : (a b : TextFields) → Decides (same_text_fields a b) (a ≡ b)
unfolding same_text_fields
same_text_fields-Decides a b =
    Decides-like _ (λ e. same_texts a b e.0 e.1.0 e.1.1.0 e.1.1.1.0 e.1.1.1.1) (λ e. (cc, (cc, (cc, (cc, cc)))))
    (Decides-and _ _ (same_text-Decides a.text b.text)
    (Decides-and _ _ (Decides-eqb a.format b.format)
    (Decides-and _ _ (Decides-eqb a.detail b.detail)
    (Decides-and _ _ (same_mode-Decides a.mode b.mode) (same_text-Decides a.style b.style)))))

pub same_extra-Decides : (a b : Extra) → Decides (same_extra a b) (a ≡ b)
unfolding same_extra
same_extra-Decides extra.Plain extra.Plain = (λ e. refl, λ e. refl)
same_extra-Decides (extra.List start) (extra.List other) = Decides-like _ (λ e. cc) (λ e. cc) (Decides-eqb start other)
same_extra-Decides (extra.Item value checked) (extra.Item other_value other_checked) =
    Decides-like _ (λ e. cc (e.0, e.1)) (λ e. (cc, cc))
    (Decides-and _ _ (Decides-eqb value other_value) (option_eq-Decides beq booleans_Decides checked other_checked))
same_extra-Decides (extra.Link rel target title url) (extra.Link other_rel other_target other_title other_url) =
    Decides-like _ (λ e. cc (e.0, e.1.0, e.1.1.0, e.1.1.1)) (λ e. (cc, (cc, (cc, cc))))
    (Decides-and _ _ (optional_text rel other_rel)
    (Decides-and _ _ (optional_text target other_target)
    (Decides-and _ _ (optional_text title other_title) (same_text-Decides url other_url))))
same_extra-Decides (extra.Cell header row_span col_span background) (extra.Cell other_header other_row_span other_col_span other_background) =
    Decides-like _ (λ e. cc (e.0, e.1.0, e.1.1.0, e.1.1.1)) (λ e. (cc, (cc, (cc, cc))))
    (Decides-and _ _ (Decides-eqb header other_header)
    (Decides-and _ _ (Decides-eqb row_span other_row_span)
    (Decides-and _ _ (Decides-eqb col_span other_col_span) (optional_text background other_background))))
same_extra-Decides _ _ = (λ e. cc, λ e. cc)

abbrev element_fields : Direction → Align → ℕ → ℕ → List ℕ → Extra → ElementFields
element_fields direction format indent text_format text_style extra =
    record { direction = direction; format = format; indent = indent; text_format = text_format; text_style = text_style; extra = extra }

same_elements : (a b : ElementFields) → a.direction ≡ b.direction → a.format ≡ b.format → a.indent ≡ b.indent → a.text_format ≡ b.text_format
    → a.text_style ≡ b.text_style → a.extra ≡ b.extra → a ≡ b
same_elements a b direction format indent text_format text_style extra =
    let e : element_fields a.direction a.format a.indent a.text_format a.text_style a.extra
    ≡ element_fields b.direction b.format b.indent b.text_format b.text_style b.extra = cc in
    e

pub same_element-Decides : (a b : ElementFields) → Decides (same_element a b) (a ≡ b)
unfolding same_element
same_element-Decides a b =
    Decides-like _ (λ e. same_elements a b e.0 e.1.0 e.1.1.0 e.1.1.1.0 e.1.1.1.1.0 e.1.1.1.1.1) (λ e. (cc, (cc, (cc, (cc, (cc, cc))))))
    (Decides-and _ _ (same_direction-Decides a.direction b.direction)
    (Decides-and _ _ (same_align-Decides a.format b.format)
    (Decides-and _ _ (Decides-eqb a.indent b.indent)
    (Decides-and _ _ (Decides-eqb a.text_format b.text_format)
    (Decides-and _ _ (same_text-Decides a.text_style b.text_style) (same_extra-Decides a.extra b.extra))))))

-- ---- fields

pub same_fields-Decides : (a b : Fields) → Decides (same_fields a b) (a ≡ b)
unfolding same_fields
same_fields-Decides (fields.Element a) (fields.Element b) = Decides-like _ (ap (λ x. fields.Element x)) (λ e. cc) (same_element-Decides a b)
same_fields-Decides (fields.Text a) (fields.Text b) = Decides-like _ (ap (λ x. fields.Text x)) (λ e. cc) (same_text_fields-Decides a b)
same_fields-Decides (fields.Embed a) (fields.Embed b) = Decides-like _ (ap (λ x. fields.Embed x)) (λ e. cc) (same_text-Decides a b)
same_fields-Decides fields.Bare fields.Bare = (λ e. refl, λ e. refl)
same_fields-Decides _ _ = (λ e. cc, λ e. cc)

-- over the answer of a call
pub fields_told : (a b : Fields) (r : Bool) → r ≡ same_fields a b → IsTrue r ↔ (a ≡ b)
fields_told a b r e = Decides-at r _ e (same_fields-Decides a b)

-- two texts have equal bytes exactly where they have equal characters
pub same_bytes : (cs ds bs es : List ℕ) → bs ≡ encode_utf8_all cs → chars bs ≡ cs → es ≡ encode_utf8_all ds → chars es ≡ ds → bytes_eq bs es ≡ same_text cs ds
same_bytes cs ds bs es b c e d =
    same_from_decides _ _
    (Decides-like _ (λ h. sym c ∙ ap chars h ∙ d) (λ h. b ∙ ap encode_utf8_all h ∙ sym e) (bytes_eq-Decides bs es))
    (same_text-Decides cs ds)
