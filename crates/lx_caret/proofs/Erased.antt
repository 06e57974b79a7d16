-- Where a caret is in its text.
use Rattle.std.proofs.Common.{◌≡◌, ◌∙◌, ℕ, Bool, true, false, ◌&&◌, Option, None, Some, option_map, Result, Ok, Err, refl, sym, ap, inl, inr}
use Rattle.std.proofs.lemmas.Bool.{cases_Bool, and_parts}
use Rattle.std.specs.Prelude.{nat_le}
use Rattle.lx_node.specs.OfKind.{is_normal}
use Rattle.lx_node.specs.declared.kind.Kind.{Kind}
use Rattle.lx_node.specs.declared.kind.Kind.TheVariants.{Text}
use Rattle.lx_node.specs.declared.fields.Fields.{Fields}
use Rattle.lx_node.specs.declared.fields.Fields.TheVariants as fields
use Rattle.lx_node.specs.declared.fields.TextFields.{TextFields}
use Rattle.lx_node.specs.declared.cause.Cause.{Cause}
use Rattle.lx_node.specs.declared.cause.Cause.TheVariants.{NoSelection}
use Rattle.lx_node.specs.declared.cause.SelectionKind.TheVariants as kinds
use Rattle.lx_node.specs.declared.cause.Point.{Point}
use Rattle.lx_node.specs.declared.cause.PointKind.{PointKind}
use Rattle.lx_node.specs.declared.cause.PointKind.TheVariants as point
use Rattle.lx_text.specs.Texts.{is_offset}
use Rattle.lx_text.proofs.Told.{offset_start}
use Rattle.lx_select.specs.declared.selection.Selection.{Selection}
use Rattle.lx_select.specs.declared.selection.Selection.TheVariants.{Range}
use Rattle.lx_forest.specs.Forest.{Forest, Label}
use Rattle.lx_forest.specs.Lookups.{label_of, kind_of, fields_of, is_attached}
use Rattle.lx_draft.specs.Working.{Working}
use Rattle.lx_draft.specs.Selecting.{text_of, length_of, is_place, is_counted_in, lies_in}
use Rattle.lx_draft.specs.Faults.{text_fields, text_in}
use Rattle.lx_blocks.specs.declared.ranges.Ranged.{Ranged}
use Rattle.lx_blocks.specs.Blocks.{same_node, frame_of}
use Rattle.lx_blocks.specs.Ranges.{range_in, range_of, is_fit, lies, if_normal, normal_at, characters_at}
use Rattle.lx_caret.specs.Deleting.{Reach, erased, erase_step, has_more, edge}
use Rattle.lx_caret.specs.Stretches.{erased_to}
use Rattle.lx_caret.proofs.Lies.{end_offset}

-- ---- the caret of a range

fit_lies : (f : Forest) (a b : Point) (format : ℕ) (r : Ranged) → range_in f (Range a b format) ≡ Ok r → lies f r.anchor ≡ true
fit_lies f a b format r e = elim (cases_Bool (is_fit f a b)) [
  | inl fit ↦
      let made : ◌≡◌ {A = Result Ranged Cause} (Ok (record { anchor = a; focus = b; format = format })) (Ok r) = rw fit at e in
      let same : a ≡ r.anchor = cc in
      ap (lies f) (sym same) ∙ (and_parts (lies f a) (lies f b) (and_parts (lies f a && lies f b) (same_node (frame_of f a.key) (frame_of f b.key)) fit).0).0
  | inr not ↦ absurd (let no : ◌≡◌ {A = Result Ranged Cause} (Err (NoSelection kinds.Range)) (Ok r) = rw not at e in cc)
]

anchor_in : (f : Forest) (s : Selection) (r : Ranged) → range_in f s ≡ Ok r → lies f r.anchor ≡ true
anchor_in f (Range a b format) r e = fit_lies f a b format r e
anchor_in f other r e = absurd (cc)

-- the anchor of the range that a command needs lies in the root's tree
pub anchor_lies : (w : Working) (r : Ranged) → range_of w ≡ Ok r → lies w.forest r.anchor ≡ true
unfolding range_of
anchor_lies w r e = anchor_in w.forest w.selection r e

-- ---- an offset of a text

more_in : (back : Bool) (f : Forest) (p : Point) (kind : PointKind) → is_place f p kind ≡ true → has_more back f p kind ≡ true
    → is_offset p.offset (text_of (fields_of f p.key)) ≡ true
more_in back f p point.Element place more = absurd (cc)
more_in back f p point.Text place more = (and_parts (nat_le p.offset (characters_at f p.key)) (is_offset p.offset (text_of (fields_of f p.key))) place).1

-- a point with characters on a side is at an offset of its text
pub more_place : (back : Bool) (f : Forest) (p : Point) → lies f p ≡ true → has_more back f p p.kind ≡ true
    → is_offset p.offset (text_of (fields_of f p.key)) ≡ true
more_place back f p e more =
    more_in back f p p.kind (and_parts (is_counted_in p.kind (kind_of f p.key)) (is_place f p p.kind) (and_parts (is_attached f p.key) (lies_in f p) e).1).1
    more

-- and so is an edge
pub edge_place : (back : Bool) (x : Option Fields) → is_offset (edge back (length_of x)) (text_of x) ≡ true
edge_place true x = end_offset x
edge_place false x = offset_start (text_of x)

normal_is : (o : Option TextFields) (text : TextFields) → if_normal o ≡ Some text → o ≡ Some text
normal_is None text e = cc
normal_is (Some own) text e = elim (cases_Bool (is_normal own.mode)) [
  | inl normal ↦ rw normal at e
  | inr other ↦ absurd (let no : None ≡ Some text = rw other at e in cc)
]

fields_are : (kind : Kind) (all : Fields) (text : TextFields) → text_fields kind all ≡ Some text → all ≡ fields.Text text
fields_are Text (fields.Text own) text e = let same : own ≡ text = cc in ap (λ (t : TextFields). fields.Text t) same
fields_are kind other text e = absurd (cc)

text_at : (l : Option Label) (text : TextFields) → text_in l ≡ Some text → option_map (λ (l : Label). l.fields) l ≡ Some (fields.Text text)
text_at None text e = cc
text_at (Some l) text e = ap (λ x. Some x) (fields_are l.kind l.fields text e)

-- an offset of the text of a normal one
pub offset_of : (f : Forest) (k at : ℕ) (text : TextFields) → normal_at f k ≡ Some text → is_offset at (text_of (fields_of f k)) ≡ true
    → is_offset at text.text ≡ true
offset_of f k at text normal e =
    let is : fields_of f k ≡ Some (fields.Text text) = text_at (label_of f k) text (normal_is (text_in (label_of f k)) text normal) in
    ap (λ x. is_offset at (text_of x)) (sym is) ∙ e

-- ---- up to the end of a stretch

erased_is : (back : Bool) (reach : Reach) (k at : ℕ) (o : Option TextFields) (w : Working)
    → erased_to back k at (option_map (λ (t : TextFields). reach t.text at) o) w ≡ erased back reach k at o w
erased_is back reach k at None w = refl
erased_is true reach k at (Some text) w = refl
erased_is false reach k at (Some text) w = refl

pub erased_by : (back : Bool) (reach : Reach) (k at : ℕ) (end : Option ℕ) (w : Working)
    → end ≡ option_map (λ (t : TextFields). reach t.text at) (normal_at w.forest k)
    → erased_to back k at end w ≡ erase_step back reach k at w
unfolding erase_step
erased_by back reach k at end w e = ap (λ o. erased_to back k at o w) e ∙ erased_is back reach k at (normal_at w.forest k) w
