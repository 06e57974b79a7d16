-- Typing at a caret, wherever it is.
use Rattle.lx_blocks.specs.Ranges.{at_anchor, at_anchor_of, caret_at, lies, normal_at}
use Rattle.lx_caret.proofs.Fit.{after_tells}
use Rattle.lx_caret.proofs.Lies.{both, text_at}
use Rattle.lx_caret.specs.Adding.{add_step, is_inside, newest}
use Rattle.lx_caret.specs.Inserting.{broken, insert_line_break_step, insert_tab_step, place_behind, tab_fields, tabbed, insert_text_step, is_of_format, style_in, typed, typed_into, typed_new}
use Rattle.lx_caret.specs.Removing.{remove_text_step}
use Rattle.lx_caret_laws.proofs.AtCaret.{at_caret, place_lies}
use Rattle.lx_caret_laws.proofs.Spliced.{text_of_normal}
use Rattle.lx_caret_laws.proofs.TypedIn.{into_around, is_read}
use Rattle.lx_caret_laws.proofs.TypedNew.{added_element, added_there}
use Rattle.lx_caret_laws.proofs.TypedOver.{typed_over}
use Rattle.lx_caret_laws.specs.Carets.{IsSound}
use Rattle.lx_caret_laws.specs.Reading.{ReadsBetween}
use Rattle.lx_caret_laws.specs.Typing.{IsCaretAt, IsTyped, TypingIsRead}
use Rattle.lx_draft.specs.Faults.{after}
use Rattle.lx_draft.specs.Selecting.{is_counted_in, is_place, length_told, lies_in, text_of}
use Rattle.lx_draft.specs.Working.{Working}
use Rattle.lx_edit.specs.Edits.{element_point, text_point}
use Rattle.lx_edit.specs.Texts.{has_no_text}
use Rattle.lx_edit_laws.proofs.WrapSteps.{was_same}
use Rattle.lx_forest.specs.Lookups.{is_attached, kind_of}
use Rattle.lx_node.specs.Kinds.{is_element}
use Rattle.lx_node.specs.declared.cause.Point.{Point}
use Rattle.lx_node.specs.declared.cause.PointKind.TheVariants as point
use Rattle.lx_node.specs.declared.cause.PointKind.{PointKind}
use Rattle.lx_node.specs.declared.fields.Fields.TheVariants as fields
use Rattle.lx_node.specs.declared.fields.Mode.TheVariants as mode
use Rattle.lx_node.specs.declared.cause.Cause.{Cause}
use Rattle.lx_node.specs.declared.fields.Fields.{Fields}
use Rattle.lx_node.specs.declared.kind.Kind.{Kind}
use Rattle.lx_node.specs.declared.fields.TextFields.{TextFields}
use Rattle.lx_node.specs.declared.kind.Kind.TheVariants as kinds
use Rattle.lx_select.specs.declared.selection.Selection.TheVariants.{Range}
use Rattle.lx_text.proofs.Places.{offset_is, parts}
use Rattle.std.proofs.Common.{Bool, List, None, Ok, Option, Result, Some, [], ap, arith, cond, false, refl, subst, sym, true, ℕ, ◌∙◌, ◌∷◌, ◌≡◌, ◌≢◌}
use Rattle.std.proofs.lemmas.Bool.Decides.{eqb_tells}
use Rattle.std.specs.Prelude.{is_some}

-- the fields of a new text
abbrev pub fields_typed : List ℕ → ℕ → List ℕ → TextFields
fields_typed text format style = record { text = text; format = format; detail = 0; mode = mode.Normal; style = style }

-- ---- a new text

new_around : (text : List ℕ) (k at : ℕ) (kind : PointKind) (format : ℕ) (w v : Working) → IsSound w
    → lies w.forest (record { key = k; offset = at; kind = kind }) ≡ true
    → (is_inside w.forest (record { key = k; offset = at; kind = kind }) kind ≡ true → is_some (normal_at w.forest k) ≡ true)
    → typed_new text format (record { key = k; offset = at; kind = kind }) w ≡ Ok v
    → ReadsBetween (record { key = k; offset = at; kind = kind }) (record { key = k; offset = at; kind = kind }) text w.forest v.forest
unfolding typed_new
new_around text k at point.Text format w v sound place may e =
    let x : TextFields = fields_typed text format (style_in (normal_at w.forest k)) in
    let first = after_tells (add_step _ kinds.Text _ w) (λ u. Ok (caret_at (text_point (newest u) (length_told text)) u)) v e in
    subst (λ u. ReadsBetween (text_point k at) (text_point k at) text w.forest u.forest)
    (was_same (caret_at (text_point (newest first.0) (length_told text)) first.0) v first.1.1)
    (added_there text k at kinds.Text (fields.Text x) w first.0 sound refl place may first.1.0)
new_around text k at point.Element format w v sound place may e =
    let x : TextFields = fields_typed text format (style_in (normal_at w.forest k)) in
    let first = after_tells (add_step _ kinds.Text _ w) (λ u. Ok (caret_at (text_point (newest u) (length_told text)) u)) v e in
    subst (λ u. ReadsBetween (element_point k at) (element_point k at) text w.forest u.forest)
    (was_same (caret_at (text_point (newest first.0) (length_told text)) first.0) v first.1.1)
    (added_element text k at kinds.Text (fields.Text x) w first.0 sound refl place first.1.0)

-- ---- into the text

-- a point that lies on a text counts its characters
pub counts_text : (w : Working) (k at : ℕ) (kind : PointKind) → lies w.forest (record { key = k; offset = at; kind = kind }) ≡ true
    → kind_of w.forest k ≡ Some kinds.Text → kind ≡ point.Text
unfolding is_element
counts_text w k at point.Text place is = refl
counts_text w k at point.Element place is =
    let inner = (both (is_attached w.forest k) (lies_in w.forest (record { key = k; offset = at; kind = point.Element })) place).1 in
    let counted = (both (is_counted_in point.Element (kind_of w.forest k))
    (is_place w.forest (record { key = k; offset = at; kind = point.Element }) point.Element) inner).0 in
    let bad : false ≡ true = sym (ap (is_counted_in point.Element) is) ∙ counted in absurd (cc)

pub of_format_tells : (format : ℕ) (o : Option TextFields) → is_of_format format o ≡ true → (t : TextFields) × ((o ≡ Some t) × (t.format ≡ format))
of_format_tells format None e = absurd (cc)
of_format_tells format (Some t) e = (t, (refl, grind (arith, e, eqb_tells t.format format)))

-- ---- the command

pub not_empty : (text : List ℕ) → text ≢ [] → has_no_text text ≡ false
not_empty [] some = absurd (some refl)
not_empty (c ∷ cs) some = refl

at_point : (text : List ℕ) (k at : ℕ) (kind : PointKind) (format : ℕ) (w v : Working)
    → IsCaretAt (record { key = k; offset = at; kind = kind }) format w → text ≢ []
    → insert_text_step text w ≡ Ok v → ReadsBetween (record { key = k; offset = at; kind = kind })
    (record { key = k; offset = at; kind = kind }) text w.forest v.forest
unfolding insert_text_step typed
at_point text k at kind format w v is some done =
    let p : Point = record { key = k; offset = at; kind = kind } in
    let first = after_tells (remove_text_step w) (λ u. cond (has_no_text text) (Ok u) (at_anchor (typed text) u)) v done in
    let caret = at_caret p format w first.0 is.caret first.1.0 in
    let next : cond (has_no_text text) (Ok w) (at_anchor (typed text) w) ≡ Ok v =
    ap (λ u. cond (has_no_text text) (Ok u) (at_anchor (typed text) u)) caret.1 ∙ first.1.1 in
    let anchored : at_anchor (typed text) w ≡ Ok v =
    sym (ap (λ b. cond b (Ok w) (at_anchor (typed text) w)) (not_empty text some)) ∙ next in
    let went : typed text p format w ≡ Ok v = sym (ap (λ s. at_anchor_of s (typed text) w) is.caret) ∙ anchored in
    by_test (is_of_format format (normal_at w.forest k)) refl caret.0.anchor went where
      by_test : (b : Bool) → is_of_format format (normal_at w.forest k) ≡ b → lies w.forest (record { key = k; offset = at; kind = kind }) ≡ true
          → cond b (typed_into text (record { key = k; offset = at; kind = kind }) w)
          (typed_new text format (record { key = k; offset = at; kind = kind }) w) ≡ Ok v
          → ReadsBetween (record { key = k; offset = at; kind = kind }) (record { key = k; offset = at; kind = kind }) text w.forest v.forest
      by_test false other place e = new_around text k at kind format w v is.sound place is.open_there e
      by_test true own place e =
          let t = of_format_tells format (normal_at w.forest k) own in
          let here = text_of_normal w.forest k t.0 t.1.0 in
          let text_kind : kind ≡ point.Text = counts_text w k at kind place (text_at w.forest k t.0 here).kind_is in
          let selects : w.selection ≡ Range (text_point k at) (text_point k at) t.0.format =
          is.caret ∙ ap (λ c. let q : Point = record { key = k; offset = at; kind = c } in Range q q format) text_kind
          ∙ ap (Range (text_point k at) (text_point k at)) (sym t.1.1) in
          let into : IsTyped text k at t.0 w v = record { sound = is.sound; normal = t.1.0; caret = selects; done = done } in
          subst (λ c. let q : Point = record { key = k; offset = at; kind = c } in ReadsBetween q q text w.forest v.forest) (sym text_kind)
          (into_around text k at t.0 w v into)

-- ---- a tab, and a line break

-- a node put where the caret is, whose characters are read there
put_around : (kind : Kind) (x : Fields) (p : Point) (w u : Working) → IsSound w → lies w.forest p ≡ true
    → (is_inside w.forest p p.kind ≡ true → is_some (normal_at w.forest p.key) ≡ true) → add_step p kind x w ≡ Ok u
    → ReadsBetween p p (text_of (Some x)) w.forest u.forest
put_around kind x p w u sound place may e = by_kind p.kind place may e where
  by_kind : (c : PointKind) → lies w.forest (record { key = p.key; offset = p.offset; kind = c }) ≡ true
      → (is_inside w.forest (record { key = p.key; offset = p.offset; kind = c }) c ≡ true → is_some (normal_at w.forest p.key) ≡ true)
      → add_step (record { key = p.key; offset = p.offset; kind = c }) kind x w ≡ Ok u
      → ReadsBetween (record { key = p.key; offset = p.offset; kind = c }) (record { key = p.key; offset = p.offset; kind = c })
      (text_of (Some x)) w.forest u.forest
  by_kind point.Text place may e = added_there (text_of (Some x)) p.key p.offset kind x w u sound refl place may e
  by_kind point.Element place may e = added_element (text_of (Some x)) p.key p.offset kind x w u sound refl place e

-- what follows at a caret, since nothing is removed there
pub at_point_of : (step : Point → ℕ → Working → Result Working Cause) (p : Point) (format : ℕ) (w v : Working) → w.selection ≡ Range p p format
    → after (remove_text_step w) (at_anchor step) ≡ Ok v → (lies w.forest p ≡ true) × (step p format w ≡ Ok v)
at_point_of step p format w v selects e =
    let first = after_tells (remove_text_step w) (at_anchor step) v e in
    let caret = at_caret p format w first.0 selects first.1.0 in
    (caret.0.anchor, sym (ap (λ s. at_anchor_of s step w) selects) ∙ ap (at_anchor step) caret.1 ∙ first.1.1)

tab_around : (p : Point) (format : ℕ) (w v : Working) → IsCaretAt p format w → insert_tab_step w ≡ Ok v → ReadsBetween p p (9 ∷ []) w.forest v.forest
unfolding insert_tab_step tabbed
tab_around p format w v is e =
    let at = at_point_of tabbed p format w v is.caret e in
    let first = after_tells (add_step p kinds.Tab (tab_fields format) w) (λ u. Ok (caret_at (text_point (newest u) 1) u)) v at.1 in
    subst (λ u. ReadsBetween p p (9 ∷ []) w.forest u.forest) (was_same (caret_at (text_point (newest first.0) 1) first.0) v first.1.1)
    (put_around kinds.Tab (tab_fields format) p w first.0 is.sound at.0 is.open_there first.1.0)

break_around : (p : Point) (format : ℕ) (w v : Working) → IsCaretAt p format w → insert_line_break_step w ≡ Ok v
    → ReadsBetween p p [] w.forest v.forest
unfolding insert_line_break_step broken
break_around p format w v is e =
    let at = at_point_of broken p format w v is.caret e in
    let first = after_tells (add_step p kinds.Break fields.Bare w) (λ u. Ok (caret_at (place_behind u.forest (newest u)) u)) v at.1 in
    subst (λ u. ReadsBetween p p [] w.forest u.forest) (was_same (caret_at (place_behind first.0.forest (newest first.0)) first.0) v first.1.1)
    (put_around kinds.Break fields.Bare p w first.0 is.sound at.0 is.open_there first.1.0)

pub told-typing : TypingIsRead
told-typing = record {
  parted = λ typed k at t w v is.
      let place = place_lies w.forest k at t (text_of_normal w.forest k t is.normal) (is_read typed k at t w v is).taken.anchor in
      (parts at t.text, offset_is at t.text place.0);
  read = λ typed k at t w v is. (is_read typed k at t w v is).into.read;
  around = λ typed k at t w v is. into_around typed k at t w v is;
  over = λ typed k from to t w v is e. typed_over typed k from to t w v is e;
  anywhere = λ typed p format w v is some e. at_point typed p.key p.offset p.kind format w v is some e;
  tab = λ p format w v is e. tab_around p format w v is e;
  line_break = λ p format w v is e. break_around p format w v is e;
  caret = λ typed k at t w v is. (is_read typed k at t w v is).into.caret;
}
