-- A whole text that is formatted, and formatted again.
use Rattle.lx_blocks.specs.Ranges.{characters_at, if_normal}
use Rattle.lx_caret.proofs.Fit.{Fit, stays_set}
use Rattle.lx_caret.proofs.Lies.{text_at}
use Rattle.lx_caret.proofs.Short.{written-allowed}
use Rattle.lx_caret.specs.Formatting.{excluded, format_text_step, formatted, has_bit, piece, selection_format}
use Rattle.lx_caret_laws.proofs.AtCaret.{place_lies}
use Rattle.lx_caret_laws.proofs.Followed.{if_normal_tells}
use Rattle.lx_caret_laws.proofs.FormatsIn.{formatted_in, met, pieces_one, switched_one}
use Rattle.lx_caret_laws.proofs.Opened.{characters_said}
use Rattle.lx_caret_laws.proofs.Spliced.{text_of_normal}
use Rattle.lx_caret_laws.proofs.Turned.{told-back, told-has_it}
use Rattle.lx_caret_laws.specs.Carets.{IsSound, Selects}
use Rattle.lx_caret_laws.specs.Deleting.{IsSelectedIn}
use Rattle.lx_caret_laws.specs.Formats.{FormattingIsExact, IsAsBefore, turned}
use Rattle.lx_draft.proofs.Covered.{answered}
use Rattle.lx_draft.proofs.Put.{both_none}
use Rattle.lx_draft.specs.Faults.{over_limits, text_fields, text_in}
use Rattle.lx_draft.specs.Selecting.{text_of}
use Rattle.lx_draft.specs.Steps.{differ, fields_written, marked_if, set_points, set_step, wrote}
use Rattle.lx_draft.specs.Working.{Working}
use Rattle.lx_edit.specs.Edits.{text_point}
use Rattle.lx_edit.specs.Texts.{split_step}
use Rattle.lx_edit_laws.proofs.SplitLaws.{cut_up}
use Rattle.lx_edit_laws.proofs.WrapSteps.{was_same}
use Rattle.lx_forest.proofs.Lookups.{children_of-with_fields, fields_of-with_fields, kind_of-with_fields, parent_of-with_fields}
use Rattle.lx_forest.specs.Edits.{with_fields}
use Rattle.lx_forest.specs.Forest.{Forest, Label}
use Rattle.lx_forest.specs.Lookups.{children_of, fields_of, kind_of, label_of, parent_of}
use Rattle.lx_links.specs.Faults.{set_fault}
use Rattle.lx_node.specs.Limits.{most_written}
use Rattle.lx_node.specs.Strings.{characters_of}
use Rattle.lx_node.specs.declared.fields.Fields.TheVariants as fields
use Rattle.lx_node.specs.declared.fields.Fields.{Fields}
use Rattle.lx_node.specs.declared.fields.TextFields.{TextFields}
use Rattle.lx_node.specs.declared.kind.Kind.TheVariants as kinds
use Rattle.lx_select.specs.Rules.{set_moves}
use Rattle.lx_select.specs.Selection.{with_format}
use Rattle.lx_select.specs.declared.selection.Selection.TheVariants.{Range}
use Rattle.lx_text.specs.Texts.{is_offset, text_length, within}
use Rattle.std.proofs.Common.{Bool, List, None, Ok, Option, Some, [], ap, ap₂, arith, cond, eqb, false, inl, inr, option_map, refl, subst, sym, true, ℕ, ◌&&◌, ◌+◌, ◌^◌, ◌∙◌, ◌∷◌, ◌≡◌, ◌≤◌}
use Rattle.std.proofs.lemmas.Bool.Decides.{eqb_tells, nat_tests}
use Rattle.std.specs.Option.{option_or}
use Rattle.std.specs.Prelude.{nat_lt}

-- a point at a place of a text stays there as the text is set
point_still : (k o : ℕ) (text : List ℕ) → is_offset o text ≡ true → set_moves k text (text_point k o) ≡ text_point k o
unfolding set_moves is_offset
point_still k o text e =
    let own : eqb k k ≡ true = grind (arith, eqb_tells k k) in
    let same : within text o ≡ o = grind (arith, e, eqb_tells (within text o) o) in
    ap (λ b. cond b (text_point k (within text o)) (text_point k o)) own ∙ ap (text_point k) same

-- a label is a text by its kind and its fields
text_by : (g : Forest) (k : ℕ) (x : TextFields) → kind_of g k ≡ Some kinds.Text → fields_of g k ≡ Some (fields.Text x)
    → text_in (label_of g k) ≡ Some x
text_by g k x kind_now now = by_label (label_of g k) kind_now now where
  by_label : (o : Option Label) → option_map (λ (l : Label). l.kind) o ≡ Some kinds.Text
      → option_map (λ (l : Label). l.fields) o ≡ Some (fields.Text x) → text_in o ≡ Some x
  by_label None kind_now is = absurd (cc)
  by_label (Some l) kind_now is =
      let one : l.kind ≡ kinds.Text = cc in
      let two : l.fields ≡ fields.Text x = cc in
      ap₂ text_fields one two

written_still : (marks : Bool) (f : Forest) (k : ℕ) (w : Working) → (marked_if marks f k w).written ≡ w.written
written_still true f k w = refl
written_still false f k w = refl

-- a set of a text of the draft, with the same characters, leaves a draft like it
module _ (k : ℕ) (t x : TextFields) (w m : Working) (sound : IsSound w) (fit : Fit w) (same : x.text ≡ t.text)
    (e : set_step k (fields.Text x) w ≡ Ok m) where
  left_so : (option_or (set_fault k (fields.Text x) w.forest) (over_limits (characters_of (fields.Text x)) w) ≡ None)
      × (fields_written k (fields.Text x) (characters_of (fields.Text x)) (set_points k (fields.Text x)) w ≡ m)
  unfolding set_step
  left_so = answered (option_or (set_fault k (fields.Text x) w.forest) (over_limits (characters_of (fields.Text x)) w))
      (fields_written k (fields.Text x) (characters_of (fields.Text x)) (set_points k (fields.Text x)) w) m e

  set_sound : IsSound m
  set_sound =
      let after = (stays_set k x w m fit e).fit in
      let more : ℕ = characters_of (fields.Text x) in
      let allowed : w.written + more ≤ most_written =
      written-allowed more w (both_none (set_fault k (fields.Text x) w.forest) (over_limits more w) left_so.0).1 in
      let now : m.written ≡ w.written + more =
      sym (ap (λ (z : Working). z.written) left_so.1)
      ∙ written_still (differ (fields_of w.forest k) (fields.Text x)) w.forest k (wrote more w) in
      record { ready = after.ready; held = after.held; short = after.short; written = omega (arith, now, allowed) }

  set_selects : (from to format : ℕ) → is_offset from t.text ≡ true → is_offset to t.text ≡ true → Selects k from to format w
      → Selects k from to format m
  set_selects from to format first second is =
      let start = point_still k from x.text (ap (is_offset from) same ∙ first) in
      let end = point_still k to x.text (ap (is_offset to) same ∙ second) in
      let now : m.selection ≡ set_points k (fields.Text x) w.selection = sym (ap (λ (z : Working). z.selection) left_so.1) in
      elim is [
        | inl forward ↦ inl (now ∙ ap (set_points k (fields.Text x)) forward ∙ ap₂ (λ a b. Range a b format) start end)
        | inr backward ↦ inr (now ∙ ap (set_points k (fields.Text x)) backward ∙ ap₂ (λ a b. Range a b format) end start)
      ]

-- the format of the selection is its own
format_sound : (last : ℕ) (m : Working) → IsSound m → IsSound (selection_format last m)
format_sound last m sound = record {
  ready = record { in_order = sound.ready.in_order; free = sound.ready.free };
  held = sound.held;
  short = sound.short;
  written = sound.written;
}

format_selects : (last k from to format : ℕ) (m : Working) → Selects k from to format m → Selects k from to last (selection_format last m)
format_selects last k from to format m is = elim is [
  | inl forward ↦ inl (ap (with_format last) forward)
  | inr backward ↦ inr (ap (with_format last) backward)
]

-- ---- once

-- the whole text has its format switched, and is selected still
pub record IsOnce (bit k : ℕ) (t : TextFields) (w u : Working) : Type 0 where
  pub forest : u.forest ≡ with_fields k (fields.Text (record t { format = turned bit t.format })) w.forest
  pub last : ℕ
  pub selected : IsSelectedIn k 0 (text_length t.text) last (record t { format = turned bit t.format }) u

once : (bit k format : ℕ) (t : TextFields) (w u : Working) → IsSelectedIn k 0 (text_length t.text) format t w → format_text_step bit w ≡ Ok u
    → IsOnce bit k t w u
once bit k format t w u is e =
    let n : ℕ = text_length t.text in
    let x : TextFields = record t { format = turned bit t.format } in
    let f : Forest = w.forest in
    let here : text_in (label_of f k) ≡ Some t = text_of_normal f k t is.normal in
    let text = text_at f k t here in
    let m = met bit k 0 n format t w u is e in
    let one : formatted bit (piece k 0 n ∷ []) format w ≡ Ok u =
    sym (ap (λ ps. formatted bit ps format w) (pieces_one f k 0 n is.some)) ∙ m.done in
    let s = switched_one bit k 0 n format t w u is.normal one in
    let long : characters_at f k ≡ n = characters_said w k is.sound ∙ ap (λ o. text_length (text_of o)) text.fields_are in
    let none : (nat_lt 0 n && nat_lt n (characters_at f k)) ≡ false = grind (arith, nat_tests, long) in
    let cut : split_step k [] w ≡ Ok s.0 = sym (ap (λ b. split_step k (cond b (n ∷ []) []) w) none) ∙ s.1.split in
    let same : w ≡ s.0 = was_same w s.0 (cut_up k [] w s.0 cut).cut in
    let left = s.1.left t (ap (λ (z : Working). fields_of z.forest k) (sym same) ∙ text.fields_are) refl in
    let mid : Working = left.0 in
    let last : ℕ = left.1.0 in
    let set : set_step k (fields.Text x) w ≡ Ok mid = ap (λ z. set_step k (fields.Text x) z) same ∙ left.1.1.0 in
    let end : selection_format last mid ≡ u = left.1.1.1 in
    let fit : Fit w = record { ready = is.sound.ready; held = is.sound.held; short = is.sound.short; lying = m.lying } in
    let forest : u.forest ≡ with_fields k (fields.Text x) f =
    sym (ap (λ (z : Working). z.forest) end) ∙ sym (ap (λ (z : Working). z.forest) (left_so k t x w mid is.sound fit refl set).1) in
    let kind : kind_of u.forest k ≡ Some kinds.Text = ap (λ g. kind_of g k) forest ∙ kind_of-with_fields k (fields.Text x) f k ∙ text.kind_is in
    let own : eqb k k ≡ true = grind (arith, eqb_tells k k) in
    let now : fields_of u.forest k ≡ Some (fields.Text x) =
    ap (λ g. fields_of g k) forest ∙ fields_of-with_fields k (fields.Text x) f k
    ∙ ap₂ (λ b o. option_map (λ old. cond b (fields.Text x) old) o) own text.fields_are in
    let selects : Selects k 0 n last (selection_format last mid) =
    format_selects last k 0 n format mid (set_selects k t x w mid is.sound fit refl set 0 n format
    (place_lies f k 0 t here m.first).0 (place_lies f k n t here m.second).0 is.selects) in
    record {
      forest = forest;
      last = last;
      selected = record {
        sound = subst IsSound end (format_sound last mid (set_sound k t x w mid is.sound fit refl set));
        normal = ap if_normal (text_by u.forest k x kind now) ∙ ap (λ b. cond b (Some x) None) (if_normal_tells (text_in (label_of f k)) t is.normal);
        some = is.some;
        selects = subst (Selects k 0 n last) end selects;
      };
    }

-- ---- twice

as_before : (i k format : ℕ) (t : TextFields) (w u v : Working) → IsSelectedIn k 0 (text_length t.text) format t w
    → has_bit (excluded (2 ^ i)) t.format ≡ false → format_text_step (2 ^ i) w ≡ Ok u → format_text_step (2 ^ i) u ≡ Ok v → IsAsBefore w v
as_before i k format t w u v is free first second =
    let f : Forest = w.forest in
    let x : TextFields = record t { format = turned (2 ^ i) t.format } in
    let a = once (2 ^ i) k format t w u is first in
    let b = once (2 ^ i) k a.last x u v a.selected second in
    let back : turned (2 ^ i) (turned (2 ^ i) t.format) ≡ t.format = told-back i t.format free in
    let forest : v.forest ≡ with_fields k (fields.Text t) (with_fields k (fields.Text x) f) =
    b.forest ∙ ap₂ (λ n g. with_fields k (fields.Text (record t { format = n })) g) back a.forest in
    let g : Forest = with_fields k (fields.Text x) f in
    let text = text_at f k t (text_of_normal f k t is.normal) in
    record {
      kind = λ q. ap (λ h. kind_of h q) forest ∙ kind_of-with_fields k (fields.Text t) g q ∙ kind_of-with_fields k (fields.Text x) f q;
      fields = λ q. ap (λ h. fields_of h q) forest ∙ fields_of-with_fields k (fields.Text t) g q
          ∙ ap (option_map (λ old. cond (eqb q k) (fields.Text t) old)) (fields_of-with_fields k (fields.Text x) f q)
          ∙ elim (eqb_tells q k) [
            | inl own ↦
                let here : fields_of f q ≡ Some (fields.Text t) = ap (fields_of f) own.1 ∙ text.fields_are in rw (own.0, here) refl
            | inr other ↦ rw other.0 (by_fields (fields_of f q))
          ];
      parent = λ q. ap (λ h. parent_of h q) forest ∙ parent_of-with_fields k (fields.Text t) g q ∙ parent_of-with_fields k (fields.Text x) f q;
      children = λ q. ap (λ h. children_of h q) forest ∙ children_of-with_fields k (fields.Text t) g q ∙ children_of-with_fields k (fields.Text x) f q;
    } where
      by_fields : (o : Option Fields) → option_map (λ old. cond false (fields.Text t) old)
          (option_map (λ old. cond false (fields.Text (record t { format = turned (2 ^ i) t.format })) old) o) ≡ o
      by_fields None = refl
      by_fields (Some y) = refl

pub told-formats : FormattingIsExact
told-formats = record {
  switched_there = λ bit k from to format t w v is e. formatted_in bit k from to format t w v is e;
  has_it = λ i format. told-has_it i format;
  back = λ i format free. told-back i format free;
  twice = λ i k format t w u v is free first second. as_before i k format t w u v is free first second;
}
