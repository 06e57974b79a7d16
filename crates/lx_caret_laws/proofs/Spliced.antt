-- A piece of a text is replaced: what the text reads then, and that nothing else changes.
use Rattle.lx_caret.proofs.Fit.{spliced_few, spliced}
use Rattle.lx_caret.proofs.Lies.{text_at}
use Rattle.lx_caret.proofs.Short.{u32-tells}
use Rattle.lx_draft.specs.Selecting.{text_of}
use Rattle.lx_caret_laws.specs.Carets.{IsSound, OnlyReads}
use Rattle.lx_blocks.specs.Ranges.{if_normal, normal_at}
use Rattle.lx_draft.proofs.Covered.{answered}
use Rattle.lx_draft.proofs.Put.{both_none}
use Rattle.lx_draft.specs.Faults.{over_limits, splice_fault, text_in}
use Rattle.lx_draft.specs.Steps.{fields_written, label_with_piece, splice_points, splice_step, text_replaced, with_piece}
use Rattle.lx_draft.specs.Working.{Working, TextsAreShort}
use Rattle.lx_edit_laws.proofs.SplitCuts.{label_is}
use Rattle.lx_edit_laws.proofs.WrapTrees.{same_spot_by}
use Rattle.lx_forest.proofs.Lookups.{children_of-with_fields, key-label_of, label_of-with_fields, parent_of-with_fields}
use Rattle.lx_forest.specs.Edits.{fields_at, with_fields}
use Rattle.lx_forest.specs.Forest.{Forest, Label}
use Rattle.lx_forest.specs.Lookups.{label_of, spot}
use Rattle.lx_node.specs.Limits.{last_u32, most_characters}
use Rattle.lx_node.specs.OfKind.{is_normal}
use Rattle.lx_node.specs.declared.kind.Kind.TheVariants as kinds
use Rattle.lx_node.specs.declared.fields.Fields.{Fields}
use Rattle.lx_node.specs.declared.fields.TextFields.{TextFields}
use Rattle.lx_text.specs.Texts.{slice_fault, spliced_text, text_length}
use Rattle.std.proofs.Common.{Bool, List, None, Ok, Option, Some, ap, arith, cond, false, length, option_map, refl, subst, sym, true, ℕ, ◌*◌, ◌+◌, ◌∙◌, ◌≡◌, ◌≢◌, ◌≤◌}
use Rattle.std.proofs.lemmas.Bool.Decides.{eqb_tells}
use Rattle.std.specs.Option.{option_or}

-- a text that is normal is a text
text_if_normal : (o : Option TextFields) (t : TextFields) → if_normal o ≡ Some t → o ≡ Some t
text_if_normal None t e = absurd (cc)
text_if_normal (Some u) t e = by_test (is_normal u.mode) e where
  by_test : (b : Bool) → cond b (Some u) None ≡ Some t → Some u ≡ Some t
  by_test true e = e
  by_test false e = absurd (cc)

pub text_of_normal : (f : Forest) (k : ℕ) (t : TextFields) → normal_at f k ≡ Some t → text_in (label_of f k) ≡ Some t
text_of_normal f k t e = text_if_normal (text_in (label_of f k)) t e

-- an offset can say each place of a text of a sound draft
pub text_few : (w : Working) (k : ℕ) (t : TextFields) → IsSound w → text_in (label_of w.forest k) ≡ Some t → text_length t.text ≤ last_u32
text_few w k t sound here =
    u32-tells (text_length t.text) w.written
    (subst (λ x. text_length (text_of x) ≤ 2 * (most_characters + w.written)) (text_at w.forest k t here).fields_are
    (sound.short.each k)) sound.written

-- ---- the forest

pub label_other : (f : Forest) (k : ℕ) (x : Fields) (q : ℕ) → q ≢ k → label_of (with_fields k x f) q ≡ label_of f q
label_other f k x q other = label_of-with_fields k x f q ∙ by_label (label_of f q) refl where
  by_label : (o : Option Label) → label_of f q ≡ o → option_map (fields_at k x) o ≡ o
  by_label None is = refl
  by_label (Some l) is = grind (arith, other, eqb_tells q k, key-label_of f q l is)

-- a text with other characters is all that is otherwise
pub only_reads : (f : Forest) (k : ℕ) (t : TextFields) (now : List ℕ) → text_in (label_of f k) ≡ Some t
    → OnlyReads k now f (with_fields k (text_replaced t now) f)
only_reads f k t now here =
    let x : Fields = text_replaced t now in
    record {
      text = λ u is.
          let same : t ≡ u = let e : Some t ≡ Some u = sym here ∙ is in cc in
          label_of-with_fields k x f k ∙ ap (option_map (fields_at k x)) (label_is f k t here)
          ∙ grind (arith, same, eqb_tells k k);
      parent = parent_of-with_fields k x f k;
      children = children_of-with_fields k x f k;
      others = λ q other. same_spot_by (spot (with_fields k x f) q) (spot f q) (label_other f k x q other) (parent_of-with_fields k x f q)
          (children_of-with_fields k x f q);
    }

-- a text reads what it reads
pub reads_itself : (f : Forest) (k : ℕ) (t : TextFields) → text_in (label_of f k) ≡ Some t → OnlyReads k t.text f f
reads_itself f k t here = record {
  text = λ u is.
      let same : t ≡ u = let e : Some t ≡ Some u = sym here ∙ is in cc in
      label_is f k t here ∙ ap (λ x. let l : Label = record { key = k; kind = kinds.Text; fields = text_replaced x t.text } in Some l) same;
  parent = refl;
  children = refl;
  others = λ q other. refl;
}

-- ---- the step

-- what a splice leaves of a draft
pub record WasSpliced (k from to : ℕ) (new : List ℕ) (t : TextFields) (w v : Working) : Type 0 where
  pub piece : slice_fault t.text from to ≡ None
  pub forest : v.forest ≡ with_fields k (text_replaced t (spliced_text from to new t.text)) w.forest
  pub selection : v.selection ≡ splice_points k from to new w.selection
  pub few : text_length (spliced_text from to new t.text) ≤ last_u32

pub was_spliced : (k from to : ℕ) (new : List ℕ) (t : TextFields) (w v : Working) → TextsAreShort w → text_in (label_of w.forest k) ≡ Some t
    → splice_step k from to new w ≡ Ok v → WasSpliced k from to new t w v
unfolding splice_step
was_spliced k from to new t w v short here e =
    let x : Fields = label_with_piece (label_of w.forest k) from to new in
    let left : Working = fields_written k x (length new) (splice_points k from to new) w in
    let told = answered (option_or (splice_fault k from to w.forest) (over_limits (length new) w)) left v e in
    let none = both_none (splice_fault k from to w.forest) (over_limits (length new) w) told.0 in
    let s = spliced w.forest k from to none.0 in
    let same : s.text ≡ t = let f : Some s.text ≡ Some t = sym s.text_is ∙ here in cc in
    record {
      piece = ap (λ u. slice_fault u.text from to) (sym same) ∙ s.piece;
      forest = ap (λ u. u.forest) (sym told.1) ∙ ap (λ o. with_fields k (with_piece o from to new) w.forest) here;
      selection = ap (λ u. u.selection) (sym told.1);
      few = subst (λ u. text_length (spliced_text from to new u.text) ≤ last_u32) same (spliced_few k from to new w s short none.1);
    }
