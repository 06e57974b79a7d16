-- Typing at a caret in a text: the text there has it, and the caret is after it.
use Rattle.lx_blocks.specs.Ranges.{at_anchor, at_anchor_of, caret_at, normal_at}
use Rattle.lx_caret.proofs.Fit.{after_tells}
use Rattle.lx_caret.specs.Inserting.{insert_text_step, is_of_format, typed, typed_into, typed_new}
use Rattle.lx_caret.specs.Removing.{remove_text_step}
use Rattle.lx_caret_laws.proofs.AtCaret.{IsTaken, at_caret, place_lies}
use Rattle.lx_caret_laws.proofs.EditedIn.{edited_around}
use Rattle.lx_forest.proofs.Order.{IsForest-with_fields}
use Rattle.lx_caret_laws.proofs.Spliced.{only_reads, reads_itself, text_of_normal, was_spliced}
use Rattle.lx_caret_laws.specs.Carets.{HasCaret, OnlyReads}
use Rattle.lx_caret_laws.specs.Typing.{IsTyped}
use Rattle.lx_caret_laws.specs.Reading.{ReadsBetween}
use Rattle.lx_draft.specs.Faults.{text_in}
use Rattle.lx_draft.specs.Selecting.{length_told}
use Rattle.lx_draft.specs.Steps.{splice_points, splice_step}
use Rattle.lx_draft.specs.Working.{Working}
use Rattle.lx_edit.specs.Edits.{text_point}
use Rattle.lx_edit.specs.Texts.{has_no_text}
use Rattle.lx_edit_laws.proofs.WrapSteps.{was_same}
use Rattle.lx_forest.specs.Lookups.{IsForest, label_of}
use Rattle.lx_node.specs.Limits.{last_u32}
use Rattle.lx_node.specs.declared.cause.Point.{Point}
use Rattle.lx_node.specs.declared.fields.TextFields.{TextFields}
use Rattle.lx_select.specs.Rules.{offset_sum}
use Rattle.lx_select.specs.Selection.{each_point}
use Rattle.lx_select.specs.declared.selection.Selection.TheVariants.{Range}
use Rattle.lx_text.proofs.Places.{length-none, parts}
use Rattle.lx_text.proofs.Told.{offset_within, piece_of, splice-length, told-all}
use Rattle.lx_text.specs.Texts.{front_of, is_offset, rest_of, slice_fault, spliced_text, text_length}
use Rattle.std.proofs.Common.{List, None, Ok, Some, [], ap, append-nil, arith, cond, subst, sym, true, ℕ, ◌++◌, ◌+◌, ◌∙◌, ◌∷◌, ◌≡◌, ◌≤◌}
use Rattle.std.proofs.lemmas.Bool.Decides.{eqb_tells, nat_tests}

-- ---- offsets

-- the place after what is typed, which no offset is too small for
behind_typed : (typed text : List ℕ) (at : ℕ) → slice_fault text at at ≡ None → text_length (spliced_text at at typed text) ≤ last_u32
    → offset_sum at (length_told typed) ≡ at + text_length typed
unfolding offset_sum
behind_typed typed text at piece few =
    let length = splice-length at at typed text piece in
    let within : at ≤ text_length text = offset_within at text (piece_of at at text piece).first in
    let all : length_told typed ≡ text_length typed = told-all typed (omega (arith, length, few, within)) in
    omega (arith, all, length, few, within)

-- ---- what is typed

-- a text was typed into another
pub record IsInto (typed : List ℕ) (k at : ℕ) (t : TextFields) (w v : Working) : Type 0 where
  pub read : OnlyReads k (front_of at t.text ++ typed ++ rest_of at t.text) w.forest v.forest
  pub caret : HasCaret k (at + text_length typed) t.format v
  pub piece : slice_fault t.text at at ≡ None
  pub ordered : IsForest v.forest

into : (typed : List ℕ) (k at : ℕ) (t : TextFields) (w v : Working) → IsTyped typed k at t w v → typed_into typed (text_point k at) w ≡ Ok v
    → IsInto typed k at t w v
unfolding typed_into spliced_text
into typed k at t w v is e =
    let there : Point = text_point k (offset_sum at (length_told typed)) in
    let first = after_tells (splice_step k at at typed w) (λ u. Ok (caret_at there u)) v e in
    let here : text_in (label_of w.forest k) ≡ Some t = text_of_normal w.forest k t is.normal in
    let s = was_spliced k at at typed t w first.0 is.sound.short here first.1.0 in
    let left : caret_at there first.0 ≡ v = was_same (caret_at there first.0) v first.1.1 in
    record {
      read = subst (λ g. OnlyReads k (spliced_text at at typed t.text) w.forest g) (sym s.forest ∙ ap (λ u. u.forest) left)
          (only_reads w.forest k t (spliced_text at at typed t.text) here);
      caret = sym (ap (λ u. u.selection) left)
          ∙ ap (each_point (λ p. there)) (s.selection ∙ ap (splice_points k at at typed) is.caret)
          ∙ ap (λ o. Range (text_point k o) (text_point k o) t.format) (behind_typed typed t.text at s.piece s.few);
      piece = s.piece;
      ordered = subst IsForest (sym s.forest ∙ ap (λ u. u.forest) left) (IsForest-with_fields k _ w.forest is.sound.ready.in_order);
    }

no_fault_at : (text : List ℕ) (at : ℕ) → is_offset at text ≡ true → slice_fault text at at ≡ None
no_fault_at text at e = grind (arith, nat_tests, e)

none_typed : (k at : ℕ) (t : TextFields) (w v : Working) → IsTyped [] k at t w v → is_offset at t.text ≡ true → w ≡ v → IsInto [] k at t w v
none_typed k at t w v is place same =
    let here : text_in (label_of w.forest k) ≡ Some t = text_of_normal w.forest k t is.normal in
    let all : t.text ≡ front_of at t.text ++ [] ++ rest_of at t.text =
    sym (ap (λ cs. cs ++ rest_of at t.text) (append-nil (front_of at t.text)) ∙ parts at t.text) in
    subst (IsInto [] k at t w) same (record {
      read = subst (λ now. OnlyReads k now w.forest w.forest) all (reads_itself w.forest k t here);
      caret = is.caret ∙ ap (λ o. Range (text_point k o) (text_point k o) t.format) (omega (arith, length-none));
      piece = no_fault_at t.text at place;
      ordered = is.sound.ready.in_order;
    })

-- the command
pub record IsRead (typed : List ℕ) (k at : ℕ) (t : TextFields) (w v : Working) : Type 0 where
  pub taken : IsTaken (text_point k at) (text_point k at) t.format w
  pub into : IsInto typed k at t w v

by_format : (typed' : List ℕ) (k at : ℕ) (t : TextFields) (w v : Working) → IsTyped typed' k at t w v
    → at_anchor (typed typed') w ≡ Ok v → typed_into typed' (text_point k at) w ≡ Ok v
unfolding typed
by_format text k at t w v is e =
    let p : Point = text_point k at in
    let anchored : typed text p t.format w ≡ Ok v = sym (ap (λ s. at_anchor_of s (typed text) w) is.caret) ∙ e in
    let own : is_of_format t.format (normal_at w.forest k) ≡ true =
    ap (is_of_format t.format) is.normal ∙ grind (arith, eqb_tells t.format t.format) in
    sym (ap (λ b. cond b (typed_into text p w) (typed_new text t.format p w)) own) ∙ anchored

pub is_read : (typed : List ℕ) (k at : ℕ) (t : TextFields) (w v : Working) → IsTyped typed k at t w v → IsRead typed k at t w v
unfolding insert_text_step
is_read text k at t w v is =
    let first = after_tells (remove_text_step w) (λ u. cond (has_no_text text) (Ok u) (at_anchor (typed text) u)) v is.done in
    let caret = at_caret (text_point k at) t.format w first.0 is.caret first.1.0 in
    let next : cond (has_no_text text) (Ok w) (at_anchor (typed text) w) ≡ Ok v =
    ap (λ u. cond (has_no_text text) (Ok u) (at_anchor (typed text) u)) caret.1 ∙ first.1.1 in
    let place = place_lies w.forest k at t (text_of_normal w.forest k t is.normal) caret.0.anchor in
    record { taken = caret.0; into = by_text place.0 text is next } where
      by_text : is_offset at t.text ≡ true → (text : List ℕ) → IsTyped text k at t w v
          → cond (has_no_text text) (Ok w) (at_anchor (typed text) w) ≡ Ok v → IsInto text k at t w v
      by_text place [] is next = none_typed k at t w v is place (was_same w v next)
      by_text place (c ∷ cs) is next = into (c ∷ cs) k at t w v is (by_format (c ∷ cs) k at t w v is next)

-- what is read around a text that one types in
pub into_around : (typed : List ℕ) (k at : ℕ) (t : TextFields) (w v : Working) → IsTyped typed k at t w v
    → ReadsBetween (text_point k at) (text_point k at) typed w.forest v.forest
into_around typed k at t w v is =
    let into = (is_read typed k at t w v is).into in
    edited_around w.forest v.forest k at at typed t is.sound.ready.in_order into.ordered is.sound.held
    (text_of_normal w.forest k t is.normal) into.piece
    into.read
