-- The two commands of lists that take nodes out of the tree leave each point of a range there, from these places.
use Rattle.std.proofs.Common.{◌≡◌, ◌∙◌, ℕ, true, false, List, [], ◌∷◌, Option, None, Some, Ok, refl, sym, ap, arith, inl, inr}
use Rattle.std.specs.List.{list_any}
use Rattle.std.proofs.lemmas.Bool.Decides.{eqb_tells}
use Rattle.lx_trees.specs.Siblings.{is_among}
use Rattle.lx_node.specs.Kinds.{may_hold, has_characters, is_item, is_list}
use Rattle.lx_node.specs.declared.kind.Kind.{Kind}
use Rattle.lx_node.specs.declared.kind.Kind.TheVariants as kinds
use Rattle.lx_node.specs.declared.cause.PointKind.TheVariants as point
use Rattle.lx_forest.specs.Forest.{Forest}
use Rattle.lx_forest.specs.Lookups.{kind_of, is_within, is_attached, IsHeld}
use Rattle.lx_draft.specs.Working.{Working, TextsAreShort}
use Rattle.lx_draft.specs.Covering.{IsReady}
use Rattle.lx_draft.specs.Selecting.{lies_in, is_counted_in, is_place}
use Rattle.lx_edit.specs.InTurn.{in_turn}
use Rattle.lx_blocks.specs.declared.ranges.Ranged.{Ranged}
use Rattle.lx_blocks.specs.Lines.{selected_lines}
use Rattle.lx_blocks.specs.Ranges.{lies, range_of}
use Rattle.lx_caret.specs.Lying.{IsLying}
use Rattle.lx_caret.proofs.Cleared.{range_lies, fit_of}
use Rattle.lx_caret.proofs.Fit.{after_tells, each_both, each_still}
use Rattle.lx_caret.proofs.Lies.{both}
use Rattle.lx_list.specs.Lines.{step_if_there, each_line}
use Rattle.lx_list.specs.Dissolving.{outermost_above, dissolved_around, remove_list_step}
use Rattle.lx_list.specs.Indenting.{indented, indent_step}
use Rattle.lx_list_laws.specs.Staying.{goes_with_list, is_in_tree, is_in_list_around, lines_of_range, lines_in, LeavesFrom, SelectionsStay}
use Rattle.lx_list_laws.proofs.StayAhead.{Outside}
use Rattle.lx_list_laws.proofs.StayBetween.{Ahead}
use Rattle.lx_list_laws.proofs.StayDissolved.{lines_remain}
use Rattle.lx_list_laws.proofs.StayGone.{Spared}
use Rattle.lx_list_laws.proofs.StayKeys.{EachKey}
use Rattle.lx_list_laws.proofs.StayLines.{each_line_keeps}
use Rattle.lx_list_laws.proofs.StayWrapped.{indented_ahead}

-- ---- lists are removed

-- by lines alone
removed_from : (w v : Working) → IsReady w → IsHeld may_hold w.forest → TextsAreShort w
    → ((r : Ranged) → range_of w ≡ Ok r → EachKey (Spared w.forest (selected_lines w.forest r)) w) → remove_list_step w ≡ Ok v → IsLying v
unfolding remove_list_step each_line
removed_from w v ready held short places e =
    let f : Forest = w.forest in
    let a = after_tells (range_of w) (λ r. in_turn (step_if_there dissolved_around) (selected_lines f r) w) v e in
    let fit = fit_of w a.0 ready held short (range_lies w a.0 a.1.0) in
    (lines_remain (selected_lines f a.0) w v (record { fit = fit; places = places a.0 a.1.0 }) a.1.1).lying

-- a node in none of the lists around these lines, if it goes with one
around_tells : (f : Forest) (ks : List ℕ) (q line around : ℕ) → is_among line ks ≡ true → outermost_above f line ≡ Some around
    → is_within f around q ≡ true
    → list_any (is_in_list_around f q) ks ≡ true
around_tells f [] q line around among found inside = absurd (cc)
around_tells f (k ∷ ks) q line around among found inside = elim (eqb_tells k line) [
  | inl same ↦
      let here : is_in_list_around f q k ≡ true = ap (is_in_tree f q) (ap (outermost_above f) same.1 ∙ found) ∙ inside in grind (arith, here)
  | inr other ↦
      let later = around_tells f ks q line around (grind (arith, among, other.0)) found inside in grind (arith, later)
]

removed_stays : LeavesFrom (λ w p. list_any (is_in_list_around w.forest p.key) (lines_in w) ≡ true → goes_with_list w.forest p.key ≡ false) remove_list_step
removed_stays w v ready held short places e =
    let f : Forest = w.forest in
    removed_from w v ready held short (λ r is.
    let lines : lines_in w ≡ selected_lines f r = ap (lines_of_range f) is in
    each_still (λ p. list_any (is_in_list_around f p.key) (lines_in w) ≡ true → goes_with_list f p.key ≡ false)
    (λ p. Spared f (selected_lines f r) p.key) w.selection
    (λ p so line around among found inside. so (ap (list_any (is_in_list_around f p.key)) lines
    ∙ around_tells f (selected_lines f r) p.key line around among found inside)) places) e

-- what has characters is no list and no item
characters_stay : (kind : Kind) → has_characters kind ≡ true → (is_list kind ≡ false) × (is_item kind ≡ false)
unfolding has_characters is_list is_item
characters_stay kinds.Text e = (refl, refl)
characters_stay kinds.Tab e = (refl, refl)
characters_stay kind e = absurd (cc)

text_stays : (f : Forest) (q : ℕ) (o : Option Kind) → kind_of f q ≡ o → is_counted_in point.Text o ≡ true → goes_with_list f q ≡ false
text_stays f q None is counted = absurd (cc)
text_stays f q (Some kind) is counted = let so = characters_stay kind counted in grind (arith, is, so.0, so.1)

texts_stay : LeavesFrom (λ w p. p.kind ≡ point.Text) remove_list_step
texts_stay w v ready held short texts e =
    let f : Forest = w.forest in
    removed_from w v ready held short (λ r is.
    each_still (λ p. (lies f p ≡ true) × (p.kind ≡ point.Text)) (λ p. Spared f (selected_lines f r) p.key) w.selection
    (λ p so line around among found within.
    let inside = both (is_attached f p.key) (lies_in f p) so.0 in
    let counted = both (is_counted_in p.kind (kind_of f p.key)) (is_place f p p.kind) inside.1 in
    text_stays f p.key (kind_of f p.key) refl (ap (λ kind. is_counted_in kind (kind_of f p.key)) (sym so.1) ∙ counted.0))
    (each_both (λ p. lies f p ≡ true) (λ p. p.kind ≡ point.Text) w.selection (range_lies w r is).lying texts)) e

-- ---- lines go a level deeper

indented_stays : LeavesFrom (λ w p. Outside w.forest p.key) indent_step
unfolding indent_step
indented_stays w v ready held short places e =
    (each_line_keeps Ahead indented indented_ahead w v
    (λ r is. record { fit = fit_of w r ready held short (range_lies w r is); places = places }) e).fit.lying

pub told-places : SelectionsStay
told-places = record { remove_list = removed_stays; remove_list_in_texts = texts_stay; indent = indented_stays }
