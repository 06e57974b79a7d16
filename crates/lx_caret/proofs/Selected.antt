-- The whole content that is selected lies in the tree.
use Rattle.std.proofs.Common.{◌≡◌, ◌≢◌, ◌∙◌, ℕ, ◌+◌, ◌≤◌, ◌<◌, Bool, true, false, cond, eqb, leb, ◌&&◌, List, [], ◌∷◌, Option, None, Some, refl, sym, ap, ap₂, subst, arith}
use Rattle.std.specs.Prelude.{find}
use Rattle.std.proofs.lemmas.Bool.Decides.{eqb_tells, nat_tests}
use Rattle.lx_trees.specs.Siblings.{is_among, last_from, last_of}
use Rattle.lx_node.specs.Kinds.{may_hold, is_element, is_text}
use Rattle.lx_node.specs.declared.cause.Point.{Point}
use Rattle.lx_node.specs.declared.cause.PointKind.TheVariants as point
use Rattle.lx_select.specs.declared.selection.Selection.TheVariants.{Range}
use Rattle.lx_forest.specs.Forest.{Forest}
use Rattle.lx_forest.specs.Lookups.{kind_of, fields_of, parent_of, index_of, size_of, preorder, is_attached, IsForest, IsHeld}
use Rattle.lx_forest.proofs.Order.{is_attached-root}
use Rattle.lx_forest.proofs.Walks.{is_attached-up, is_among-preorder_of}
use Rattle.lx_draft.specs.Selecting.{is_counted_in, select_fault}
use Rattle.lx_draft.specs.Steps.{select_step}
use Rattle.lx_draft.proofs.Covered.{answered}
use Rattle.lx_edit.specs.Edits.{text_point, element_point}
use Rattle.lx_blocks.specs.Blocks.{passes, is_at}
use Rattle.lx_blocks.specs.Ranges.{lies, characters_at}
use Rattle.lx_blocks.proofs.Blocked as blocked
use Rattle.lx_caret.specs.Lying.{IsLying, LeavesLying}
use Rattle.lx_caret.specs.SelectAll.{first_leaf, last_leaf, place_at, start_at, end_at, select_all_step}
use Rattle.lx_caret.proofs.Lies.{least, start_in, end_in, index_within}
use Rattle.lx_caret.proofs.Moves.{stands}
use Rattle.lx_caret.proofs.Parents.{parents_are, element_counts, text_counts, above_attached}

pub found_among : (test : ℕ → Bool) (xs : List ℕ) (k : ℕ) → find test xs ≡ Some k → is_among k xs ≡ true
found_among test xs k e = blocked.found_among test xs k e

last_known : (x : ℕ) (xs : List ℕ) (k : ℕ) → last_from (Some x) xs ≡ Some k → is_among k (x ∷ xs) ≡ true
last_known x [] k e = let same : x ≡ k = cc in grind (arith, same, eqb_tells x k)
last_known x (y ∷ xs) k e = grind (arith, last_known y xs k e)

pub last_among : (xs : List ℕ) (k : ℕ) → last_of xs ≡ Some k → is_among k xs ≡ true
last_among [] k e = absurd (cc)
last_among (x ∷ xs) k e = last_known x xs k e

module _ (f : Forest) (h : IsForest f) (held : IsHeld may_hold f) where
  root_place : lies f (element_point 0 0) ≡ true
  unfolding is_element
  root_place = ap₂ ◌&&◌ (is_attached-root f h) (ap₂ ◌&&◌ (ap (is_counted_in point.Element) h.root) (least (size_of f 0)))

  root_is : (k : ℕ) → is_at is_element f k ≡ false → k ≢ 0
  unfolding is_element
  root_is k leaf = λ same. let bad : true ≡ false = sym (ap (passes is_element) h.root) ∙ ap (is_at is_element f) (sym same) ∙ leaf in absurd (cc)

  -- beside a leaf there is a place in its parent
  leaf_place : (k more : ℕ) → more ≤ 1 → is_attached f k ≡ true → is_at is_element f k ≡ false → lies f (place_at more k (parent_of f k) (index_of f k)) ≡ true
  leaf_place k more few place leaf =
      let above = above_attached f k h place (root_is k leaf) in
      let at = stands f k above.0 h above.1 in
      let inside : at.0 < size_of f above.0 = index_within f k above.0 at.0 above.1 at.1 in
      let within : leb (at.0 + more) (size_of f above.0) ≡ true = grind (arith, nat_tests, inside, few) in
      ap₂ (λ p i. lies f (place_at more k p i)) above.1 at.1
      ∙ ap₂ ◌&&◌ (sym (is_attached-up f k above.0 h above.1) ∙ place) (ap₂ ◌&&◌ (parents_are f k above.0 held above.1) within)

  start_lies : (o : Option ℕ) → ((k : ℕ) → o ≡ Some k → is_attached f k ≡ true) → lies f (start_at f o) ≡ true
  start_lies None place = root_place
  start_lies (Some k) place = by_kind (is_at is_text f k) (is_at is_element f k) refl refl where
    by_kind : (t e : Bool) → is_at is_text f k ≡ t → is_at is_element f k ≡ e
        → lies f (cond t (text_point k 0) (cond e (element_point k 0) (place_at 0 k (parent_of f k) (index_of f k)))) ≡ true
    by_kind true e text element = ap₂ ◌&&◌ (place k refl) (ap₂ ◌&&◌ (text_counts (kind_of f k) text) (start_in (fields_of f k)))
    by_kind false true text element = ap₂ ◌&&◌ (place k refl) (ap₂ ◌&&◌ (element_counts (kind_of f k) element) (least (size_of f k)))
    by_kind false false text element = leaf_place k 0 (omega arith) (place k refl) element

  end_lies : (o : Option ℕ) → ((k : ℕ) → o ≡ Some k → is_attached f k ≡ true) → lies f (end_at f o) ≡ true
  end_lies None place = root_place
  end_lies (Some k) place = by_kind (is_at is_text f k) (is_at is_element f k) refl refl where
    by_kind : (t e : Bool) → is_at is_text f k ≡ t → is_at is_element f k ≡ e
        → lies f (cond t (text_point k (characters_at f k)) (cond e (element_point k 0) (place_at 1 k (parent_of f k) (index_of f k)))) ≡ true
    by_kind true e text element = ap₂ ◌&&◌ (place k refl) (ap₂ ◌&&◌ (text_counts (kind_of f k) text) (end_in (fields_of f k)))
    by_kind false true text element = ap₂ ◌&&◌ (place k refl) (ap₂ ◌&&◌ (element_counts (kind_of f k) element) (least (size_of f k)))
    by_kind false false text element = leaf_place k 1 (omega arith) (place k refl) element

  first_attached : (k : ℕ) → first_leaf f 0 ≡ Some k → is_attached f k ≡ true
  first_attached k e = sym (is_among-preorder_of f k) ∙ found_among (λ q. eqb (size_of f q) 0) (preorder f) k e

  last_attached : (k : ℕ) → last_leaf f 0 ≡ Some k → is_attached f k ≡ true
  last_attached k e = sym (is_among-preorder_of f k) ∙ last_among (preorder f) k e

pub lies-select_all : LeavesLying select_all_step
unfolding select_all_step select_step
lies-select_all w v ready held short e =
    let f : Forest = w.forest in
    let a : Point = start_at f (first_leaf f 0) in
    let b : Point = end_at f (last_leaf f 0) in
    let told = answered (select_fault (Range a b 0) f) (record w { selection = Range a b 0 }) v e in
    subst IsLying told.1
    (start_lies f ready.in_order held (first_leaf f 0) (first_attached f ready.in_order held), end_lies f ready.in_order held (last_leaf f 0) (last_attached f ready.in_order held))
