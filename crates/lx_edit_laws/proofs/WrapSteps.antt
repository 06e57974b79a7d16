-- What one step leaves of a forest: a node taken out, put before another, and moved.
use Rattle.std.proofs.Common.{◌≡◌, ◌≢◌, ◌∙◌, ℕ, true, false, List, [], Option, None, Some, Result, Ok, refl, sym, ap, subst, arith, inl, inr}
use Rattle.std.specs.Prelude.{slice_get, option_map}
use Rattle.std.specs.Option.{option_or}
use Rattle.std.proofs.lemmas.Bool.Decides.{eqb_tells}
use Rattle.std.proofs.lemmas.Option.{slice_get_past}
use Rattle.lx_node.specs.Kinds.{is_text, is_element, may_hold, may_be_empty, is_item}
use Rattle.lx_node.specs.declared.kind.Kind.{Kind}
use Rattle.lx_node.specs.declared.kind.Kind.TheVariants as kinds
use Rattle.lx_node.specs.declared.fields.Fields.{Fields}
use Rattle.lx_node.specs.declared.cause.Cause.{Cause}
use Rattle.lx_forest.specs.Forest.{Forest, Label}
use Rattle.lx_forest.specs.Lookups.{label_of, kind_of, parent_of, children_of, size_of, IsForest}
use Rattle.lx_forest.specs.Edits.{take_out, put_in, CanPut}
use Rattle.lx_forest.proofs.Lookups.{parent_of-take_out}
use Rattle.lx_forest.proofs.Order.{IsForest-take_out}
use Rattle.lx_forest.proofs.Walks.{cases_option}
use Rattle.lx_links.specs.Faults.{unknown, not_below, detach_fault, misfit}
use Rattle.lx_draft.specs.Working.{Working}
use Rattle.lx_draft.specs.Selecting.{unlike}
use Rattle.lx_draft.specs.Faults.{answer, after, over_counts, put_fault, text_fields, text_in}
use Rattle.lx_draft.specs.Steps.{node_taken, node_placed, take_step, put_step}
use Rattle.lx_draft.specs.Beside.{gap_index, put_before_step}
use Rattle.lx_draft.proofs.Covered.{answered}
use Rattle.lx_draft.proofs.Put.{both_none, can_put}
use Rattle.lx_draft.proofs.Gaps.{gap_at, child_of, before_is, before_none}
use Rattle.lx_edit.specs.Edits.{moved_before, moved_to_end, may_not_be_left}
use Rattle.lx_edit.specs.Texts.{text_or_none}
use Rattle.lx_edit.proofs.Climbed.{first_part}
use Rattle.lx_edit_laws.specs.Reading.{text_at}
use Rattle.lx_edit_laws.proofs.WrapTrees.{WasMoved}

-- ---- one after another

-- a step that nothing refused beforehand
pub was_allowed : (o : Option Cause) (w v : Working) (next : Working → Result Working Cause) → after (answer o w) next ≡ Ok v → (o ≡ None) × (next w ≡ Ok v)
was_allowed None w v next e = (refl, e)
was_allowed (Some cause) w v next e = absurd (cc)

pub was_same : (w v : Working) → ◌≡◌ {A = Result Working Cause} (Ok w) (Ok v) → w ≡ v
was_same w v e = cc

-- ---- take and put

pub has_above : (f : Forest) (k : ℕ) → not_below f k ≡ None → (p : ℕ) × (parent_of f k ≡ Some p)
has_above f k none =
    elim (cases_option (parent_of f k)) [
      | inl top ↦ absurd (grind (arith, none, top))
      | inr found ↦ found
    ]

pub was_taken : (k : ℕ) (w v : Working) → take_step k w ≡ Ok v → (v.forest ≡ take_out k w.forest) × ((p : ℕ) × (parent_of w.forest k ≡ Some p))
unfolding take_step
was_taken k w v e =
    let told = answered (option_or (detach_fault k w.forest) (over_counts w)) (node_taken k w) v e in
    let none = both_none (unknown w.forest k) (not_below w.forest k) (both_none (detach_fault k w.forest) (over_counts w) told.0).0 in
    (sym (ap (λ (x : Working). x.forest) told.1), has_above w.forest k none.1)

pub was_put : (k p index : ℕ) (w v : Working) → put_step k p index w ≡ Ok v
    → CanPut p k w.forest × (v.forest ≡ put_in p (slice_get (children_of w.forest p) index) k w.forest)
unfolding put_step
was_put k p index w v e =
    let told = answered (option_or (put_fault k p index w.forest) (over_counts w)) (node_placed k p index w) v e in
    (can_put w.forest k p index (both_none (put_fault k p index w.forest) (over_counts w) told.0).0, sym (ap (λ (x : Working). x.forest) told.1))

pub was_put_before : (k other p : ℕ) (w v : Working) → IsForest w.forest → parent_of w.forest other ≡ Some p → put_before_step k other w ≡ Ok v
    → CanPut p k w.forest × (v.forest ≡ put_in p (Some other) k w.forest)
was_put_before k other p w v h up e =
    let xs : List ℕ = children_of w.forest p in
    let put = was_put k p (gap_index (Some other) xs) w v (before_is w k p other h up ∙ e) in
    (put.0, put.1 ∙ ap (λ o. put_in p o k w.forest) (sym (gap_at (Some other) xs (child_of w.forest p other h up))))

-- what another is put before is below something
pub before_below : (k other : ℕ) (w v : Working) → put_before_step k other w ≡ Ok v → (p : ℕ) × (parent_of w.forest other ≡ Some p)
before_below k other w v e =
    elim (cases_option (parent_of w.forest other)) [
      | inl top ↦ absurd (cc (before_none w k other top))
      | inr found ↦ found
    ]

-- ---- a node that is moved

-- a node that was taken, and put elsewhere
pub was_moved : (k p : ℕ) (before : Option ℕ) (w u v : Working) → take_step k w ≡ Ok u → CanPut p k u.forest → v.forest ≡ put_in p before k u.forest
    → WasMoved w.forest v.forest p k before
was_moved k p before w u v e can put =
    let taken =
    was_taken k w u e in record { above = taken.1.0; up = taken.1.1; can = subst (CanPut p k) taken.0 can; is = put ∙ ap (put_in p before k) taken.0 }

-- where the others are once it was taken
pub still_there : (k other p : ℕ) (w v : Working) → IsForest w.forest → parent_of w.forest other ≡ Some p → other ≢ k → take_step k w ≡ Ok v
    → IsForest v.forest × (parent_of v.forest other ≡ Some p)
still_there k other p w v h up apart e =
    let taken = was_taken k w v e in (
      subst IsForest (sym taken.0) (IsForest-take_out k w.forest h),
      ap (λ f. parent_of f other) taken.0 ∙ parent_of-take_out k w.forest other h ∙ grind (arith, up, apart, eqb_tells other k),
    )

pub was_moved_to_end : (to k : ℕ) (w v : Working) → moved_to_end to k w ≡ Ok v → WasMoved w.forest v.forest to k None
unfolding moved_to_end
was_moved_to_end to k w v e =
    let a = first_part (take_step k w) (λ u. put_step k to (size_of u.forest to) u) v e in
    let put = was_put k to (size_of a.0.forest to) a.0 v a.2 in
    was_moved k to None w a.0 v a.1 put.0
    (put.1 ∙ ap (λ o. put_in to o k a.0.forest) (slice_get_past (children_of a.0.forest to) (size_of a.0.forest to) (omega arith)))

pub was_moved_before : (other k p : ℕ) (w v : Working) → IsForest w.forest → parent_of w.forest other ≡ Some p → other ≢ k → moved_before other k w ≡ Ok v
    → WasMoved w.forest v.forest p k (Some other)
unfolding moved_before
was_moved_before other k p w v h up apart e =
    let a = first_part (take_step k w) (put_before_step k other) v e in
    let still = still_there k other p w a.0 h up apart a.1 in
    let put = was_put_before k other p a.0 v still.0 still.1 a.2 in
    was_moved k p (Some other) w a.0 v a.1 put.0 put.1

-- ---- what has no text

text_of_kind : (kind : Kind) (fields : Fields) → is_text kind ≡ false → text_or_none (text_fields kind fields) ≡ []
unfolding is_text
text_of_kind kinds.Text fields e = absurd (cc)
text_of_kind kind fields e = refl

pub silent : (f : Forest) (k : ℕ) → ((kind : Kind) → kind_of f k ≡ Some kind → is_text kind ≡ false) → text_at f k ≡ []
silent f k other = by_label (label_of f k) refl where
  by_label : (o : Option Label) → label_of f k ≡ o → text_or_none (text_in o) ≡ []
  by_label None is = refl
  by_label (Some l) is = text_of_kind l.kind l.fields (other l.kind (ap (option_map (λ (x : Label). x.kind)) is))

-- an element has none, nor has what may hold something, or may not be left without children
element_silent : (outer inner : Kind) → (is_element outer ≡ true → is_text outer ≡ false) × (may_hold outer inner ≡ true → is_text outer ≡ false)
unfolding is_element may_hold is_text
element_silent kinds.Text inner = (λ e. absurd (cc), λ e. absurd (cc))
element_silent outer inner = (λ e. refl, λ e. refl)

gone_silent : (outer : Kind) (inner : Option Kind) → may_not_be_left (Some outer) inner ≡ true → is_text outer ≡ false
unfolding may_be_empty is_item is_text
gone_silent outer None e = absurd (cc)
gone_silent kinds.Text (Some inner) e = absurd (cc)
gone_silent outer (Some inner) e = refl

pub silent_element : (f : Forest) (k : ℕ) → unlike is_element (kind_of f k) ≡ None → text_at f k ≡ []
silent_element f k none = silent f k (λ kind is. (element_silent kind kind).0 (grind (arith, none, is)))

pub silent_holder : (f : Forest) (k : ℕ) (inner : Kind) → misfit (kind_of f k) (Some inner) ≡ None → text_at f k ≡ []
silent_holder f k inner none = silent f k (λ kind is. (element_silent kind inner).1 (grind (arith, none, is)))

pub silent_gone : (f : Forest) (k : ℕ) (inner : Option Kind) → may_not_be_left (kind_of f k) inner ≡ true → text_at f k ≡ []
silent_gone f k inner goes = silent f k (λ kind is. gone_silent kind inner (ap (λ o. may_not_be_left o inner) (sym is) ∙ goes))
