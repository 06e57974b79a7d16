-- What the steps of going deeper and up leave of a forest, in their parts.
use Rattle.std.proofs.Common.{◌≡◌, ◌≢◌, ◌∙◌, ℕ, ◌+◌, true, false, cond, eqb, List, [], ◌∷◌, Option, Some, Ok, refl, sym, ap}
use Rattle.std.specs.Prelude.{slice_get, option_map}
use Rattle.lx_trees.specs.Siblings.{first_of, next_in, names_without}
use Rattle.lx_trees.specs.Spots.{Spot}
use Rattle.lx_node.specs.Strings.{characters_of}
use Rattle.lx_node.specs.declared.kind.Kind.{Kind}
use Rattle.lx_node.specs.declared.fields.Fields.{Fields}
use Rattle.lx_forest.specs.Forest.{Forest, Label}
use Rattle.lx_forest.specs.Lookups.{has, label_of, kind_of, parent_of, children_of, children_below, next_of, ancestors, IsForest}
use Rattle.lx_forest.specs.Edits.{with_new, take_out, put_in}
use Rattle.lx_forest.proofs.Lookups.{kind_of-with_new, parent_of-with_new, children_of-with_new, children_of-take_out}
use Rattle.lx_forest.proofs.Order.{IsForest-with_new}
use Rattle.lx_forest.proofs.Walks.{ancestors-step}
use Rattle.lx_draft.specs.Working.{Working}
use Rattle.lx_draft.specs.Faults.{over_limits}
use Rattle.lx_draft.specs.Steps.{made, new_step, take_step, put_step}
use Rattle.lx_draft.specs.Beside.{gap_index, put_behind_step}
use Rattle.lx_draft.proofs.Covered.{answered}
use Rattle.lx_draft.proofs.Gaps.{gap_at, behind_is, next_is_place}
use Rattle.lx_edit.specs.Edits.{moved_behind, sent_away, goes_too, removed, remove_step}
use Rattle.lx_edit.proofs.Climbed.{first_part, sent_away-forest, taken-forest}
use Rattle.lx_list.specs.Indenting.{moved_to_front}
use Rattle.lx_list.proofs.Itemless.{spot_known}
use Rattle.lx_edit_laws.proofs.WrapSteps.{was_taken, was_put, was_moved, still_there}
use Rattle.lx_edit_laws.proofs.WrapTrees.{WasMoved}

-- ---- new nodes

pub record WasMade (kind : Kind) (fields : Fields) (w v : Working) : Type 0 where
  pub forest : v.forest ≡ with_new (record { key = w.next_key; kind = kind; fields = fields }) w.forest
  pub next : v.next_key ≡ w.next_key + 1
  pub selection : v.selection ≡ w.selection

pub was_made : (kind : Kind) (fields : Fields) (w v : Working) → new_step kind fields w ≡ Ok v → WasMade kind fields w v
unfolding new_step
was_made kind fields w v e =
    let told = answered (over_limits (characters_of fields) w) (made kind fields w) v e in
    record {
      forest = sym (ap (λ (x : Working). x.forest) told.1);
      next = sym (ap (λ (x : Working). x.next_key) told.1);
      selection = sym (ap (λ (x : Working). x.selection) told.1);
    }

-- two new nodes change nothing that is read of the others
module _ (f : Forest) (one two : Label) (h : IsForest f) (free : has one.key f ≡ false) (later : has two.key (with_new one f) ≡ false) where
  one_order : IsForest (with_new one f)
  one_order = IsForest-with_new one f h free

  pub two_order : IsForest (with_new two (with_new one f))
  two_order = IsForest-with_new two (with_new one f) one_order later

  pub two_kind : (q : ℕ) → kind_of (with_new two (with_new one f)) q ≡ cond (eqb q two.key) (Some two.kind) (cond (eqb q one.key) (Some one.kind) (kind_of f q))
  two_kind q = kind_of-with_new two (with_new one f) q one_order later ∙ ap (cond (eqb q two.key) (Some two.kind)) (kind_of-with_new one f q h free)

  pub two_parent : (q : ℕ) → parent_of (with_new two (with_new one f)) q ≡ parent_of f q
  two_parent q = parent_of-with_new two (with_new one f) q one_order later ∙ parent_of-with_new one f q h free

  pub two_children : (q : ℕ) → children_of (with_new two (with_new one f)) q ≡ children_of f q
  two_children q = children_of-with_new two (with_new one f) q one_order later ∙ children_of-with_new one f q h free

-- one that is there has a label
pub label_known : (f : Forest) (k : ℕ) → has k f ≡ true → (l : Label) × (label_of f k ≡ Some l)
label_known f k there = let s = spot_known f k there in (s.0.label, ap (option_map (λ (t : Spot Label). t.label)) s.1)

-- ---- moves

-- right after another: before what comes after that one when the node has left
pub was_moved_behind : (other k p : ℕ) (w v : Working) → IsForest w.forest → parent_of w.forest other ≡ Some p → other ≢ k → moved_behind other k w ≡ Ok v
    → WasMoved w.forest v.forest p k (next_in (names_without k (children_of w.forest p)) other)
unfolding moved_behind
was_moved_behind other k p w v h up apart e =
    let a = first_part (take_step k w) (put_behind_step k other) v e in
    let left = still_there k other p w a.0 h up apart a.1 in
    let still : parent_of a.0.forest other ≡ Some p = left.1 in
    let xs : List ℕ = children_of a.0.forest p in
    let next : Option ℕ = next_of a.0.forest other in
    let put = was_put k p (gap_index next xs) a.0 v (behind_is a.0 k p other next refl left.0 still ∙ a.2) in
    let there : next_of a.0.forest other ≡ next_in (names_without k (children_of w.forest p)) other =
    ap (λ o. next_in (children_below a.0.forest o) other) still ∙ ap (λ f. next_in (children_of f p) other) (was_taken k w a.0 a.1).0
    ∙ ap (λ ys. next_in ys other) (children_of-take_out k w.forest p h) in
    was_moved k p (next_in (names_without k (children_of w.forest p)) other) w a.0 v a.1 put.0
    (put.1 ∙ ap (λ o. put_in p o k a.0.forest) (sym (gap_at next xs (next_is_place a.0.forest p other next refl still)) ∙ there))

first_at : (xs : List ℕ) → slice_get xs 0 ≡ first_of xs
first_at [] = refl
first_at (x ∷ xs) = refl

-- to the front: before what comes first when the node has left
pub was_moved_to_front : (to k : ℕ) (w v : Working) → IsForest w.forest → moved_to_front to k w ≡ Ok v
    → WasMoved w.forest v.forest to k (first_of (names_without k (children_of w.forest to)))
unfolding moved_to_front
was_moved_to_front to k w v h e =
    let a = first_part (take_step k w) (put_step k to 0) v e in
    let put = was_put k to 0 a.0 v a.2 in
    let there : slice_get (children_of a.0.forest to) 0 ≡ first_of (names_without k (children_of w.forest to)) =
    first_at (children_of a.0.forest to) ∙ ap (λ f. first_of (children_of f to)) (was_taken k w a.0 a.1).0
    ∙ ap first_of (children_of-take_out k w.forest to h) in
    was_moved k to (first_of (names_without k (children_of w.forest to))) w a.0 v a.1 put.0 (put.1 ∙ ap (λ o. put_in to o k a.0.forest) there)

-- ---- removed

-- the first of what is removed was taken out
pub was_removed : (k p : ℕ) (w v : Working) → IsForest w.forest → parent_of w.forest k ≡ Some p → remove_step k w ≡ Ok v
    → (mid : Working) × (take_step k (sent_away k w) ≡ Ok mid) × (mid.forest ≡ take_out k w.forest)
unfolding remove_step
was_removed k p w v h up e =
    let above : removed k (p ∷ ancestors w.forest p) w ≡ Ok v = ap (λ ks. removed k ks w) (sym (ancestors-step w.forest k p h up)) ∙ e in
    let a = first_part (take_step k (sent_away k w)) (λ u. cond (goes_too (kind_of w.forest k) u.forest p) (removed p (ancestors w.forest p) u) (Ok u)) v
    above in
    (a.0, a.1, taken-forest k (sent_away k w) a.0 a.1 ∙ ap (take_out k) (sent_away-forest k w))
