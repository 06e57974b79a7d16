-- Nodes that are put or moved: what is then in a tree, and that points stay in the root's tree beside a node of it.
use Rattle.std.proofs.Common.{◌≡◌, ◌∙◌, ℕ, ◌+◌, Bool, true, false, cond, eqb, ◌&&◌, ◌||◌, not, List, [], ◌∷◌, Option, None, Some, Ok, refl, sym, ap, subst, arith, inl, inr}
use Rattle.std.specs.Prelude.{slice_get}
use Rattle.std.specs.Option.{option_or}
use Rattle.std.proofs.lemmas.Bool.Decides.{eqb_tells}
use Rattle.lx_node.specs.Strings.{characters_of}
use Rattle.lx_node.specs.declared.kind.Kind.{Kind}
use Rattle.lx_node.specs.declared.fields.Fields.{Fields}
use Rattle.lx_forest.specs.Forest.{Forest, Label}
use Rattle.lx_forest.specs.Lookups.{has, parent_of, children_of, index_of, size_of, is_within, is_attached, IsForest}
use Rattle.lx_forest.specs.Edits.{take_out, CanPut}
use Rattle.lx_forest.proofs.Lookups.{parent_of-take_out}
use Rattle.lx_forest.proofs.Order.{IsForest-take_out}
use Rattle.lx_forest.proofs.Walks.{is_attached-up}
use Rattle.lx_forest.proofs.Within.{is_within-up, is_within-parent, is_within-with_new, is_within-take_out, is_within-put_in}
use Rattle.lx_links.specs.Faults.{detach_fault}
use Rattle.lx_links.proofs.Ordered.{there_within}
use Rattle.lx_draft.specs.Working.{Working}
use Rattle.lx_draft.specs.Faults.{over_counts, over_limits, put_fault}
use Rattle.lx_draft.specs.Steps.{made, new_step, node_taken, take_step, node_placed, put_step}
use Rattle.lx_draft.specs.Beside.{before_at, put_before_step, behind_at, put_behind_step}
use Rattle.lx_draft.proofs.Covered.{answered}
use Rattle.lx_draft.proofs.Put.{both_none}
use Rattle.lx_edit.specs.InTurn.{in_turn}
use Rattle.lx_edit.specs.Edits.{moved_before, moved_behind, moved_to_end}
use Rattle.lx_blocks.specs.Making.{new_like}
use Rattle.lx_caret.proofs.Fit.{after_tells, Fit, Stays, Staying, stays_self, stays_ok, stays_new, puts}
use Rattle.lx_caret.proofs.Moves.{stays_placed, stays_moved}

-- ---- what is in a tree after a step

pub take_leaves : (k : ℕ) (w u : Working) → take_step k w ≡ Ok u → u.forest ≡ take_out k w.forest
unfolding take_step
take_leaves k w u e =
    let told = answered (option_or (detach_fault k w.forest) (over_counts w)) (node_taken k w) u e in ap (λ x. x.forest) (sym told.1)

pub within_taken : (k : ℕ) (w u : Working) (a q : ℕ) → IsForest w.forest → take_step k w ≡ Ok u
    → is_within u.forest a q ≡ (is_within w.forest a q && (is_within w.forest k a || not (is_within w.forest k q)))
within_taken k w u a q h e = ap (λ f. is_within f a q) (take_leaves k w u e) ∙ is_within-take_out k w.forest a q h

-- a node that was put: it could be, and what is in which tree
pub record Placed (w v : Working) (k p : ℕ) : Type 0 where
  pub can : CanPut p k w.forest
  pub within : (a q : ℕ) → is_within v.forest a q ≡ (is_within w.forest a q || (is_within w.forest k q && is_within w.forest a p))

pub placed : (k p index : ℕ) (w v : Working) → IsForest w.forest → put_step k p index w ≡ Ok v → Placed w v k p
unfolding put_step
placed k p index w v h e =
    let told = answered (option_or (put_fault k p index w.forest) (over_counts w)) (node_placed k p index w) v e in
    let is = puts w.forest k p index (both_none (put_fault k p index w.forest) (over_counts w) told.0).0 in
    subst (λ u. Placed w u k p) told.1
    (record { can = is.may; within = λ a q. is_within-put_in p (slice_get (children_of w.forest p) index) k w.forest a q h is.may })

-- put right after another
pub record PlacedBy (w v : Working) (k other : ℕ) : Type 0 where
  pub parent : ℕ
  pub at : ℕ
  pub up : parent_of w.forest other ≡ Some parent
  pub put : put_step k parent at w ≡ Ok v

behind_tells : (k other : ℕ) (p index : Option ℕ) (w v : Working) → parent_of w.forest other ≡ p → behind_at k other p index w ≡ Ok v
    → PlacedBy w v k other
behind_tells k other (Some p) (Some index) w v up e = record { parent = p; at = index + 1; up = up; put = e }
behind_tells k other None index w v up e = absurd (cc)
behind_tells k other (Some p) None w v up e = absurd (cc)

pub placed_behind : (k other : ℕ) (w v : Working) → put_behind_step k other w ≡ Ok v → PlacedBy w v k other
unfolding put_behind_step
placed_behind k other w v e = behind_tells k other (parent_of w.forest other) (index_of w.forest other) w v refl e

before_tells : (k other : ℕ) (p index : Option ℕ) (w v : Working) → parent_of w.forest other ≡ p → before_at k other p index w ≡ Ok v
    → PlacedBy w v k other
before_tells k other (Some p) (Some index) w v up e = record { parent = p; at = index; up = up; put = e }
before_tells k other None index w v up e = absurd (cc)
before_tells k other (Some p) None w v up e = absurd (cc)

pub placed_before : (k other : ℕ) (w v : Working) → put_before_step k other w ≡ Ok v → PlacedBy w v k other
unfolding put_before_step
placed_before k other w v e = before_tells k other (parent_of w.forest other) (index_of w.forest other) w v refl e

-- ---- beside a node of the root's tree

parent_left : (f : Forest) (k other p : ℕ) → IsForest f → parent_of (take_out k f) other ≡ Some p → parent_of f other ≡ Some p
parent_left f k other p h up = by_test (eqb other k) (sym (parent_of-take_out k f other h) ∙ up) where
  by_test : (b : Bool) → cond b None (parent_of f other) ≡ Some p → parent_of f other ≡ Some p
  by_test true e = absurd (cc)
  by_test false e = e

stays_beside : (k other : ℕ) (w u v : Working) → Fit w → is_attached w.forest other ≡ true → take_step k w ≡ Ok u → PlacedBy u v k other → Stays w v
stays_beside k other w u v fit there first by =
    let up : parent_of (take_out k w.forest) other ≡ Some by.parent = ap (λ f. parent_of f other) (sym (take_leaves k w u first)) ∙ by.up in
    let place : is_attached w.forest by.parent ≡ true =
    sym (is_attached-up w.forest other by.parent fit.ready.in_order (parent_left w.forest k other by.parent fit.ready.in_order up)) ∙ there in
    stays_placed k by.parent by.at w u v fit place first by.put

pub stays_moved_before : (other k : ℕ) (w v : Working) → Fit w → is_attached w.forest other ≡ true → moved_before other k w ≡ Ok v → Stays w v
unfolding moved_before
stays_moved_before other k w v fit there e =
    let first = after_tells (take_step k w) (put_before_step k other) v e in
    stays_beside k other w first.0 v fit there first.1.0 (placed_before k other first.0 v first.1.1)

pub stays_moved_behind : (other k : ℕ) (w v : Working) → Fit w → is_attached w.forest other ≡ true → moved_behind other k w ≡ Ok v → Stays w v
unfolding moved_behind
stays_moved_behind other k w v fit there e =
    let first = after_tells (take_step k w) (put_behind_step k other) v e in
    stays_beside k other w first.0 v fit there first.1.0 (placed_behind k other first.0 v first.1.1)

-- ---- new

pub stays_like : (l : Option Label) → Staying (new_like l)
stays_like None w v fit e = stays_ok w w v (stays_self w fit) e
stays_like (Some l) w v fit e = stays_new l.kind l.fields w v fit e

pub new_within : (kind : Kind) (x : Fields) (w v : Working) (a q : ℕ) → Fit w → new_step kind x w ≡ Ok v
    → is_within v.forest a q ≡ (is_within w.forest a q || (eqb a w.next_key && eqb q w.next_key))
unfolding new_step
new_within kind x w v a q fit e =
    let told = answered (over_limits (characters_of x) w) (made kind x w) v e in
    let l : Label = record { key = w.next_key; kind = kind; fields = x } in
    ap (λ u. is_within u.forest a q) (sym told.1) ∙ is_within-with_new l w.forest a q (fit.ready.free w.next_key (omega arith))

-- ---- outside a tree

-- what is there isn't the next key
not_next : (w : Working) (x : ℕ) → Fit w → has x w.forest ≡ true → eqb x w.next_key ≡ false
not_next w x fit there = grind (arith, there, fit.ready.free w.next_key (omega arith), eqb_tells x w.next_key)

-- the next key is in no tree
pub new_outside : (w : Working) (a : ℕ) → Fit w → is_within w.forest a w.next_key ≡ false
new_outside w a fit = by_test (is_within w.forest a w.next_key) refl where
  by_test : (b : Bool) → is_within w.forest a w.next_key ≡ b → is_within w.forest a w.next_key ≡ false
  by_test false is = is
  by_test true is =
      let bad : false ≡ true = sym (fit.ready.free w.next_key (omega arith)) ∙ there_within w.forest a w.next_key is in absurd (cc)

pub outside_parent : (f : Forest) (x q p : ℕ) → IsForest f → parent_of f q ≡ Some p → is_within f x q ≡ false → is_within f x p ≡ false
outside_parent f x q p h up out = elim (eqb_tells q x) [
  | inl own ↦ ap (λ n. is_within f n p) (sym own.1) ∙ is_within-parent f q p h up
  | inr other ↦ sym (is_within-up f x q p h up other.1) ∙ out
]

pub outside_new : (kind : Kind) (x : Fields) (w v : Working) (a q : ℕ) → Fit w → has a w.forest ≡ true → new_step kind x w ≡ Ok v
    → is_within w.forest a q ≡ false
    → is_within v.forest a q ≡ false
outside_new kind x w v a q fit there e out = grind (arith, new_within kind x w v a q fit e, not_next w a fit there, out)

pub outside_like : (l : Option Label) (w v : Working) (a q : ℕ) → Fit w → has a w.forest ≡ true → new_like l w ≡ Ok v → is_within w.forest a q ≡ false
    → is_within v.forest a q ≡ false
outside_like None w v a q fit there e out = let is : w ≡ v = cc in ap (λ u. is_within u.forest a q) (sym is) ∙ out
outside_like (Some l) w v a q fit there e out = outside_new l.kind l.fields w v a q fit there e out

pub outside_behind : (k other : ℕ) (w v : Working) (a q : ℕ) → IsForest w.forest → put_behind_step k other w ≡ Ok v
    → is_within w.forest a other ≡ false
    → is_within w.forest a q ≡ false → is_within v.forest a q ≡ false
outside_behind k other w v a q h e beside out =
    let by = placed_behind k other w v e in
    grind (arith, (placed k by.parent by.at w v h by.put).within a q, outside_parent w.forest a other by.parent h by.up beside, out)

pub outside_moved : (parent k : ℕ) (w v : Working) (a q : ℕ) → IsForest w.forest → moved_to_end parent k w ≡ Ok v
    → is_within w.forest a parent ≡ false
    → is_within w.forest a q ≡ false → is_within v.forest a q ≡ false
unfolding moved_to_end
outside_moved parent k w v a q h e beside out =
    let first = after_tells (take_step k w) (λ u. put_step k parent (size_of u.forest parent) u) v e in
    let u : Working = first.0 in
    let taken : IsForest u.forest = subst IsForest (sym (take_leaves k w u first.1.0)) (IsForest-take_out k w.forest h) in
    grind (arith, (placed k parent (size_of u.forest parent) u v taken first.1.1).within a q, within_taken k w u a q h first.1.0, within_taken k w u a parent h first.1.0, beside, out)

pub outside_each : (parent : ℕ) (ks : List ℕ) (w v : Working) (a q : ℕ) → Fit w → is_attached w.forest parent ≡ true
    → in_turn (moved_to_end parent) ks w ≡ Ok v
    → is_within w.forest a parent ≡ false → is_within w.forest a q ≡ false → is_within v.forest a q ≡ false
unfolding in_turn
outside_each parent [] w v a q fit place e beside out = let is : w ≡ v = cc in ap (λ u. is_within u.forest a q) (sym is) ∙ out
outside_each parent (k ∷ ks) w v a q fit place e beside out =
    let first = after_tells (moved_to_end parent k w) (in_turn (moved_to_end parent) ks) v e in
    let u : Working = first.0 in
    let stays = stays_moved parent k w u fit place first.1.0 in
    outside_each parent ks u v a q stays.fit (stays.attached parent place) first.1.1
    (outside_moved parent k w u a parent fit.ready.in_order first.1.0 beside beside) (outside_moved parent k w u a q fit.ready.in_order first.1.0 beside out)
