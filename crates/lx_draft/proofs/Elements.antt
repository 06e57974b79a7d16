-- Only elements are marked as elements themselves.
use Rattle.std.proofs.Common.{◌≡◌, ◌∙◌, ℕ, Bool, true, false, cond, eqb, ◌||◌, ◌&&◌, List, [], ◌∷◌, Option, None, Some, refl, sym, ap, arith, inl, inr}
use Rattle.std.proofs.lemmas.Bool.Decides.{eqb_tells}
use Rattle.lx_node.specs.Kinds.{is_element}
use Rattle.lx_node.specs.declared.kind.Kind.{Kind}
use Rattle.lx_marks.specs.Marks.{Marked, flag_in, is_true_flag, with_leaf, with_marked}
use Rattle.lx_marks.proofs.Flagged.{flag_in-flagged}
use Rattle.lx_marks.proofs.Told.{true_flag-either}
use Rattle.lx_forest.specs.Forest.{Forest}
use Rattle.lx_forest.specs.Lookups.{kind_of, ancestors}
use Rattle.lx_draft.specs.Marking.{mark_above, mark_itself, mark_node, mark_nodes}
use Rattle.lx_draft.specs.Covering.{is_element_in, KindsStay, AreElements}

flag-element : (k : ℕ) (flag : Bool) (m : Marked) (q : ℕ)
    → is_true_flag (flag_in (with_marked k flag m).elements q) ≡ (is_true_flag (flag_in m.elements q) || (eqb q k && flag))
unfolding with_marked
flag-element k flag m q =
    grind (arith, flag_in-flagged k flag m.elements q, true_flag-either (flag_in m.elements q) (Some flag))

flag-leaf : (k : ℕ) (m : Marked) (q : ℕ) → is_true_flag (flag_in (with_leaf k m).elements q) ≡ is_true_flag (flag_in m.elements q)
unfolding with_leaf
flag-leaf k m q = refl

flag-above : (ks : List ℕ) (m : Marked) (q : ℕ) → is_true_flag (flag_in (mark_above ks m).elements q) ≡ is_true_flag (flag_in m.elements q)
flag-above [] m q = refl
flag-above (k ∷ ks) m q = flag-above ks (with_marked k false m) q ∙ flag-element k false m q ∙ none (is_true_flag (flag_in m.elements q)) (eqb q k) where
  none : (a b : Bool) → (a || (b && false)) ≡ a
  none a b = grind arith

flag-itself : (o : Option Kind) (k : ℕ) (m : Marked) (q : ℕ)
    → is_true_flag (flag_in (mark_itself o k m).elements q) ≡ (is_true_flag (flag_in m.elements q) || (eqb q k && is_element_in o))
flag-itself None k m q = none (is_true_flag (flag_in m.elements q)) (eqb q k) where
  none : (a b : Bool) → a ≡ (a || (b && false))
  none a b = grind arith
flag-itself (Some kind) k m q = by_kind (is_element kind) where
  by_kind : (b : Bool)
      → is_true_flag (flag_in (cond b (with_marked k true m) (with_leaf k m)).elements q) ≡ (is_true_flag (flag_in m.elements q) || (eqb q k && b))
  by_kind true = flag-element k true m q
  by_kind false = flag-leaf k m q ∙ grind arith

flag-node : (f : Forest) (k : ℕ) (m : Marked) (q : ℕ)
    → is_true_flag (flag_in (mark_node f k m).elements q) ≡ (is_true_flag (flag_in m.elements q) || (eqb q k && is_element_in (kind_of f k)))
unfolding mark_node
flag-node f k m q = flag-above (ancestors f k) (mark_itself (kind_of f k) k m) q ∙ flag-itself (kind_of f k) k m q

sorted_by : (g : Forest) (k q : ℕ) (flag own : Bool) → (flag ≡ true → is_element_in (kind_of g q) ≡ true) → (own ≡ true → is_element_in (kind_of g k) ≡ true)
    → (flag || (eqb q k && own)) ≡ true → is_element_in (kind_of g q) ≡ true
sorted_by g k q true own was is e = was refl
sorted_by g k q false own was is e =
    elim (eqb_tells q k) [
      | inl same ↦ ap (λ x. is_element_in (kind_of g x)) same.1 ∙ is (grind (arith, e, same.0))
      | inr other ↦ absurd (grind (arith, e, other.0))
    ]

sorted-node : (g f : Forest) (k : ℕ) (m : Marked) → AreElements g m → (is_element_in (kind_of f k) ≡ true → is_element_in (kind_of g k) ≡ true)
    → AreElements g (mark_node f k m)
sorted-node g f k m s same = record {
  each = λ q e. sorted_by g k q (is_true_flag (flag_in m.elements q)) (is_element_in (kind_of f k)) (s.each q) same (sym (flag-node f k m q) ∙ e);
}

pub sorted-nodes : (g f : Forest) (ks : List ℕ) (m : Marked) → AreElements g m
    → ((k : ℕ) → is_element_in (kind_of f k) ≡ true → is_element_in (kind_of g k) ≡ true) → AreElements g (mark_nodes f ks m)
sorted-nodes g f [] m s same = s
sorted-nodes g f (k ∷ ks) m s same = sorted-nodes g f ks (mark_node f k m) (sorted-node g f k m s (same k)) same

-- ---- kinds

pub element_stays : (f g : Forest) (q : ℕ) → KindsStay f g → is_element_in (kind_of f q) ≡ true → is_element_in (kind_of g q) ≡ true
element_stays f g q s e = by_kind (kind_of f q) refl e where
  by_kind : (o : Option Kind) → kind_of f q ≡ o → is_element_in o ≡ true → is_element_in (kind_of g q) ≡ true
  by_kind None is e = absurd (cc)
  by_kind (Some kind) is e = ap is_element_in (s.each q kind is) ∙ e

pub sorted_stays : (f g : Forest) (m : Marked) → KindsStay f g → AreElements f m → AreElements g m
sorted_stays f g m s a = record { each = λ q e. element_stays f g q s (a.each q e) }
