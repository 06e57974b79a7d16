-- What marking covers: a step that marks the nodes that it changes.
use Rattle.std.proofs.Common.{◌≡◌, ◌∙◌, ℕ, ◌≤◌, Bool, true, false, ◌||◌, ◌&&◌, List, [], Option, None, Some, Ok, refl, sym, ap, subst, arith, inl, inr, ◌⊎◌}
use Rattle.lx_trees.specs.Siblings.{is_among}
use Rattle.lx_node.specs.declared.cause.Cause.{Cause}
use Rattle.lx_marks.specs.Marks.{Marked, is_touched, is_noted}
use Rattle.lx_forest.specs.Forest.{Forest}
use Rattle.lx_forest.specs.Lookups.{has, spot, kind_of, parent_of, IsForest}
use Rattle.lx_forest.specs.Records.{record_at}
use Rattle.lx_draft.specs.Working.{Working}
use Rattle.lx_draft.specs.Faults.{answer}
use Rattle.lx_draft.specs.Marking.{mark_nodes}
use Rattle.lx_draft.specs.Covering.{IsNotedUp, Covers, KindsStay, AreElements, IsReady, AreNew, AreCovered}
use Rattle.lx_draft.proofs.Elements.{sorted-nodes, sorted_stays, element_stays}
use Rattle.lx_draft.proofs.Touched.{is_over, touched-nodes, noted-nodes, over_up, over_child}

-- ---- marks that go up

up_by : (a b c d : Bool) → (a || b) ≡ true → (a ≡ true → (c || d) ≡ true) → (b ≡ true → d ≡ true) → (c || d) ≡ true
up_by true b c d e was new = was refl
up_by false b c d e was new = grind (arith, e, new)

-- They still do where these nodes are marked, if each parent of a marked node was marked too, or the node is one of them.
pub noted_up : (g : Forest) (ks : List ℕ) (m : Marked) → IsForest g
    → ((q p : ℕ) → is_noted m q ≡ true → parent_of g q ≡ Some p → (is_noted m p ≡ true) ⊎ (is_among q ks ≡ true)) → IsNotedUp g (mark_nodes g ks m)
noted_up g ks m h kept = λ q p e up.
    noted-nodes g ks m p h
    ∙ up_by (is_noted m q) (is_over g q ks) (is_noted m p) (is_over g p ks) (sym (noted-nodes g ks m q h) ∙ e)
    (λ was. elim (kept q p was up) [ inl above ↦ grind (arith, above) | inr among ↦ grind (arith, over_child g q p ks h up among) ])
    (λ new. over_up g q p ks h up new)

-- ---- a step that marks

-- From a forest to another these nodes are marked in a forest: what isn't among them is as it was, and marks go up as before.
pub record IsTold (f g marked : Forest) (ks : List ℕ) : Type 0 where
  pub seen : (q : ℕ) → ((spot g q ≡ spot f q) × (record_at g q ≡ record_at f q)) ⊎ ((is_among q ks && has q marked) ≡ true)
  pub above : (m : Marked) → IsNotedUp f m → IsNotedUp g (mark_nodes marked ks m)

stays : (a b c : Bool) → c ≡ (a || b) → a ≡ true → c ≡ true
stays a b c e was = grind (arith, e, was)

comes : (a b c : Bool) → c ≡ (a || b) → b ≡ true → c ≡ true
comes a b c e new = grind (arith, e, new)

covers : (f g marked : Forest) (ks : List ℕ) (m : Marked) → IsForest marked → IsTold f g marked ks → Covers f m g (mark_nodes marked ks m)
covers f g marked ks m h t = record {
  touched = λ q e. stays _ _ _ (touched-nodes marked ks m q) e;
  noted = λ q e. stays _ _ _ (noted-nodes marked ks m q h) e;
  seen = λ q. elim (t.seen q) [ inl same ↦ inl same | inr new ↦ inr (comes _ _ _ (touched-nodes marked ks m q) new) ];
  above = λ up. t.above m up;
}

-- of the marks of the whole update the new ones are those that are still to be handled
both_told : (a b c d e : Bool) → c ≡ (a || e) → d ≡ (b || e) → c ≡ true → (a ≡ true) ⊎ (d ≡ true)
both_told true b c d e whole new t = inl refl
both_told false b c d e whole new t = inr (grind (arith, whole, new, t))

-- nothing is new
pub same_keys : (w v : Working) → v.next_key ≡ w.next_key → ((q : ℕ) → has q v.forest ≡ has q w.forest) → AreNew w v
same_keys w v next same = record { next = omega (arith, next); each = λ q e. inl (sym (same q) ∙ e) }

pub new_then : (u v w : Working) → AreNew u v → AreNew v w → AreNew u w
new_then u v w a b = record {
  next = omega (arith, a.next, b.next);
  each = λ q e. elim (b.each q e) [ inl before ↦ a.each q before | inr new ↦ inr (omega (arith, a.next, new)) ];
}

pub covered : (w v : Working) (marked : Forest) (ks : List ℕ) → IsForest marked → IsTold w.forest v.forest marked ks → KindsStay w.forest v.forest
    → KindsStay marked v.forest
    → v.marks ≡ mark_nodes marked ks w.marks → v.fresh ≡ mark_nodes marked ks w.fresh → IsReady v → AreNew w v → AreCovered w v
covered w v marked ks h t kinds now marks fresh ready keys = record {
  marks = subst (λ n. Covers w.forest w.marks v.forest n) (sym marks) (covers w.forest v.forest marked ks w.marks h t);
  fresh = subst (λ n. Covers w.forest w.fresh v.forest n) (sym fresh) (covers w.forest v.forest marked ks w.fresh h t);
  told = λ q e. both_told (is_touched w.marks q) (is_touched w.fresh q) (is_touched v.marks q) (is_touched v.fresh q) (is_among q ks && has q marked)
      (ap (λ n. is_touched n q) marks ∙ touched-nodes marked ks w.marks q) (ap (λ n. is_touched n q) fresh ∙ touched-nodes marked ks w.fresh q) e;
  noted = λ q e. both_told (is_noted w.marks q) (is_noted w.fresh q) (is_noted v.marks q) (is_noted v.fresh q) (is_over marked q ks)
      (ap (λ n. is_noted n q) marks ∙ noted-nodes marked ks w.marks q h) (ap (λ n. is_noted n q) fresh ∙ noted-nodes marked ks w.fresh q h) e;
  same = λ e. marks ∙ ap (mark_nodes marked ks) e ∙ sym fresh;
  kinds = kinds;
  elements =
      λ a. subst (AreElements v.forest) (sym fresh)
      (sorted-nodes v.forest marked ks w.fresh (sorted_stays w.forest v.forest w.fresh kinds a) (λ k e. element_stays marked v.forest k now e));
  keys = keys;
  ready = ready;
}

-- ---- nothing, and one thing after another

pub told_same : (f : Forest) → IsTold f f f []
told_same f = record { seen = λ q. inl (refl, refl); above = λ m up. up }

pub kinds_at : (f g : Forest) → g ≡ f → KindsStay f g
kinds_at f g e = record { each = λ q kind is. ap (λ x. kind_of x q) e ∙ is }

-- a change that leaves forest, keys and marks
pub covered-same : (w v : Working) → IsReady w → v.forest ≡ w.forest → v.marks ≡ w.marks → v.fresh ≡ w.fresh → v.next_key ≡ w.next_key → AreCovered w v
covered-same w v r forest marks fresh next =
    covered w v w.forest [] r.in_order (subst (λ g. IsTold w.forest g w.forest []) (sym forest) (told_same w.forest)) (kinds_at w.forest v.forest forest)
    (kinds_at w.forest v.forest forest) marks fresh (record {
      in_order = subst IsForest (sym forest) r.in_order;
      free = λ q e. ap (has q) forest ∙ r.free q (subst (λ n. n ≤ q) next e);
    })
    (same_keys w v next (λ q. ap (has q) forest))

pub covers-then : (f g h : Forest) (m n o : Marked) → Covers f m g n → Covers g n h o → Covers f m h o
covers-then f g h m n o a b = record {
  touched = λ q e. b.touched q (a.touched q e);
  noted = λ q e. b.noted q (a.noted q e);
  seen = λ q. elim (b.seen q) [
    | inl later ↦ elim (a.seen q) [ inl same ↦ inl (later.0 ∙ same.0, later.1 ∙ same.1) | inr new ↦ inr (b.touched q new) ]
    | inr new ↦ inr new
  ];
  above = λ up. b.above (a.above up);
}

pub covered-then : (u v w : Working) → AreCovered u v → AreCovered v w → AreCovered u w
covered-then u v w a b = record {
  marks = covers-then u.forest v.forest w.forest u.marks v.marks w.marks a.marks b.marks;
  fresh = covers-then u.forest v.forest w.forest u.fresh v.fresh w.fresh a.fresh b.fresh;
  told = λ q e. elim (b.told q e) [
    | inl before ↦ elim (a.told q before) [ inl was ↦ inl was | inr new ↦ inr (b.fresh.touched q new) ]
    | inr new ↦ inr new
  ];
  noted = λ q e. elim (b.noted q e) [
    | inl before ↦ elim (a.noted q before) [ inl was ↦ inl was | inr new ↦ inr (b.fresh.noted q new) ]
    | inr new ↦ inr new
  ];
  same = λ e. b.same (a.same e);
  kinds = record { each = λ q kind e. b.kinds.each q kind (a.kinds.each q kind e) };
  elements = λ e. b.elements (a.elements e);
  keys = new_then u v w a.keys b.keys;
  ready = b.ready;
}

-- ---- what isn't refused

pub answered : {A : Type 0} (o : Option Cause) (a v : A) → answer o a ≡ Ok v → (o ≡ None) × (a ≡ v)
answered None a v e = (refl, cc)
answered (Some cause) a v e = absurd (cc)

-- where a step isn't refused, its result is what it leaves
pub covered-answer : (w v made : Working) (o : Option Cause) → answer o made ≡ Ok v → (o ≡ None → AreCovered w made) → AreCovered w v
covered-answer w v made o e h = let a = answered o made v e in subst (AreCovered w) a.1 (h a.0)

-- ---- steps that are made of others

pub covered-self : (w : Working) → IsReady w → AreCovered w w
covered-self w r = covered-same w w r refl refl refl refl
