-- Marks above which all is marked: where one of the ancestors is there, so are those above it.
use Rattle.std.proofs.Common.{◌≡◌, ◌≢◌, ◌∙◌, ℕ, zero, suc, ◌<◌, Bool, true, false, cond, eqb, ◌||◌, List, [], ◌∷◌, length, Option, None, Some, refl, sym, ap, subst, arith, inl, inr}
use Rattle.std.specs.Prelude.{is_some}
use Rattle.std.proofs.lemmas.Bool.{cases_eq}
use Rattle.std.proofs.lemmas.Bool.Decides.{eqb_tells}
use Rattle.lx_node.specs.Kinds.{is_element}
use Rattle.lx_node.specs.declared.kind.Kind.{Kind}
use Rattle.lx_node.specs.declared.fields.Fields.{Fields}
use Rattle.lx_marks.specs.Marks.{Marked, flag_in, flagged, is_noted, with_leaf, with_marked}
use Rattle.lx_marks.proofs.Flagged.{flag_in-flagged}
use Rattle.lx_marks.proofs.Told.{noted-element, is_some-flagged}
use Rattle.lx_forest.specs.Forest.{Forest, Label}
use Rattle.lx_forest.specs.Lookups.{has, parent_of, is_attached, ancestors, IsForest}
use Rattle.lx_forest.specs.Edits.{with_new, with_fields, take_out, put_in, drop_detached, CanPut}
use Rattle.lx_forest.proofs.Lookups.{parent_of-with_new, parent_of-with_fields, parent_of-take_out, parent_of-put_in, parent_of-drop_detached}
use Rattle.lx_forest.proofs.Walks.{cases_option, ancestors-top, ancestors-step}
use Rattle.lx_links.specs.Stands.{Sound}
use Rattle.lx_links.proofs.Up.{in_order}
use Rattle.lx_draft.specs.Marking.{mark_above, mark_itself}
use Rattle.lx_draft.specs.Raised.{is_element_listed, IsRaisedBut, IsRaised}
use Rattle.lx_draft.proofs.Touched.{noted-itself}

-- ---- an element more

listed-element : (k : ℕ) (flag : Bool) (m : Marked) (q : ℕ) → is_element_listed (with_marked k flag m) q ≡ (is_element_listed m q || eqb q k)
unfolding with_marked
listed-element k flag m q = grind (arith, flag_in-flagged k flag m.elements q, is_some-flagged (flag_in m.elements q) flag, eqb_tells q k)

or_false : (e : ℕ × Bool) → (e.0, e.1 || false) ≡ e
or_false (k, true) = refl
or_false (k, false) = refl

flagged-again : (k : ℕ) (es : List (ℕ × Bool)) → is_some (flag_in es k) ≡ true → flagged k false es ≡ es
unfolding flagged
flagged-again k [] e = absurd (grind (arith, e))
flagged-again k (x ∷ es) e = elim (eqb_tells k x.0) [
  | inl own ↦ rw own.0 (ap (λ y. y ∷ es) (or_false x))
  | inr other ↦ rw other.0 (ap (λ ys. x ∷ ys) (flagged-again k es (grind (arith, e, other.0))))
]

-- an element that is there stays as it is
pub element-again : (k : ℕ) (m : Marked) → is_element_listed m k ≡ true → with_marked k false m ≡ m
unfolding with_marked
element-again k m e = ap (λ es. record { leaves = m.leaves; elements = es }) (flagged-again k m.elements e)

listed_leaf : (k : ℕ) (m : Marked) (q : ℕ) → is_element_listed (with_leaf k m) q ≡ is_element_listed m q
unfolding with_leaf
listed_leaf k m q = refl

listed_noted : (m : Marked) (q : ℕ) → is_element_listed m q ≡ true → is_noted m q ≡ true
listed_noted m q e = grind (arith, e)

-- ---- up

above-again : (n : ℕ) (f : Forest) (q : ℕ) (m : Marked) → IsForest f → IsRaised f m → is_noted m q ≡ true → length (ancestors f q) < n
    → mark_above (ancestors f q) m ≡ m
above-again zero f q m h up noted short = absurd (omega (arith, short))
above-again (suc n) f q m h up noted short = elim (cases_option (parent_of f q)) [
  | inl none ↦ ap (λ ks. mark_above ks m) (ancestors-top f q none)
  | inr (p, some) ↦
      let listed : is_element_listed m p ≡ true = up q p noted some in
      let step : ancestors f q ≡ p ∷ ancestors f p = ancestors-step f q p h some in
      ap (λ ks. mark_above ks m) step ∙ ap (mark_above (ancestors f p)) (element-again p m listed)
      ∙ above-again n f p m h up (listed_noted m p listed) (omega (arith, short, ap length step))
]

-- the walk up may end where the parent is there
pub above-met : (f : Forest) (q p : ℕ) (m : Marked) → Sound f → IsRaisedBut f q m → parent_of f q ≡ Some p → is_element_listed m p ≡ true
    → (mark_above (ancestors f q) m ≡ m) × IsRaised f m
above-met f q p m s up some listed =
    let h : IsForest f = in_order f q p s some in
    let all : IsRaised f m = λ x y noted at. elim (cases_eq x q) [
      | inl own ↦ ap (is_element_listed m) (same_parent f x q p y own some at) ∙ listed
      | inr other ↦ up x y noted other at
    ] in (
      ap (λ ks. mark_above ks m) (ancestors-step f q p h some) ∙ ap (mark_above (ancestors f p)) (element-again p m listed)
          ∙ above-again (suc (length (ancestors f p))) f p m h all (listed_noted m p listed) (omega arith),
      all,
    ) where
      same_parent : (f : Forest) (x q p y : ℕ) → x ≡ q → parent_of f q ≡ Some p → parent_of f x ≡ Some y → y ≡ p
      same_parent f x q p y own some at = let h : Some y ≡ Some p = sym at ∙ ap (parent_of f) own ∙ some in cc

-- or at the top
pub above-top : (f : Forest) (q : ℕ) (m : Marked) → IsRaisedBut f q m → parent_of f q ≡ None → IsRaised f m
above-top f q m up none = λ x y noted at. elim (cases_eq x q) [
  | inl own ↦ absurd (grind (arith, sym at ∙ ap (parent_of f) own ∙ none))
  | inr other ↦ up x y noted other at
]

-- or else it goes on from the parent
pub above-more : (f : Forest) (q p : ℕ) (m n : Marked) → IsRaisedBut f q m → parent_of f q ≡ Some p → n ≡ with_marked p false m → IsRaisedBut f p n
above-more f q p m n up some e = subst (IsRaisedBut f p) (sym e) (λ x y noted other at.
    listed-element p false m y ∙ elim (cases_eq x q) [
      | inl own ↦ let h : Some y ≡ Some p = sym at ∙ ap (parent_of f) own ∙ some in let same : y ≡ p = cc in grind (arith, same, eqb_tells y p)
      | inr apart ↦ grind (arith, up x y (was x noted other) apart at)
    ]) where
      was : (x : ℕ) → is_noted (with_marked p false m) x ≡ true → x ≢ p → is_noted m x ≡ true
      was x noted other = grind (arith, noted, noted-element p false m x, eqb_tells x p, other)

-- ---- a node marked

-- a node that is marked itself needs its parent there
pub raised_itself : (f : Forest) (o : Option Kind) (k : ℕ) (m n : Marked) → IsRaisedBut f k m → n ≡ mark_itself o k m → IsRaisedBut f k n
raised_itself f o k m n up e =
    subst (IsRaisedBut f k) (sym e) (λ x y noted other at. still o k m y (up x y (grind (arith, noted, noted-itself o k m x, eqb_tells x k, other)) other at))
  where
    still_by : (element : Bool) (k : ℕ) (m : Marked) (y : ℕ) → is_element_listed m y ≡ true
        → is_element_listed (cond element (with_marked k true m) (with_leaf k m)) y ≡ true
    still_by true k m y e = listed-element k true m y ∙ grind (arith, e)
    still_by false k m y e = listed_leaf k m y ∙ e

    still : (o : Option Kind) (k : ℕ) (m : Marked) (y : ℕ) → is_element_listed m y ≡ true → is_element_listed (mark_itself o k m) y ≡ true
    still None k m y e = e
    still (Some kind) k m y e = still_by (is_element kind) k m y e

-- ---- after each edit of the forest

pub raised-with_new : (l : Label) (f : Forest) (m : Marked) → IsForest f → has l.key f ≡ false → IsRaised f m → IsRaised (with_new l f) m
raised-with_new l f m h free up = λ x y noted at. up x y noted (sym (parent_of-with_new l f x h free) ∙ at)

pub raised-with_fields : (k : ℕ) (fields : Fields) (f : Forest) (m : Marked) → IsRaised f m → IsRaised (with_fields k fields f) m
raised-with_fields k fields f m up = λ x y noted at. up x y noted (sym (parent_of-with_fields k fields f x) ∙ at)

some_else : (b : Bool) (o : Option ℕ) (y : ℕ) → cond b None o ≡ Some y → o ≡ Some y
some_else true o y e = absurd (cc)
some_else false o y e = e

pub raised-take_out : (k : ℕ) (f : Forest) (m : Marked) → IsForest f → IsRaised f m → IsRaised (take_out k f) m
raised-take_out k f m h up = λ x y noted at. up x y noted (some_else (eqb x k) (parent_of f x) y (sym (parent_of-take_out k f x h) ∙ at))

-- a put key may be marked already, and its parent not
pub raised-put_in : (p : ℕ) (before : Option ℕ) (k : ℕ) (f : Forest) (m : Marked) → IsForest f → CanPut p k f → IsRaised f m
    → IsRaisedBut (put_in p before k f) k m
raised-put_in p before k f m h c up =
    λ x y noted other at. up x y noted (ap (λ b. cond b (Some p) (parent_of f x)) (sym (elsewhere x other)) ∙ sym (parent_of-put_in p before k f x h c) ∙ at)
  where
    elsewhere : (x : ℕ) → x ≢ k → eqb x k ≡ false
    elsewhere x other = grind (arith, eqb_tells x k, other)

some_where : (b : Bool) (o : Option ℕ) (y : ℕ) → cond b o None ≡ Some y → o ≡ Some y
some_where true o y e = e
some_where false o y e = absurd (cc)

pub raised-drop_detached : (f : Forest) (m : Marked) → IsForest f → IsRaised f m → IsRaised (drop_detached f) m
raised-drop_detached f m h up = λ x y noted at. up x y noted (some_where (is_attached f x) (parent_of f x) y (sym (parent_of-drop_detached f x h) ∙ at))
