-- Marks of what differs cover the two trees: children that are the same, each with its neighbours, are one list.
use Rattle.std.proofs.Common.{◌≡◌, ◌∙◌, ◌⊎◌, ℕ, Bool, true, false, List, [], ◌∷◌, Option, None, Some, refl, sym, ap, inl, inr, arith}
use Rattle.std.specs.Prelude.{is_none, is_some}
use Rattle.std.proofs.lemmas.Bool.Decides.{eqb_tells}
use Rattle.lx_trees.specs.Siblings.{is_named, is_among, NoRepeats, first_of, next_in, previous_in}
use Rattle.lx_trees.proofs.Siblings.{is_named_tells, first_of-among, is_none-previous_in, same_names}
use Rattle.lx_marks.specs.Marks.{Marked, is_touched, is_noted, is_true_flag, flag_in}
use Rattle.lx_forest.specs.Forest.{Forest}
use Rattle.lx_forest.specs.Lookups.{has, parent_of, children_of, children_below, previous_of, next_of, IsForest}
use Rattle.lx_forest.proofs.Lookups.{is_among-children_of, NoRepeats-children_of, has-child}
use Rattle.lx_forest.proofs.Walks.{cases_option}
use Rattle.lx_forest.specs.Covered.{IsAlike, AreCovered}
use Rattle.lx_compare.specs.Differing.{KeepsKinds, IsUnchanged, AreKnown}
use Rattle.lx_compare.specs.Marking.{AreFounded, IsTold, IsSettled}

true_noted : (o : Option Bool) → is_true_flag o ≡ true → is_some o ≡ true
true_noted None e = absurd (cc)
true_noted (Some b) e = refl

-- what is marked itself is marked
pub touched_noted : (m : Marked) (q : ℕ) → is_touched m q ≡ true → is_noted m q ≡ true
touched_noted m q e = grind (arith, e, true_noted (flag_in m.elements q))

pub known : (old new : Forest) (m : Marked) → AreFounded old new m → AreKnown old new m
known old new m founded = record { touched = λ q e. founded.known q (touched_noted m q e); noted = founded.known }

-- ---- children

child_up : (f : Forest) (q p : ℕ) → IsForest f → is_among q (children_of f p) ≡ true → parent_of f q ≡ Some p
child_up f q p h among = grind (arith, is_named_tells (parent_of f q) p, is_among-children_of f q p h, among)

child_among : (f : Forest) (q p : ℕ) → IsForest f → parent_of f q ≡ Some p → is_among q (children_of f p) ≡ true
child_among f q p h up = grind (arith, is_named_tells (parent_of f q) p, is_among-children_of f q p h, up)

-- a child that has none before it is the first
first_child_is : (xs : List ℕ) (k : ℕ) → NoRepeats xs → is_among k xs ≡ true → previous_in xs k ≡ None → first_of xs ≡ Some k
first_child_is xs k once among none =
    grind (arith, is_named_tells (first_of xs) k, sym (is_none-previous_in xs k once among) ∙ ap is_none none)

first_has_none : (xs : List ℕ) (k : ℕ) → NoRepeats xs → first_of xs ≡ Some k → previous_in xs k ≡ None
first_has_none xs k once first =
    is_nothing (previous_in xs k) (is_none-previous_in xs k once (first_of-among xs k first) ∙ ap (λ o. is_named o k) first ∙ grind (arith, eqb_tells k k))
  where
    is_nothing : (o : Option ℕ) → is_none o ≡ true → o ≡ None
    is_nothing None e = refl
    is_nothing (Some x) e = absurd (cc)

nothing_first : (xs : List ℕ) → first_of xs ≡ None → xs ≡ []
nothing_first [] e = refl
nothing_first (x ∷ xs) e = absurd (cc)

previous_below : (f : Forest) (q p : ℕ) → parent_of f q ≡ Some p → previous_of f q ≡ previous_in (children_of f p) q
previous_below f q p up = ap (λ o. previous_in (children_below f o) q) up

next_below : (f : Forest) (q p : ℕ) → parent_of f q ≡ Some p → next_of f q ≡ next_in (children_of f p) q
next_below f q p up = ap (λ o. next_in (children_below f o) q) up

-- Where each child in the one tree is one in the other, with the same neighbours, they are the same children.
module _ (old new : Forest) (old_order : IsForest old) (new_order : IsForest new) (p : ℕ) (before : (x : ℕ) → parent_of old x ≡ Some p → IsUnchanged old new x)
    (after : (x : ℕ) → parent_of new x ≡ Some p → IsUnchanged old new x) where
  firsts : first_of (children_of old p) ≡ first_of (children_of new p)
  firsts = elim (cases_option (first_of (children_of old p))) [
    | inr (x, first) ↦
        let up : parent_of old x ≡ Some p = child_up old x p old_order (first_of-among (children_of old p) x first) in
        let same : IsUnchanged old new x = before x up in
        let up_new : parent_of new x ≡ Some p = sym same.parent ∙ up in
        let alone : previous_in (children_of new p) x ≡ None =
        sym (previous_below new x p up_new) ∙ sym same.previous ∙ previous_below old x p up
        ∙ first_has_none (children_of old p) x (NoRepeats-children_of old p old_order) first in
        first ∙ sym (first_child_is (children_of new p) x (NoRepeats-children_of new p new_order) (child_among new x p new_order up_new) alone)
    | inl none ↦ elim (cases_option (first_of (children_of new p))) [
      | inl none_new ↦ none ∙ sym none_new
      | inr (y, first) ↦
          let up : parent_of new y ≡ Some p = child_up new y p new_order (first_of-among (children_of new p) y first) in
          let among : is_among y (children_of old p) ≡ true = child_among old y p old_order ((after y up).parent ∙ up) in
          absurd (let h : false ≡ true = sym (ap (is_among y) (nothing_first (children_of old p) none)) ∙ among in cc)
    ]
  ]

  nexts : (x : ℕ) → is_among x (children_of old p) ≡ true → next_in (children_of old p) x ≡ next_in (children_of new p) x
  nexts x among =
      let up : parent_of old x ≡ Some p = child_up old x p old_order among in
      let same : IsUnchanged old new x = before x up in
      sym (next_below old x p up) ∙ same.next ∙ next_below new x p (sym same.parent ∙ up)

  pub children_alike : children_of old p ≡ children_of new p
  children_alike =
      same_names (children_of old p) (children_of new p) (NoRepeats-children_of old p old_order) (NoRepeats-children_of new p new_order) firsts nexts

-- ---- the two trees

module _ (old new : Forest) (m : Marked) (old_order : IsForest old) (new_order : IsForest new) (founded : AreFounded old new m)
    (settled : (q : ℕ) → IsSettled old new m q) where
  changed : (q : ℕ) → has q new ≡ true → IsUnchanged old new q ⊎ IsTold old new m q
  changed q there = elim (settled q) [
    | inl absent ↦ absurd (let h : true ≡ false = sym there ∙ absent.1 in cc)
    | inr either ↦ either
  ]

  gone : (q : ℕ) → has q old ≡ true → (has q new ≡ true) ⊎ IsTold old new m q
  gone q there = elim (settled q) [
    | inl absent ↦ absurd (let h : true ≡ false = sym there ∙ absent.0 in cc)
    | inr either ↦ elim either [
      | inl same ↦ inl same.stays
      | inr told ↦ inr told
    ]
  ]

  plain : (q : ℕ) → has q new ≡ true → is_touched m q ≡ false → IsUnchanged old new q
  plain q there apart = elim (changed q there) [
    | inl same ↦ same
    | inr told ↦ absurd (let h : true ≡ false = sym told.itself ∙ apart in cc)
  ]

  -- below a node that isn't touched nothing differs
  child_before : (q x : ℕ) → is_touched m q ≡ false → parent_of old x ≡ Some q → IsUnchanged old new x
  child_before q x apart up = elim (gone x (has-child old x q up)) [
    | inr told ↦ absurd (let h : true ≡ false = sym (told.before q up) ∙ apart in cc)
    | inl there ↦ elim (changed x there) [
      | inl same ↦ same
      | inr told ↦ absurd (let h : true ≡ false = sym (told.before q up) ∙ apart in cc)
    ]
  ]

  child_after : (q x : ℕ) → is_touched m q ≡ false → parent_of new x ≡ Some q → IsUnchanged old new x
  child_after q x apart up = elim (changed x (has-child new x q up)) [
    | inl same ↦ same
    | inr told ↦ absurd (let h : true ≡ false = sym (told.after q up) ∙ apart in cc)
  ]

  alike : (q : ℕ) → has q new ≡ true → is_touched m q ≡ false → IsAlike old new q
  alike q there apart = let same = plain q there apart in record {
    fields = same.fields;
    parent = same.parent;
    previous = same.previous;
    next = same.next;
    children = children_alike old new old_order new_order q (λ x. child_before q x apart) (λ x. child_after q x apart);
  }

  made : (q : ℕ) → has q old ≡ false → has q new ≡ true → is_touched m q ≡ true
  made q out there = elim (changed q there) [
    | inl same ↦ absurd (let h : false ≡ true = sym out ∙ same.was in cc)
    | inr told ↦ told.itself
  ]

  lost : (q p : ℕ) → parent_of old q ≡ Some p → has q new ≡ false → is_touched m q ≡ true
  lost q p up out = elim (gone q (has-child old q p up)) [
    | inl there ↦ absurd (let h : false ≡ true = sym out ∙ there in cc)
    | inr told ↦ told.itself
  ]

  pub covered : KeepsKinds old new → AreCovered old new (record { touched = is_touched m; noted = is_noted m })
  covered kinds = record {
    kinds = kinds;
    alike = λ q was there apart. alike q there apart;
    made = made;
    gone = λ q p up stays out. lost q p up out;
    noted = touched_noted m;
    above = λ q p up noted. founded.raised q p noted up;
  }
