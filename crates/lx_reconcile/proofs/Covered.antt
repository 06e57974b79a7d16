-- The marks of a draft cover the tree that it began with and the one that it leaves.
use Rattle.std.proofs.Common.{◌≡◌, ◌∙◌, ℕ, true, false, cond, Option, None, Some, is_some, option_map, inl, inr, refl, sym, ap, arith}
use Rattle.std.proofs.lemmas.Bool.{cases_Bool, true_from_ne_false, false≢true}
use Rattle.lx_trees.specs.Siblings.{next_in, previous_in}
use Rattle.lx_trees.specs.Spots.{Spot, parent_at, children_at}
use Rattle.lx_marks.specs.Marks.{Marked, unmarked, is_touched, is_noted}
use Rattle.lx_forest.specs.Forest.{Label, Forest}
use Rattle.lx_forest.specs.Lookups.{has, alone, spot, kind_of, parent_of, previous_of, next_of, children_below, IsForest}
use Rattle.lx_forest.specs.Records.{Record, linked, record_at}
use Rattle.lx_forest.specs.Edits.{drop_detached}
use Rattle.lx_forest.proofs.Records.{record_at-drop_detached}
use Rattle.lx_forest.proofs.Edits.{is_some-spot}
use Rattle.lx_forest.proofs.Walks.{is_attached-up, spot_in_tree}
use Rattle.lx_draft.specs.Covering.{Covers}
use Rattle.lx_forest.specs.Covered.{AreCovered}
use Rattle.lx_reconcile.specs.Allowing.{marking}

pub touched_noted : (m : Marked) (q : ℕ) → is_touched m q ≡ true → is_noted m q ≡ true
touched_noted m q e = grind (arith, e)

-- the neighbours that a record gives
previous_told : Option Record → Option ℕ
previous_told None = None
previous_told (Some r) = r.prev

next_told : Option Record → Option ℕ
next_told None = None
next_told (Some r) = r.next

previous_is : (f : Forest) (q : ℕ) → previous_of f q ≡ previous_told (record_at f q)
unfolding previous_told
previous_is f q = from_spot (spot f q) where
  from_spot : (o : Option (Spot Label))
      → previous_in (children_below f (parent_at o)) q ≡ previous_told (option_map (linked (children_below f (parent_at o)) q) o)
  from_spot None = refl
  from_spot (Some x) = refl

next_is : (f : Forest) (q : ℕ) → next_of f q ≡ next_told (record_at f q)
unfolding next_told
next_is f q = from_spot (spot f q) where
  from_spot : (o : Option (Spot Label)) → next_in (children_below f (parent_at o)) q ≡ next_told (option_map (linked (children_below f (parent_at o)) q) o)
  from_spot None = refl
  from_spot (Some x) = refl

module _ (f g : Forest) (n : Marked) (h : IsForest g) (c : Covers f unmarked g n)
    (kinds : (q : ℕ) → has q f ≡ true → has q g ≡ true → kind_of f q ≡ kind_of g q) where
  tree : Forest
  tree = alone 0 g

  -- a node of the tree is the same as in the forest
  same_spot : (q : ℕ) → has q (alone 0 g) ≡ true → spot (alone 0 g) q ≡ spot g q
  same_spot q there = spot_in_tree g q h ∙ ap (λ b. cond b (spot g q) None) there

  there_too : (q : ℕ) → has q (alone 0 g) ≡ true → has q g ≡ true
  there_too q there = sym (is_some-spot g q) ∙ sym (ap is_some (same_spot q there)) ∙ is_some-spot (alone 0 g) q ∙ there

  untouched_spot : (q : ℕ) → has q (alone 0 g) ≡ true → is_touched n q ≡ false → spot f q ≡ spot (alone 0 g) q
  untouched_spot q there plain = elim (c.seen q) [
    | inl same ↦ sym same.0 ∙ sym (same_spot q there)
    | inr marked ↦ absurd (cc)
  ]

  -- and its record too
  untouched_record : (q : ℕ) → has q (alone 0 g) ≡ true → is_touched n q ≡ false → record_at f q ≡ record_at (alone 0 g) q
  unfolding drop_detached
  untouched_record q there plain = elim (c.seen q) [
    | inl same ↦ sym same.1 ∙ sym (record_at-drop_detached g q h ∙ ap (λ b. cond b (record_at g q) None) there)
    | inr marked ↦ absurd (cc)
  ]

  -- an untouched child of a node of the tree is in the tree
  still : (q p : ℕ) → parent_of f q ≡ Some p → has p (alone 0 g) ≡ true → is_touched n q ≡ false → has q (alone 0 g) ≡ true
  still q p up there plain = elim (c.seen q) [
    | inl same ↦ is_attached-up g q p h (ap parent_at same.0 ∙ up) ∙ there
    | inr marked ↦ absurd (cc)
  ]

  pub covered : AreCovered f (alone 0 g) (marking n)
  covered = record {
    kinds = λ q was is.
        kinds q was (there_too q is)
        ∙ sym (ap (λ (o : Option (Spot Label)). option_map (λ (l : Label). l.kind) (option_map (λ (s : Spot Label). s.label) o)) (same_spot q is));
    alike = λ q was is plain.
        let same = untouched_spot q is plain in
        let told : record_at f q ≡ record_at (alone 0 g) q = untouched_record q is plain in
        record {
          fields = ap (λ (o : Option (Spot Label)). option_map (λ (l : Label). l.fields) (option_map (λ (s : Spot Label). s.label) o)) same;
          parent = ap parent_at same;
          previous = previous_is f q ∙ ap previous_told told ∙ sym (previous_is (alone 0 g) q);
          next = next_is f q ∙ ap next_told told ∙ sym (next_is (alone 0 g) q);
          children = ap children_at same;
        };
    gone = λ q p up is out. true_from_ne_false (is_touched n q) (λ plain. false≢true (sym out ∙ still q p up is plain));
    made = λ q out is. true_from_ne_false (is_touched n q)
        (λ plain. false≢true (sym out ∙ sym (is_some-spot f q) ∙ ap is_some (untouched_spot q is plain) ∙ is_some-spot (alone 0 g) q ∙ is));
    noted = touched_noted n;
    above = λ q p up marked. c.above (λ a b e. absurd (cc)) q p marked (in_forest q p up);
  } where
    in_forest : (q p : ℕ) → parent_of (alone 0 g) q ≡ Some p → parent_of g q ≡ Some p
    in_forest q p up = elim (cases_Bool (has q (alone 0 g))) [
      | inl there ↦ sym (ap parent_at (same_spot q there)) ∙ up
      | inr out ↦ absurd (let none : spot (alone 0 g) q ≡ None = spot_in_tree g q h ∙ ap (λ b. cond b (spot g q) None) out in let e = ap parent_at none in cc)
    ]
