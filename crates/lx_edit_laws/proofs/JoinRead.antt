-- What is read after a join: below any node but the two the same as before, since the texts come next to each other, and
-- nothing is below them.
use Rattle.lx_draft.proofs.Gaps.{parent_here}
use Rattle.lx_draft.specs.Faults.{text_in}
use Rattle.lx_draft.specs.Working.{Working}
use Rattle.lx_edit.specs.Texts.{text_or_none}
use Rattle.lx_forest.proofs.Lookups.{NoRepeats-children_of}
use Rattle.lx_forest.proofs.Order.{IsForest-take_out, IsForest-with_fields}
use Rattle.lx_forest.specs.Edits.{with_fields}
use Rattle.lx_forest.specs.Forest.{Forest}
use Rattle.lx_forest.specs.Lookups.{IsForest, IsHeld, children_of, kind_of, parent_of}
use Rattle.lx_edit_laws.proofs.JoinSpots.{children_left, children_other, label_other, text_first}
use Rattle.lx_edit_laws.proofs.JoinSteps.{AreJoined, with_behind}
use Rattle.lx_edit_laws.proofs.Reading.{childless_text, read-leaf, reads-same, reads_by, reads_known, reads_of}
use Rattle.lx_edit_laws.specs.Reading.{read_below, text_at}
use Rattle.lx_trees.proofs.Siblings.{is_named_tells, names_without-absent_list, next_in-among}
use Rattle.lx_node.specs.Kinds.{may_hold}
use Rattle.lx_trees.specs.Siblings.{NoRepeats, is_among, names_without, next_in}
use Rattle.std.proofs.Common.{Bool, List, Some, [], ap, append_assoc, ap₂, arith, eqb, false, inl, inr, subst, sym, true, ℕ, ◌++◌, ◌∙◌, ◌∷◌, ◌≡◌, ◌≢◌}
use Rattle.std.proofs.lemmas.Bool.Decides.{eqb_tells}
use Rattle.lx_node.specs.declared.kind.Kind.TheVariants as kinds

-- two that come next to each other are read as the one that has both texts
reads_joined : (f g : Forest) (first second : ℕ) (ks : List ℕ) → NoRepeats ks → next_in ks first ≡ Some second
    → read_below g first ≡ read_below f first ++ read_below f second
    → ((q : ℕ) → is_among q ks ≡ true → q ≢ first → q ≢ second → read_below g q ≡ read_below f q) → reads_of g (names_without second ks) ≡ reads_of f ks
reads_joined f g first second [] once next both others = absurd (cc)
reads_joined f g first second (x ∷ []) once next both others = absurd (grind (arith, next))
reads_joined f g first second (x ∷ y ∷ rest) once next both others = elim (eqb_tells x first) [
  | inl own ↦
      let is : y ≡ second = grind (arith, own, next) in
      let apart : eqb x second ≡ false = grind (arith, once.0, is, eqb_tells x second, eqb_tells y x) in
      let gone : eqb y second ≡ true = grind (arith, is, eqb_tells y second) in
      let left : names_without second rest ≡ rest = names_without-absent_list second rest (ap (λ k. is_among k rest) (sym is) ∙ once.1.0) in
      let tail : reads_of g rest ≡ reads_of f rest =
      reads-same f g rest
      (λ q among. others q (grind (arith, among)) (λ e. absurd (grind (arith, among, e, own, once.0)))
      (λ e. absurd (grind (arith, among, e, is, once.1.0)))) in
      let now : read_below g x ≡ read_below f x ++ read_below f y =
      ap (read_below g) own.1 ∙ both ∙ ap₂ (λ a b. read_below f a ++ read_below f b) (sym own.1) (sym is) in
      rw (apart, gone, left) (ap₂ (λ a b. a ++ b) now tail ∙ append_assoc (read_below f x) (read_below f y) (reads_of f rest))
  | inr other ↦
      let later : next_in (y ∷ rest) first ≡ Some second = grind (arith, other, next) in
      let there : is_among second (y ∷ rest) ≡ true = next_in-among (y ∷ rest) first second later in
      let apart : x ≢ second = λ e. absurd (grind (arith, e, there, once.0)) in
      let off : eqb x second ≡ false = grind (arith, apart, eqb_tells x second) in
      rw off (ap₂ (λ a b. a ++ b) (others x (grind (arith, eqb_tells x x)) other.1 apart)
      (reads_joined f g first second (y ∷ rest) once.1 later both (λ q among a b. others q (grind (arith, among)) a b)))
]

-- ---- after a join

module _ (first second : ℕ) (w v : Working) (h : IsForest w.forest) (held : IsHeld may_hold w.forest) (j : AreJoined first second w v) where
  -- the forest is still in order
  order_after : IsForest v.forest
  order_after =
      subst IsForest (sym j.forest)
      (IsForest-take_out second (with_fields first (with_behind j.own (text_at w.forest second)) w.forest)
      (IsForest-with_fields first (with_behind j.own (text_at w.forest second)) w.forest h))

  leaf : (k : ℕ) → kind_of w.forest k ≡ Some kinds.Text → children_of w.forest k ≡ []
  leaf k text = childless_text w.forest k h held text

  -- below the first what was read below both
  read_first : read_below v.forest first ≡ read_below w.forest first ++ read_below w.forest second
  read_first =
      read-leaf v.forest first order_after (children_left first second w v h j first ∙ ap (names_without second) (leaf first j.first_text))
      ∙ text_first first second w v h j
      ∙ ap₂ (λ a b. a ++ b) (sym (read-leaf w.forest first h (leaf first j.first_text))) (sym (read-leaf w.forest second h (leaf second j.second_text)))

  abbrev skip : ℕ → Bool
  skip q = is_among q (first ∷ second ∷ [])

  pub read_joined : (b : ℕ) → is_among b (first ∷ second ∷ []) ≢ true → read_below v.forest b ≡ read_below w.forest b
  read_joined b apart = reads_by w.forest v.forest skip h order_after (λ b clear known. record {
    text = ap (λ l. text_or_none (text_in l)) (label_other first second w v h j b (λ same. absurd (grind (arith, same, clear, eqb_tells first b))));
    below = elim (is_named_tells (parent_of w.forest first) b) [
      | inl above ↦
          let same : j.place.parent ≡ b = let f : Some j.place.parent ≡ Some b = sym j.place.up ∙ above.1 in cc in
          ap (reads_of v.forest) (children_left first second w v h j b)
          ∙ reads_joined w.forest v.forest first second (children_of w.forest b) (NoRepeats-children_of w.forest b h)
          (ap (λ p. next_in (children_of w.forest p) first) (sym same) ∙ j.place.next) read_first
          (λ q among x y. known.child q (parent_here w.forest b q h among) (grind (arith, x, y, eqb_tells first q, eqb_tells second q)))
      | inr far ↦
          ap (reads_of v.forest) (children_other first second w v h j b far.1)
          ∙ reads_known w.forest v.forest skip b h known (λ q up. grind (arith, up, far, j.place.up, j.place.below, eqb_tells first q, eqb_tells second q))
    ];
  }) b (grind (arith, apart))
