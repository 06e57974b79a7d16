-- What is left of a document that takes the place of a tree: every node of it is marked, and only the root is in both trees.
use Rattle.std.proofs.Common.{◌≡◌, ◌∙◌, ◌≤◌, ◌||◌, ◌⊎◌, ℕ, eqb, Bool, true, false, is_some, List, [], ◌∷◌, Option, None, Some, refl, sym, ap, arith, inl, inr}
use Rattle.std.proofs.lemmas.Bool.{cases_Bool}
use Rattle.std.proofs.lemmas.Bool.Decides.{eqb_tells}
use Rattle.lx_trees.specs.Siblings.{is_among, is_named}
use Rattle.lx_marks.specs.Marks.{Marked, flag_in, is_true_flag, is_touched, is_noted, with_leaf}
use Rattle.lx_marks.proofs.Told.{touched-leaf}
use Rattle.lx_forest.specs.Forest.{Forest}
use Rattle.lx_forest.specs.Lookups.{has, kind_of, parent_of, children_of, IsForest}
use Rattle.lx_forest.proofs.Edits.{has-root, is_some-spot}
use Rattle.lx_forest.proofs.Lookups.{is_among-children_of, has-parent_of}
use Rattle.lx_draft.specs.Working.{Working}
use Rattle.lx_forest.specs.Covered.{AreCovered}
use Rattle.lx_reconcile.specs.Allowing.{marking}
use Rattle.lx_settle.specs.Laws.{AreMarked}
use Rattle.lx_json.specs.Importing.{IsImported}
use Rattle.lx_editor.specs.Updated.{Left}
use Rattle.lx_editor.specs.Judged.{with_leaves, MayGiveWay, IsShownBy, IsChildOfMarked}

-- ---- the marks with the gone nodes among them

or_false : (a b : Bool) → (a || b) ≡ true → a ≡ false → b ≡ true
or_false true b e none = absurd (cc)
or_false false b e none = e

still_true : (a b : Bool) → a ≡ true → (a || b) ≡ true
still_true true b e = refl
still_true false b e = absurd (cc)

or_other : (a b : Bool) → b ≡ true → (a || b) ≡ true
or_other true b e = refl
or_other false b e = e

pub touched-with_leaves : (ks : List ℕ) (m : Marked) (q : ℕ) → is_touched m q ≡ true → is_touched (with_leaves ks m) q ≡ true
touched-with_leaves [] m q e = e
touched-with_leaves (k ∷ ks) m q e = touched-with_leaves ks (with_leaf k m) q (touched-leaf k m q ∙ still_true (is_touched m q) (eqb q k) e)

pub gone_touched : (ks : List ℕ) (m : Marked) (q : ℕ) → is_among q ks ≡ true → is_touched (with_leaves ks m) q ≡ true
gone_touched [] m q e = absurd (cc)
gone_touched (k ∷ ks) m q e = elim (eqb_tells q k) [
  | inl own ↦ touched-with_leaves ks (with_leaf k m) q (touched-leaf k m q ∙ or_other (is_touched m q) (eqb q k) own.0)
  | inr other ↦ gone_touched ks (with_leaf k m) q (grind (arith, e, other.0, eqb_tells k q))
]

-- nothing else is touched by them
pub touched_or_gone : (ks : List ℕ) (m : Marked) (q : ℕ) → is_touched (with_leaves ks m) q ≡ true → (is_touched m q ≡ true) ⊎ (is_among q ks ≡ true)
touched_or_gone [] m q e = inl e
touched_or_gone (k ∷ ks) m q e = elim (touched_or_gone ks (with_leaf k m) q e) [
  | inl before ↦ elim (cases_Bool (is_touched m q)) [
    | inl was ↦ inl was
    | inr plain ↦ inr (now k ks (or_false (is_touched m q) (eqb q k) (sym (touched-leaf k m q) ∙ before) plain))
  ]
  | inr later ↦ inr (grind (arith, later))
] where
  now : (k : ℕ) (ks : List ℕ) → eqb q k ≡ true → is_among q (k ∷ ks) ≡ true
  now k ks own = grind (arith, own, eqb_tells q k, eqb_tells k q)

touched_noted : (m : Marked) (q : ℕ) → is_touched m q ≡ true → is_noted m q ≡ true
touched_noted m q e = by_flag (is_among q m.leaves) (flag_in m.elements q) e where
  by_flag : (b : Bool) (o : Option Bool) → (b || is_true_flag o) ≡ true → (b || is_some o) ≡ true
  by_flag true o e = refl
  by_flag false None e = absurd (cc)
  by_flag false (Some flag) e = refl

-- ---- what settling leaves of an import

module _ (w v : Working) (next : ℕ) (im : IsImported next w) (m : AreMarked w v) where
  all_marked : (q : ℕ) → has q w.forest ≡ true → is_touched w.marks q ≡ true
  all_marked q there = ap (λ n. is_touched n q) (im.covered.same refl) ∙ im.all_marked q there

  -- every node is marked
  pub all_touched : (q : ℕ) → has q v.forest ≡ true → is_touched v.marks q ≡ true
  all_touched q there = elim (m.marks.seen q) [
    | inl same ↦ m.marks.touched q (all_marked q (sym (is_some-spot w.forest q) ∙ ap is_some (sym same.0) ∙ is_some-spot v.forest q ∙ there))
    | inr marked ↦ marked
  ]

  module _ (old : Forest) (way : MayGiveWay old next) where
    -- each node but the root, which the old tree had too, has a new key
    pub new_or_root : (q : ℕ) → has q v.forest ≡ true → (has q old ≡ true) ⊎ (next ≤ q)
    new_or_root q is = elim (m.keys.each q is) [
      | inl there ↦ elim (im.fresh_keys q there) [
        | inl root ↦ inl (ap (λ k. has k old) root ∙ has-root old way.in_order)
        | inr above ↦ inr above
      ]
      | inr above ↦ inr (omega (arith, im.rises, above))
    ]

    -- only the root has a key that the old tree had
    pub only_root : (q : ℕ) → has q old ≡ true → has q v.forest ≡ true → q ≡ 0
    only_root q was is = elim (m.keys.each q is) [
      | inl there ↦ elim (im.fresh_keys q there) [
        | inl root ↦ root
        | inr above ↦ absurd (let e = way.free q above in cc)
      ]
      | inr above ↦ absurd (let e = way.free q (omega (arith, im.rises, above)) in cc)
    ]

module _ (left : Left) (old : Forest) (in_order : IsForest old) (tree_in_order : IsForest left.tree)
    (touched : (q : ℕ) → has q left.tree ≡ true → is_touched left.marks q ≡ true)
    (only : (q : ℕ) → has q old ≡ true → has q left.tree ≡ true → q ≡ 0) where
  abbrev shown : Marked
  shown = with_leaves (children_of old 0) left.marks

  shown_touched : (q : ℕ) → has q left.tree ≡ true → is_touched shown q ≡ true
  shown_touched q there = touched-with_leaves (children_of old 0) left.marks q (touched q there)

  gone_shown : (q p : ℕ) → parent_of old q ≡ Some p → has p left.tree ≡ true → is_touched shown q ≡ true
  gone_shown q p up stays =
      let root : p ≡ 0 = only p (has-parent_of old q p up) stays in
      gone_touched (children_of old 0) left.marks q (is_among-children_of old q 0 in_order ∙ ap (λ o. is_named o 0) (up ∙ ap (λ x. Some x) root) ∙ own)
    where
      own : is_named (Some 0) 0 ≡ true
      own = grind (arith, eqb_tells 0 0)

  same_kinds : (q : ℕ) → q ≡ 0 → kind_of old q ≡ kind_of left.tree q
  same_kinds q root = ap (kind_of old) root ∙ in_order.root ∙ sym tree_in_order.root ∙ ap (kind_of left.tree) (sym root)

  covers : AreCovered old left.tree (marking shown)
  covers = record {
    kinds = λ q was is. same_kinds q (only q was is);
    alike = λ q was is plain. absurd (let e = shown_touched q is in cc);
    made = λ q out is. shown_touched q is;
    gone = λ q p up stays out. gone_shown q p up stays;
    noted = λ q e. touched_noted shown q e;
    above = λ q p up e. touched_noted shown p (shown_touched p (has-parent_of left.tree q p up));
  }

  a_child : (q : ℕ) → is_among q (children_of old 0) ≡ true → IsChildOfMarked old left q
  a_child q among = record {
    parent = 0;
    up = named (parent_of old q) (sym (is_among-children_of old q 0 in_order) ∙ among);
    stays = has-root left.tree tree_in_order;
    marked = touched 0 (has-root left.tree tree_in_order);
  } where
    named : (o : Option ℕ) → is_named o 0 ≡ true → o ≡ Some 0
    named None e = absurd (cc)
    named (Some p) e = grind (arith, e, eqb_tells p 0, eqb_tells 0 p)

  pub shown_by : IsShownBy old left (with_leaves (children_of old 0) left.marks)
  shown_by = record {
    covered = covers;
    touched = λ q there. shown_touched q there ∙ sym (touched q there);
    noted = λ q there. touched_noted shown q (shown_touched q there) ∙ sym (touched_noted left.marks q (touched q there));
    gone = λ q out e. elim (touched_or_gone (children_of old 0) left.marks q e) [
      | inl marked ↦ inl marked
      | inr among ↦ inr (a_child q among)
    ];
  }
