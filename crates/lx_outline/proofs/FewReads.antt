-- How many reads the headings take that are read anew.
use Rattle.std.proofs.Common.{◌≡◌, ◌∙◌, ℕ, ◌+◌, ◌≤◌, Bool, true, false, cond, ◌||◌, ◌&&◌, List, [], ◌∷◌, Option, None, Some, inl, inr, refl, sym, ap, arith}
use Rattle.std.specs.Prelude.{sum_by, is_some}
use Rattle.std.proofs.lemmas.Bool.{cases_Bool}
use Rattle.std.proofs.lemmas.Bool.Decides.{eqb_tells, nat_tests}
use Rattle.std.proofs.lemmas.List.Sums.{sum_by-cons}
use Rattle.std.proofs.lemmas.Option.{same_Some}
use Rattle.lx_trees.specs.NamedTrees.{total}
use Rattle.lx_trees.proofs.NamedTrees.{alone-absent, total-joined}
use Rattle.lx_trees.specs.Siblings.{is_among, NoRepeats}
use Rattle.lx_trees.proofs.Siblings.{is_named_tells}
use Rattle.lx_trees.specs.Spots.{children_at}
use Rattle.lx_trees.specs.Trees.{nil, tree}
use Rattle.lx_node.specs.declared.kind.Kind.{Kind}
use Rattle.lx_node.specs.declared.kind.Kind.TheVariants as kind
use Rattle.lx_forest.specs.Forest.{Label, Forest}
use Rattle.lx_forest.specs.Lookups.{key_of, has, kind_of, parent_of, children_of, alone, trees_of, is_within, IsForest}
use Rattle.lx_forest.proofs.Lookups.{alone-spot, has-child, has-parent_of}
use Rattle.lx_forest.proofs.Within.{is_within-self, is_within-trans}
use Rattle.lx_links.specs.Stands.{Sound}
use Rattle.lx_links.proofs.Placed.{parent_of-child}
use Rattle.lx_links.proofs.Up.{in_order_at}
use Rattle.lx_outline.specs.declared.event.Event.{Event}
use Rattle.lx_outline.specs.Outline.{level_of}
use Rattle.lx_outline.specs.Reading.{key_in, is_named_in, reads_of, heading_reads, if_heading, over_link, holder_by, heading_over, heading_by, heading_of, is_over_one, is_changed, has_one, headings_size}
use Rattle.lx_outline.proofs.Along.{ones}
use Rattle.lx_outline.proofs.ByKeys.{with_others, total_of, worth_at, total_by_keys, worth_alone, head_worth, top_key, below_top}
use Rattle.lx_outline.proofs.Followed.{AreFollowed}
use Rattle.lx_outline.proofs.HeadingText.{is_there}
use Rattle.lx_outline.proofs.Absent.{no_heading_over}
use Rattle.lx_outline.proofs.SameBelow.{child_within}

-- ---- what is over a node

-- the key of a heading that has the node at or below it
pub record IsOver (f : Forest) (q r : ℕ) : Type 0 where
  pub here : has r f ≡ true
  pub inside : is_within f q r ≡ true
  pub level : ℕ
  pub kind_is : kind_of f q ≡ Some (kind.Heading level)

module _ (f : Forest) (s : Sound f) (q : ℕ) where
  own_heading : (r level : ℕ) → has r f ≡ true → kind_of f r ≡ Some (kind.Heading level) → r ≡ q → IsOver f q r
  own_heading r level here is same = record {
    here = here;
    inside = ap (λ x. is_within f x r) (sym same) ∙ is_within-self f r ∙ here;
    level = level;
    kind_is = ap (kind_of f) (sym same) ∙ is;
  }

  -- from a link's parent
  by_outer : (r p o : ℕ) (k : Option Kind) → has r f ≡ true → parent_of f r ≡ Some p → parent_of f p ≡ Some o → kind_of f o ≡ k → if_heading o k ≡ Some q
      → IsOver f q r
  by_outer r p o (Some (kind.Heading level)) here up further is found =
      let same : o ≡ q = same_Some o q found in
      let h = in_order_at f r s here in
      record {
        here = here;
        inside =
            ap (λ x. is_within f x r) (sym same)
            ∙ is_within-trans f o p r h (child_within f o p h (has-parent_of f p o further) further) (child_within f p r h (has-parent_of f r p up) up);
        level = level;
        kind_is = ap (kind_of f) (sym same) ∙ is;
      }
  by_outer r p o other here up further is found = absurd (cc)

  by_link : (r p : ℕ) (o : Option ℕ) → has r f ≡ true → parent_of f r ≡ Some p → parent_of f p ≡ o → over_link f o ≡ Some q → IsOver f q r
  by_link r p None here up further found = absurd (cc)
  by_link r p (Some o) here up further found = by_outer r p o (kind_of f o) here up further refl found

  by_holder : (r p : ℕ) (k : Option Kind) → has r f ≡ true → parent_of f r ≡ Some p → kind_of f p ≡ k → holder_by f p k ≡ Some q → IsOver f q r
  by_holder r p (Some kind.Link) here up is found = by_link r p (parent_of f p) here up refl found
  by_holder r p (Some (kind.Heading level)) here up is found =
      let same : p ≡ q = same_Some p q found in
      let h = in_order_at f r s here in
      record {
        here = here;
        inside = ap (λ x. is_within f x r) (sym same) ∙ child_within f p r h (has-parent_of f r p up) up;
        level = level;
        kind_is = ap (kind_of f) (sym same) ∙ is;
      }
  by_holder r p other here up is found = absurd (cc)

  by_parent : (r : ℕ) (o : Option ℕ) → has r f ≡ true → parent_of f r ≡ o → heading_over f o ≡ Some q → IsOver f q r
  by_parent r None here up found = absurd (cc)
  by_parent r (Some p) here up found = by_holder r p (kind_of f p) here up refl found

  by_kind : (r : ℕ) (k : Kind) → has r f ≡ true → kind_of f r ≡ Some k → heading_by f r (Some k) ≡ Some q → IsOver f q r
  by_kind r (kind.Heading level) here is found = own_heading r level here is (same_Some r q found)
  by_kind r other here is found = by_parent r (parent_of f r) here refl found

  pub heading_tells : (r : ℕ) → heading_of f r ≡ Some q → IsOver f q r
  heading_tells r found = elim (cases_Bool (has r f)) [
    | inl here ↦
        let x = is_there f r here in
        by_kind r x.at.label.kind here x.kind_is (sym (ap (heading_by f r) x.kind_is) ∙ found)
    | inr out ↦ absurd (let none = no_heading_over f r out in cc)
  ]

-- one of the events is about a node at or below it
over_tells : (f : Forest) (events : List Event) (q : ℕ) → is_over_one f events q ≡ true → (r : ℕ) × (is_named_in events r ≡ true) × (heading_of f r ≡ Some q)
over_tells f [] q e = absurd (cc)
over_tells f (event ∷ events) q e = elim (is_named_tells (heading_of f (key_in event)) q) [
  | inl own ↦ (key_in event, grind (arith, eqb_tells (key_in event) (key_in event)), own.1)
  | inr other ↦
      let rest = over_tells f events q (sym (ap (λ b. b || is_over_one f events q) other.0) ∙ e) in
      (rest.0, grind (arith, rest.1), rest.2)
]

-- ---- a heading with its tree

has_one_in : (test : ℕ → Bool) (t : Forest) (r : ℕ) → has r t ≡ true → test r ≡ true → has_one test t ≡ true
has_one_in test nil r there passes = absurd (cc)
has_one_in test (tree l below rest) r there passes = elim (eqb_tells l.key r) [
  | inl own ↦ ap (λ b. b || (has_one test below || has_one test rest)) (ap test own.1 ∙ passes)
  | inr other ↦ elim (cases_Bool (has r below)) [
    | inl inside ↦ grind (arith, has_one_in test below r inside passes)
    | inr outside ↦ grind (arith, has_one_in test rest r (grind (arith, nat_tests, there, other.0, outside)) passes)
  ]
]

abbrev pub heading_worth : (ℕ → Bool) → Label → Forest → ℕ
heading_worth test l below = cond (is_some (level_of l.kind) && (test l.key || has_one test below)) (1 + total below) 0

sizes_total : (test : ℕ → Bool) (f : Forest) → headings_size test f ≡ total_of (heading_worth test) f
sizes_total test nil = refl
sizes_total test (tree l below rest) = omega (arith, sizes_total test below, sizes_total test rest)

drop_false : (a b : Bool) → (a || (b || false)) ≡ true → (a || b) ≡ true
drop_false true b e = refl
drop_false false true e = refl
drop_false false false e = e

full_worth : (test : ℕ → Bool) (l : Label) (below : Forest) (level : ℕ) → l.kind ≡ kind.Heading level → has_one test (tree l below nil) ≡ true
    → heading_worth test l below ≡ 1 + total below
full_worth test l below level is one =
    ap (λ k. cond (is_some (level_of k) && (test l.key || has_one test below)) (1 + total below) 0) is
    ∙ ap (λ b. cond b (1 + total below) 0) (drop_false (test l.key) (has_one test below) one)

total-trees : (f : Forest) (ks : List ℕ) → total (trees_of f ks) ≡ sum_by (λ c. total (alone c f)) ks
total-trees f [] = refl
total-trees f (k ∷ ks) = omega (arith, total-joined (alone k f) (trees_of f ks), total-trees f ks, sum_by-cons (λ c. total (alone c f)) k ks)

total-alone : (f : Forest) (q : ℕ) → IsForest f → has q f ≡ true → total (alone q f) ≡ 1 + sum_by (λ c. total (alone c f)) (children_of f q)
total-alone f q h there =
    let x = is_there f q there in
    omega (arith, ap total (alone-spot f q x.at h x.at_is), total-trees f x.at.children, ap (λ o. sum_by (λ c. total (alone c f)) (children_at o)) x.at_is)

sum_le : (a b : ℕ → ℕ) (ks : List ℕ) → ((c : ℕ) → is_among c ks ≡ true → a c ≤ b c) → sum_by a ks ≤ sum_by b ks
sum_le a b [] less = omega arith
sum_le a b (k ∷ ks) less =
    omega (arith, sum_by-cons a k ks, sum_by-cons b k ks, less k (grind (arith, eqb_tells k k)), sum_le a b ks (λ c e. less c (grind (arith, e))))

child_there : (f : Forest) (q c : ℕ) → Sound f → is_among c (children_of f q) ≡ true → has c f ≡ true
child_there f q c s among = has-child f c q (parent_of-child f c q s among)

reads_le : (f : Forest) (c : ℕ) → Sound f → has c f ≡ true → reads_of f c ≤ total (alone c f)
reads_le f c s there =
    let h = in_order_at f c s there in
    let each : sum_by (λ (g : ℕ). 1) (children_of f c) ≤ sum_by (λ g. total (alone g f)) (children_of f c) =
    sum_le (λ (g : ℕ). 1) (λ g. total (alone g f)) (children_of f c)
    (λ g among. omega (arith, total-alone f g h (child_there f c g s among))) in
    omega (arith, each, ones (children_of f c), total-alone f c h there)

heading_le : (f : Forest) (q : ℕ) → Sound f → has q f ≡ true → heading_reads f q ≤ total (alone q f)
heading_le f q s there =
    omega (
      arith,
      total-alone f q (in_order_at f q s there) there,
      sum_le (reads_of f) (λ c. total (alone c f)) (children_of f q) (λ c among. reads_le f c s (child_there f q c s among)),
    )

nothing_within : (f : Forest) (q r : ℕ) → has q f ≡ false → is_within f q r ≡ false
nothing_within f q r out = ap (has r) (alone-absent key_of q f (grind (arith, nat_tests, out)))

-- ---- all of them

module _ (old new : Forest) (events : List Event) (after : Sound new) (told : AreFollowed old new events) where
  -- a heading that is read anew counts in the bound
  one_counts : (q : ℕ) → is_over_one new events q ≡ true → (has q new ≡ true) × (heading_reads new q ≤ worth_at (heading_worth (is_changed events)) q new)
  one_counts q e =
      let r = over_tells new events q e in
      let over = heading_tells new after q r.0 r.2 in
      let test = is_changed events in
      let h = in_order_at new r.0 after over.here in
      let there : has q new ≡ true = elim (cases_Bool (has q new)) [
        | inl here ↦ here
        | inr out ↦ absurd (let none = nothing_within new q r.0 out in let e = over.inside in cc)
      ] in
      let x = is_there new q there in
      let tree_is = alone-spot new q x.at h x.at_is in
      let one : has_one test (alone q new) ≡ true = has_one_in test (alone q new) r.0 over.inside (told.changed r.0 r.1 over.here) in
      let kind_is : x.at.label.kind ≡ kind.Heading over.level = same_Some _ _ (sym x.kind_is ∙ over.kind_is) in
      let full = full_worth test x.at.label (trees_of new x.at.children) over.level kind_is (sym (ap (has_one test) tree_is) ∙ one) in (
        there,
        omega (
          arith,
          heading_le new q after there,
          worth_alone (heading_worth test) new q (h.once q),
          ap (head_worth (heading_worth test)) tree_is,
          ap total tree_is,
          full,
        ),
      )

  pub few_reads : (keys : List ℕ) → NoRepeats keys → ((q : ℕ) → is_among q keys ≡ is_over_one new events q)
      → sum_by (heading_reads new) keys ≤ headings_size (is_changed events) new
  few_reads keys once over =
      let worth = λ (q : ℕ). worth_at (heading_worth (is_changed events)) q new in
      let n = top_key new in
      omega (
        arith,
        sum_le (heading_reads new) worth keys (λ q e. (one_counts q (sym (over q) ∙ e)).1),
        with_others worth keys n once (λ q e. below_top new q (let there = (one_counts q (sym (over q) ∙ e)).0 in grind (arith, nat_tests, there))),
        total_by_keys (heading_worth (is_changed events)) new n (omega arith),
        sizes_total (is_changed events) new,
      )
