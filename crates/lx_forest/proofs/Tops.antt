-- The keys that are below nothing and aren't the root's: what they and all below them weigh, and who is below whom.
use Rattle.std.proofs.Common.{◌≡◌, ◌≢◌, ℕ, zero, suc, ◌<◌, true, false, ◌&&◌, List, [], ◌∷◌, length, Some, refl, sym, ap, ◌∙◌, arith, inl, inr}
use Rattle.std.specs.Prelude.{sum_by, is_none}
use Rattle.std.proofs.lemmas.List.Sums.{sum_by-cons}
use Rattle.std.proofs.lemmas.Bool.{cases_eq}
use Rattle.std.proofs.lemmas.Bool.Decides.{eqb_tells}
use Rattle.lx_trees.specs.Siblings.{is_among, NoRepeats}
use Rattle.lx_trees.proofs.Spots.{is_among-firsts}
use Rattle.lx_forest.specs.Forest.{Label, Forest}
use Rattle.lx_forest.specs.Lookups.{key_of, has, roots, without, parent_of, is_within, is_attached, ancestors, rises_from, rises, IsForest}
use Rattle.lx_forest.specs.Loose.{is_top}
use Rattle.lx_forest.specs.Weights.{weight, weight_at}
use Rattle.lx_trees.proofs.Order.{rises_from-absent}
use Rattle.lx_forest.proofs.Walks.{cases_option, ancestors-step, is_attached-up}
use Rattle.lx_forest.proofs.Within.{is_within-up, is_within-top, is_within-self, is_within-trans}
use Rattle.lx_forest.proofs.Lookups.{has-parent_of, has-child}
use Rattle.lx_forest.proofs.Order.{is_attached-root}
use Rattle.lx_forest.proofs.Weights.{weight-without-alone, weight-roots, same_sum}

rises-no_repeats : (low : ℕ) (xs : List ℕ) → rises_from low xs ≡ true → NoRepeats xs
rises-no_repeats low [] e = tt
rises-no_repeats low (x ∷ xs) e = (rises_from-absent x x xs (grind (arith, e)) (omega arith), rises-no_repeats x xs (grind (arith, e)))

weight-tops_in : (of : Label → ℕ) (f : Forest) (rs ks : List ℕ) → IsForest f → roots f ≡ rs → NoRepeats ks → ((q : ℕ) → is_among q ks ≡ is_top f q)
    → sum_by (weight_at of f) ks ≡ weight of (without 0 f)
weight-tops_in of f [] ks h e once same = absurd (grind (arith, e, h.rising))
weight-tops_in of f (r ∷ rs) ks h e once same =
    let rising : rises (r ∷ rs) ≡ true = sym (ap rises e) ∙ h.rising in
    let first : r ≡ 0 = grind (arith, rising, eqb_tells r 0) in
    let among : (q : ℕ) → is_among q (r ∷ rs) ≡ (has q f && is_none (parent_of f q)) = λ q. sym (ap (is_among q) e) ∙ is_among-firsts key_of f q h.once in
    let others : NoRepeats rs = rises-no_repeats 0 rs (grind (arith, rising)) in
    let none : is_among 0 rs ≡ false = rises_from-absent 0 0 rs (grind (arith, rising)) (omega arith) in
    let sums : sum_by (weight_at of f) ks ≡ sum_by (weight_at of f) rs =
    same_sum (weight_at of f) ks rs once others (λ q. same q ∙ grind (arith, among q, first, none, eqb_tells r q, eqb_tells q 0)) in
    let whole : sum_by (weight_at of f) (r ∷ rs) ≡ weight of f = ap (sum_by (weight_at of f)) (sym e) ∙ weight-roots of f h in
    let own : weight_at of f r ≡ weight_at of f 0 = ap (weight_at of f) first in
    omega (arith, sums, whole, own, sum_by-cons (weight_at of f) r rs, weight-without-alone of 0 f)

-- the trees of all of them weigh what the root's tree leaves
pub weight-tops : (of : Label → ℕ) (f : Forest) (ks : List ℕ) → IsForest f → NoRepeats ks → ((q : ℕ) → is_among q ks ≡ is_top f q)
    → sum_by (weight_at of f) ks ≡ weight of (without 0 f)
weight-tops of f ks h once same = weight-tops_in of f (roots f) ks h refl once same

-- a set of keys that has each top, and each child of one that it has, has all that is detached
detached_in : (n : ℕ) (f : Forest) (ks : List ℕ) (q : ℕ) → IsForest f → ((k : ℕ) → is_top f k ≡ true → is_among k ks ≡ true)
    → ((c p : ℕ) → parent_of f c ≡ Some p → is_among p ks ≡ true → is_among c ks ≡ true)
    → has q f ≡ true → is_attached f q ≡ false → length (ancestors f q) < n → is_among q ks ≡ true
detached_in zero f ks q h tops closed there away short = absurd (omega (arith, short))
detached_in (suc n) f ks q h tops closed there away short =
    elim (cases_option (parent_of f q)) [
      | inl none ↦ tops q (grind (arith, there, none, away, eqb_tells q 0, is_attached-root f h))
      | inr (p, up) ↦
          closed q p up
          (detached_in n f ks p h tops closed (has-parent_of f q p up) (sym (is_attached-up f q p h up) ∙ away)
          (omega (arith, short, ap length (ancestors-step f q p h up))))
    ]

pub detached-among : (f : Forest) (ks : List ℕ) (q : ℕ) → IsForest f → ((k : ℕ) → is_top f k ≡ true → is_among k ks ≡ true)
    → ((c p : ℕ) → parent_of f c ≡ Some p → is_among p ks ≡ true → is_among c ks ≡ true)
    → has q f ≡ true → is_attached f q ≡ false → is_among q ks ≡ true
detached-among f ks q h tops closed there away = detached_in (suc (length (ancestors f q))) f ks q h tops closed there away (omega arith)

-- ---- down

-- what is in a tree is its own key, or in the tree of a child
pub record IsBelow (f : Forest) (k q : ℕ) : Type 0 where
  pub child : ℕ
  pub up : parent_of f child ≡ Some k
  pub inside : is_within f child q ≡ true

below_in : (n : ℕ) (f : Forest) (k q : ℕ) → IsForest f → is_within f k q ≡ true → q ≢ k → length (ancestors f q) < n → IsBelow f k q
below_in zero f k q h inside other short = absurd (omega (arith, short))
below_in (suc n) f k q h inside other short =
    elim (cases_option (parent_of f q)) [
      | inl none ↦ absurd (grind (arith, inside, is_within-top f k q h none other))
      | inr (p, up) ↦ elim (cases_eq p k) [
        | inl here ↦ record { child = q; up = up ∙ ap (λ n. Some n) here; inside = is_within-self f q ∙ has-child f q p up }
        | inr above ↦
            let step =
            below_in n f k p h (sym (is_within-up f k q p h up other) ∙ inside) above (omega (arith, short, ap length (ancestors-step f q p h up))) in
            record { child = step.child; up = step.up; inside = is_within-trans f step.child p q h step.inside (within_parent f q p h up) }
      ]
    ] where
      within_parent : (f : Forest) (q p : ℕ) → IsForest f → parent_of f q ≡ Some p → is_within f p q ≡ true
      within_parent f q p h up =
          elim (cases_eq q p) [
            | inl same ↦ ap (λ x. is_within f x q) (sym same) ∙ is_within-self f q ∙ has-child f q p up
            | inr apart ↦ is_within-up f p q p h up apart ∙ is_within-self f p ∙ has-parent_of f q p up
          ]

pub is_within-child : (f : Forest) (k q : ℕ) → IsForest f → is_within f k q ≡ true → q ≢ k → IsBelow f k q
is_within-child f k q h inside other = below_in (suc (length (ancestors f q))) f k q h inside other (omega arith)
