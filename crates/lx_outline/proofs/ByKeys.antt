-- Sums over the nodes of a forest, key by key.
use Rattle.std.proofs.Common.{◌≡◌, ◌∙◌, ℕ, ◌+◌, ◌<◌, ◌≤◌, true, false, cond, eqb, ◌||◌, zero, suc, List, [], ◌∷◌, inl, inr, refl, sym, ap, arith}
use Rattle.std.specs.Prelude.{sum_by}
use Rattle.std.proofs.lemmas.Bool.{cases_Bool}
use Rattle.std.proofs.lemmas.Bool.Decides.{eqb_tells, nat_tests}
use Rattle.std.proofs.lemmas.List.Sums.{sum_by-cons}
use Rattle.lx_trees.specs.Siblings.{is_among, NoRepeats}
use Rattle.lx_trees.specs.Trees.{nil, tree, joined}
use Rattle.lx_trees.proofs.NamedTrees.{alone-absent, joined-nil}
use Rattle.lx_forest.specs.Forest.{Label, Forest}
use Rattle.lx_forest.specs.Lookups.{key_of, count, has, alone}
use Rattle.lx_forest.specs.Weights.{weight, weight_in, own_weight}
use Rattle.lx_forest.proofs.Lookups.{alone-spot}
use Rattle.lx_links.specs.Stands.{Sound}
use Rattle.lx_links.proofs.Up.{in_order_at}
use Rattle.lx_outline.proofs.HeadingText.{is_there}
use Rattle.lx_outline.proofs.Absent.{no_weight}

-- ---- a sum over all numbers below one

pub all_below : (ℕ → ℕ) → ℕ → ℕ
all_below g zero = 0
all_below g (suc n) = all_below g n + g n

pub all_below-same : (a b : ℕ → ℕ) (n : ℕ) → ((q : ℕ) → a q ≡ b q) → all_below a n ≡ all_below b n
unfolding all_below
all_below-same a b zero same = refl
all_below-same a b (suc n) same = omega (arith, all_below-same a b n same, same n)

pub all_below-sum : (a b : ℕ → ℕ) (n : ℕ) → all_below (λ q. a q + b q) n ≡ all_below a n + all_below b n
unfolding all_below
all_below-sum a b zero = refl
all_below-sum a b (suc n) = omega (arith, all_below-sum a b n)

all_below-none : (n : ℕ) → all_below (λ q. 0) n ≡ 0
unfolding all_below
all_below-none zero = refl
all_below-none (suc n) = omega (arith, all_below-none n)

-- one number alone
one_over : (k c n : ℕ) → n ≤ k → all_below (λ q. cond (eqb k q) c 0) n ≡ 0
unfolding all_below
one_over k c zero over = refl
one_over k c (suc n) over = grind (arith, nat_tests, one_over k c n (omega (arith, over)), eqb_tells k n)

one_below : (k c n : ℕ) → k < n → all_below (λ q. cond (eqb k q) c 0) n ≡ c
unfolding all_below
one_below k c zero under = absurd (omega (arith, under))
one_below k c (suc n) under = elim (eqb_tells k n) [
  | inl same ↦ omega (arith, ap (λ b. cond b c 0) same.0, one_over k c n (omega (arith, same.1)))
  | inr other ↦
      let less : k < n = omega (arith, under, other.1) in
      omega (arith, ap (λ b. cond b c 0) other.0, one_below k c n less)
]

-- ---- a list of numbers, and all others

abbrev pub others : List ℕ → (ℕ → ℕ) → ℕ → ℕ
others ks g q = cond (is_among q ks) 0 (g q)

split_one : (g : ℕ → ℕ) (k : ℕ) (ks : List ℕ) (q : ℕ) → is_among k ks ≡ false → others ks g q ≡ cond (eqb k q) (g k) 0 + others (k ∷ ks) g q
split_one g k ks q apart = elim (eqb_tells k q) [
  | inl same ↦
      let away : is_among q ks ≡ false = sym (ap (λ x. is_among x ks) same.1) ∙ apart in
      ap (λ b. cond b 0 (g q)) away ∙ sym (ap g same.1)
      ∙ sym (omega (arith, ap (λ b. cond b (g k) 0) same.0, ap (λ b. cond (b || is_among q ks) 0 (g q)) same.0))
  | inr other ↦ omega (arith, ap (λ b. cond b (g k) 0) other.0, ap (λ b. cond (b || is_among q ks) 0 (g q)) other.0)
]

pub with_others : (g : ℕ → ℕ) (ks : List ℕ) (n : ℕ) → NoRepeats ks → ((k : ℕ) → is_among k ks ≡ true → k < n)
    → sum_by g ks + all_below (others ks g) n ≡ all_below g n
with_others g [] n once within = omega (arith, all_below-same (others [] g) g n (λ q. refl))
with_others g (k ∷ ks) n once within =
    let apart = all_below-same (others ks g) (λ q. cond (eqb k q) (g k) 0 + others (k ∷ ks) g q) n (λ q. split_one g k ks q once.0) in
    let sums = all_below-sum (λ q. cond (eqb k q) (g k) 0) (others (k ∷ ks) g) n in
    let own = one_below k (g k) n (within k (grind (arith, eqb_tells k k))) in
    let rest = with_others g ks n once.1 (λ q e. within q (grind (arith, e))) in
    omega (arith, apart, sums, own, rest, sum_by-cons g k ks)

-- ---- what each node and what is below it are worth

abbrev pub total_of : (Label → Forest → ℕ) → Forest → ℕ
total_of worth nil = 0
total_of worth (tree l below rest) = worth l below + total_of worth below + total_of worth rest

abbrev pub worth_at : (Label → Forest → ℕ) → ℕ → Forest → ℕ
worth_at worth q nil = 0
worth_at worth q (tree l below rest) = cond (eqb l.key q) (worth l below) 0 + worth_at worth q below + worth_at worth q rest

-- a number above all keys
abbrev pub top_key : Forest → ℕ
top_key nil = 0
top_key (tree l below rest) = l.key + 1 + top_key below + top_key rest

pub below_top : (f : Forest) (q : ℕ) → 0 < count q f → q < top_key f
below_top nil q there = absurd (omega (arith, there))
below_top (tree l below rest) q there = grind (arith, there, eqb_tells l.key q, below_top below q, below_top rest q)

module _ (worth : Label → Forest → ℕ) where
  pub total_by_keys : (f : Forest) (n : ℕ) → top_key f ≤ n → all_below (λ q. worth_at worth q f) n ≡ total_of worth f
  total_by_keys nil n enough = all_below-none n
  total_by_keys (tree l below rest) n enough =
      let outer = all_below-sum (λ q. cond (eqb l.key q) (worth l below) 0 + worth_at worth q below) (λ q. worth_at worth q rest) n in
      let inner = all_below-sum (λ q. cond (eqb l.key q) (worth l below) 0) (λ q. worth_at worth q below) n in
      let own = one_below l.key (worth l below) n (omega (arith, enough)) in
      omega (arith, outer, inner, own, total_by_keys below n (omega (arith, enough)), total_by_keys rest n (omega (arith, enough)))

  worth_absent : (f : Forest) (q : ℕ) → count q f ≡ 0 → worth_at worth q f ≡ 0
  worth_absent nil q none = refl
  worth_absent (tree l below rest) q none = grind (arith, none, eqb_tells l.key q, worth_absent below q, worth_absent rest q)

  abbrev pub head_worth : Forest → ℕ
  head_worth nil = 0
  head_worth (tree l below rest) = worth l below

  -- what a node that is there once is worth, by its tree
  pub worth_alone : (f : Forest) (q : ℕ) → count q f < 2 → worth_at worth q f ≡ head_worth (alone q f)
  worth_alone nil q once = refl
  worth_alone (tree l below rest) q once = elim (eqb_tells l.key q) [
    | inl own ↦ grind (arith, own.0, once, worth_absent below q, worth_absent rest q)
    | inr other ↦ elim (cases_Bool (has q below)) [
      | inl inside ↦
          let none : count q rest ≡ 0 = grind (arith, nat_tests, once, other.0, inside) in
          let away : alone q rest ≡ nil = alone-absent key_of q rest none in
          omega (
            arith,
            ap (λ b. cond b (worth l below) 0) other.0,
            worth_absent rest q none,
            worth_alone below q (grind (arith, once, other.0)),
            ap (λ b. head_worth (cond b (tree l below (alone q rest)) (joined (alone q below) (alone q rest)))) other.0,
            ap (λ t. head_worth (joined (alone q below) t)) away,
            ap head_worth (joined-nil (alone q below)),
          )
      | inr outside ↦
          let none : count q below ≡ 0 = grind (arith, nat_tests, outside) in
          let away : alone q below ≡ nil = alone-absent key_of q below none in
          omega (
            arith,
            ap (λ b. cond b (worth l below) 0) other.0,
            worth_absent below q none,
            worth_alone rest q (grind (arith, once, other.0)),
            ap (λ b. head_worth (cond b (tree l below (alone q rest)) (joined (alone q below) (alone q rest)))) other.0,
            ap (λ t. head_worth (joined t (alone q rest))) away,
          )
    ]
  ]

-- ---- weights

weight_total : (of : Label → ℕ) (f : Forest) → weight of f ≡ total_of (λ l below. of l) f
weight_total of nil = refl
weight_total of (tree l below rest) = omega (arith, weight_total of below, weight_total of rest)

own_worth : (of : Label → ℕ) (f : Forest) (q : ℕ) → Sound f → own_weight of f q ≡ worth_at (λ l below. of l) q f
own_worth of f q sound = elim (cases_Bool (has q f)) [
  | inl there ↦
      let h = in_order_at f q sound there in
      let s = is_there f q there in
      ap (weight_in of) s.label_is ∙ sym (ap (head_worth (λ l below. of l)) (alone-spot f q s.at h s.at_is))
      ∙ sym (worth_alone (λ l below. of l) f q (h.once q))
  | inr absent ↦ no_weight of f q absent ∙ sym (worth_absent (λ l below. of l) f q (grind (arith, nat_tests, absent)))
]

-- all nodes weigh what they do key by key
pub weight_by_keys : (of : Label → ℕ) (f : Forest) (n : ℕ) → Sound f → top_key f ≤ n → all_below (own_weight of f) n ≡ weight of f
weight_by_keys of f n sound enough =
    all_below-same (own_weight of f) (λ q. worth_at (λ l below. of l) q f) n (λ q. own_worth of f q sound)
    ∙ total_by_keys (λ l below. of l) f n enough ∙ sym (weight_total of f)
