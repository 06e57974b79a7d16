-- Which of two names of a list comes first, where others leave or come.
use Rattle.std.proofs.Common.{◌≡◌, ℕ, ◌+◌, ◌<◌, Bool, true, false, cond, eqb, ◌&&◌, List, [], ◌∷◌, ◌++◌, length, append_assoc, Option, None, Some, refl, sym, ap, ◌∙◌, subst, arith, inl, inr}
use Rattle.std.specs.Prelude.{is_some, option_map}
use Rattle.std.specs.List.{filter}
use Rattle.std.specs.Ordering.{nat_cmp, ordering_reverse}
use Rattle.std.specs.declared.cmp.Ordering.{Ordering}
use Rattle.std.specs.declared.cmp.Ordering.TheVariants.{Less, Greater}
use Rattle.std.proofs.lemmas.Bool.{cases_Bool}
use Rattle.std.proofs.lemmas.Bool.Decides.{eqb_tells, nat_tests}
use Rattle.std.proofs.lemmas.List.{append-nil}
use Rattle.lx_trees.specs.Siblings.{is_named, is_among, NoRepeats, first_of, index_in, names_with}
use Rattle.lx_trees.proofs.Positions.{index_in-lt}
use Rattle.lx_trees.proofs.Siblings.{is_some-index_in, index_in-append, is_among-append, is_among-names_with}
use Rattle.lx_trees.specs.Lookups.{order_between}

-- ---- where names leave, or new ones come

order_between-later : (n : ℕ) (o r : Option ℕ) → order_between (option_map (λ i. n + i) o) (option_map (λ i. n + i) r) ≡ order_between o r
order_between-later n None r = refl
order_between-later n (Some i) None = refl
order_between-later n (Some i) (Some j) = grind (arith, nat_tests)

order_between-next : (o r : Option ℕ) → order_between (option_map (λ i. i + 1) o) (option_map (λ i. i + 1) r) ≡ order_between o r
order_between-next None r = refl
order_between-next (Some i) None = refl
order_between-next (Some i) (Some j) = grind (arith, nat_tests)

-- an index after the first is greater, whichever it is
first_before : (o r : Option ℕ) → is_some o ≡ is_some r
    → order_between (Some 0) (option_map (λ i. i + 1) o) ≡ order_between (Some 0) (option_map (λ i. i + 1) r)
first_before None None e = refl
first_before None (Some j) e = absurd (grind arith)
first_before (Some i) None e = absurd (grind arith)
first_before (Some i) (Some j) e = grind (arith, nat_tests)

first_after : (o r : Option ℕ) → is_some o ≡ is_some r → order_between (option_map (λ i. i + 1) o) (Some 0) ≡ order_between (option_map (λ i. i + 1) r) (Some 0)
first_after None None e = refl
first_after None (Some j) e = absurd (grind arith)
first_after (Some i) None e = absurd (grind arith)
first_after (Some i) (Some j) e = grind (arith, nat_tests)

no_first : (o r : Option ℕ) → is_some o ≡ false → (order_between o r ≡ None) × (order_between r o ≡ None)
no_first None None e = (refl, refl)
no_first None (Some j) e = (refl, refl)
no_first (Some i) r e = absurd (grind arith)

-- lists that begin alike and order the names after that alike
same_first : (x : ℕ) (xs ys : List ℕ) (a b : ℕ) → is_among a xs ≡ is_among a ys → is_among b xs ≡ is_among b ys
    → order_between (index_in xs a) (index_in xs b) ≡ order_between (index_in ys a) (index_in ys b) →
    order_between (index_in (x ∷ xs) a) (index_in (x ∷ xs) b) ≡ order_between (index_in (x ∷ ys) a) (index_in (x ∷ ys) b)
same_first x xs ys a b there_a there_b same =
    grind (arith, eqb_tells x a, eqb_tells x b, is_some-index_in xs a, is_some-index_in ys a, is_some-index_in xs b, is_some-index_in ys b, first_before (index_in xs b) (index_in ys b), first_after (index_in xs a) (index_in ys a), order_between-next (index_in xs a) (index_in xs b), order_between-next (index_in ys a) (index_in ys b))

is_among-filter : (keep : ℕ → Bool) (xs : List ℕ) (q : ℕ) → is_among q (filter keep xs) ≡ (keep q && is_among q xs)
is_among-filter keep [] q = grind arith
is_among-filter keep (x ∷ xs) q = grind (arith, eqb_tells x q, is_among-filter keep xs q)

order_kept : (keep : ℕ → Bool) (xs : List ℕ) (a b : ℕ) → keep a ≡ true → keep b ≡ true
    → order_between (index_in (filter keep xs) a) (index_in (filter keep xs) b) ≡ order_between (index_in xs a) (index_in xs b)
order_kept keep [] a b kept_a kept_b = refl
order_kept keep (x ∷ xs) a b kept_a kept_b =
    elim (cases_Bool (keep x)) [
      | inl kept ↦
          rw kept (same_first x (filter keep xs) xs a b (is_among-filter keep xs a ∙ rw kept_a refl) (is_among-filter keep xs b ∙ rw kept_b refl)
          (order_kept keep xs a b kept_a kept_b))
      | inr gone ↦
          grind (arith, gone, kept_a, kept_b, eqb_tells x a, eqb_tells x b, order_kept keep xs a b kept_a kept_b, order_between-next (index_in xs a) (index_in xs b))
    ]

-- names that are kept keep their order, and one that isn't has no place
pub order-filter : (keep : ℕ → Bool) (xs : List ℕ) (a b : ℕ)
    → order_between (index_in (filter keep xs) a) (index_in (filter keep xs) b) ≡ cond (keep a && keep b) (order_between (index_in xs a) (index_in xs b)) None
order-filter keep xs a b =
    grind (arith, cases_Bool (keep a), cases_Bool (keep b), order_kept keep xs a b, is_some-index_in (filter keep xs) a, is_some-index_in (filter keep xs) b, is_among-filter keep xs a, is_among-filter keep xs b, no_first (index_in (filter keep xs) a) (index_in (filter keep xs) b), no_first (index_in (filter keep xs) b) (index_in (filter keep xs) a))

-- so do others where new names come
pub order-names_with : (before : Option ℕ) (new xs : List ℕ) (a b : ℕ) → is_among a new ≡ false → is_among b new ≡ false
    → order_between (index_in (names_with before new xs) a) (index_in (names_with before new xs) b) ≡ order_between (index_in xs a) (index_in xs b)
order-names_with before new [] a b far_a far_b = grind (arith, no_first (index_in new a) (index_in new b), is_some-index_in new a)
order-names_with before new (x ∷ xs) a b far_a far_b =
    elim (cases_Bool (is_named before x)) [
      | inl here ↦
          let at_a : index_in (new ++ x ∷ xs) a ≡ option_map (λ i. length new + i) (index_in (x ∷ xs) a) = index_in-append new (x ∷ xs) a ∙ rw far_a refl in
          let at_b : index_in (new ++ x ∷ xs) b ≡ option_map (λ i. length new + i) (index_in (x ∷ xs) b) = index_in-append new (x ∷ xs) b ∙ rw far_b refl in
          rw (here, at_a, at_b) (order_between-later (length new) (index_in (x ∷ xs) a) (index_in (x ∷ xs) b))
      | inr other ↦
          rw other
          (same_first x (names_with before new xs) xs a b (is_among-names_with before new xs a ∙ rw far_a refl)
          (is_among-names_with before new xs b ∙ rw far_b refl) (order-names_with before new xs a b far_a far_b))
    ]

-- the new names keep the order that they had
pub order-names_with_new : (before : Option ℕ) (new xs : List ℕ) (a b : ℕ) → is_among a new ≡ true → is_among b new ≡ true → is_among a xs ≡ false
    → is_among b xs ≡ false
    → order_between (index_in (names_with before new xs) a) (index_in (names_with before new xs) b) ≡ order_between (index_in new a) (index_in new b)
order-names_with_new before new [] a b there_a there_b far_a far_b = refl
order-names_with_new before new (x ∷ xs) a b there_a there_b far_a far_b =
    grind (arith, eqb_tells x a, eqb_tells x b, index_in-append new (x ∷ xs) a, index_in-append new (x ∷ xs) b, order-names_with_new before new xs a b, order_between-next (index_in (names_with before new xs) a) (index_in (names_with before new xs) b))

-- ---- the other way round

reversed : (i j : ℕ) → nat_cmp j i ≡ ordering_reverse (nat_cmp i j)
reversed i j = grind (arith, nat_tests)

pub order_between-reversed : (o r : Option ℕ) → order_between r o ≡ option_map ordering_reverse (order_between o r)
order_between-reversed None None = refl
order_between-reversed None (Some j) = refl
order_between-reversed (Some i) None = refl
order_between-reversed (Some i) (Some j) = ap (λ c. Some c) (reversed i j)

-- ---- one in the middle of a list, and one ahead of that or after it

order_places : (o r : Option ℕ) (n : ℕ) → is_some o ≡ true → ((i : ℕ) → o ≡ Some i → i < n)
    → order_between o (option_map (λ j. n + j) r) ≡ cond (is_some r) (Some Less) None
order_places None r n e short = absurd (grind (arith, e))
order_places (Some i) None n e short = refl
order_places (Some i) (Some j) n e short = let l : i < n = short i refl in grind (arith, l, nat_tests)

order_ahead : (mid rest : List ℕ) (a b : ℕ) → is_among a mid ≡ true → is_among b mid ≡ false
    → order_between (index_in (mid ++ rest) a) (index_in (mid ++ rest) b) ≡ cond (is_among b rest) (Some Less) None
order_ahead mid rest a b in_a far_b =
    let at_a : index_in (mid ++ rest) a ≡ index_in mid a = index_in-append mid rest a ∙ rw in_a refl in
    let at_b : index_in (mid ++ rest) b ≡ option_map (λ i. length mid + i) (index_in rest b) = index_in-append mid rest b ∙ rw far_b refl in
    rw (at_a, at_b)
    (order_places (index_in mid a) (index_in rest b) (length mid) (is_some-index_in mid a ∙ in_a) (λ i e. index_in-lt mid a i e)
    ∙ ap (λ c. cond c (Some Less) None) (is_some-index_in rest b))

order_first : (i : Option ℕ) → order_between (option_map (λ n. n + 1) i) (Some 0) ≡ cond (is_some i) (Some Greater) None
order_first None = refl
order_first (Some i) = grind (arith, nat_tests)

-- how the names between these stand to one that isn't there
abbrev pub from_middle : List ℕ → List ℕ → ℕ → Option Ordering
from_middle front rest q = cond (is_among q front) (Some Greater) (cond (is_among q rest) (Some Less) None)

pub order_middle : (front mid rest : List ℕ) (a b : ℕ) → is_among a front ≡ false → is_among a mid ≡ true → is_among b mid ≡ false
    → order_between (index_in (front ++ (mid ++ rest)) a) (index_in (front ++ (mid ++ rest)) b) ≡ from_middle front rest b
order_middle [] mid rest a b far_a in_a far_b = order_ahead mid rest a b in_a far_b
order_middle (x ∷ front) mid rest a b far_a in_a far_b =
    grind (arith, far_a, in_a, far_b, eqb_tells x a, eqb_tells x b, order_middle front mid rest a b, order_between-next (index_in (front ++ (mid ++ rest)) a) (index_in (front ++ (mid ++ rest)) b), order_first (index_in (front ++ (mid ++ rest)) a), is_some-index_in (front ++ (mid ++ rest)) a, is_among-append a front (mid ++ rest), is_among-append a mid rest)

-- ---- where new names come

-- Before a name: what is ahead of it, and what comes after it, stays.
pub record IsCutAt (c : ℕ) (new xs front rest : List ℕ) : Type 0 where
  pub split : xs ≡ front ++ (c ∷ rest)
  pub come : names_with (Some c) new xs ≡ front ++ (new ++ c ∷ rest)
  pub ahead : is_among c front ≡ false

pub cut_at : (c : ℕ) (new xs : List ℕ) → is_among c xs ≡ true → (front rest : List ℕ) × IsCutAt c new xs front rest
cut_at c new [] e = absurd (grind (arith, e))
cut_at c new (x ∷ xs) e =
    elim (eqb_tells x c) [
      | inl own ↦ ([], xs, record { split = ap (λ y. y ∷ xs) own.1; come = rw own.0 (ap (λ y. new ++ y ∷ xs) own.1); ahead = refl })
      | inr other ↦
          let later = cut_at c new xs (grind (arith, e, other)) in (
            x ∷ later.0,
            later.1,
            record {
              split = ap (λ ys. x ∷ ys) later.2.split;
              come = rw other.0 (ap (λ ys. x ∷ ys) later.2.come);
              ahead = grind (arith, other, later.2.ahead);
            },
          )
    ]

names_with-end : (new xs : List ℕ) → names_with None new xs ≡ xs ++ new
names_with-end new [] = refl
names_with-end new (x ∷ xs) = ap (λ ys. x ∷ ys) (names_with-end new xs)

-- between a front and what comes after it
pub names_with-between : (new front rest : List ℕ) → NoRepeats (front ++ rest) → names_with (first_of rest) new (front ++ rest) ≡ front ++ (new ++ rest)
names_with-between new front [] u = rw (append-nil front, append-nil new) (names_with-end new front)
names_with-between new [] (y ∷ rest) u = grind (arith, eqb_tells y y)
names_with-between new (x ∷ front) (y ∷ rest) u =
    grind (arith, names_with-between new front (y ∷ rest), is_among-append x front (y ∷ rest), eqb_tells x y, eqb_tells y x)

-- a new one, and another: as the one before which it comes is to that, which itself it is before
pub order-come_before : (xs new : List ℕ) (c a b : ℕ) → is_among c xs ≡ true → is_among a new ≡ true → is_among a xs ≡ false → is_among b new ≡ false →
    order_between (index_in (names_with (Some c) new xs) a) (index_in (names_with (Some c) new xs) b)
    ≡ cond (eqb b c) (Some Less) (order_between (index_in xs c) (index_in xs b))
order-come_before xs new c a b there in_a far_a far_b =
    let cut = cut_at c new xs there in
    let front : List ℕ = cut.0 in
    let rest : List ℕ = cut.1 in
    let far : is_among a front ≡ false = grind (arith, far_a, ap (is_among a) cut.2.split, is_among-append a front (c ∷ rest)) in
    let new_one : order_between (index_in (names_with (Some c) new xs) a) (index_in (names_with (Some c) new xs) b) ≡ from_middle front (c ∷ rest) b =
    ap (λ ks. order_between (index_in ks a) (index_in ks b)) cut.2.come ∙ order_middle front new (c ∷ rest) a b far in_a far_b in
    let old_one : eqb b c ≡ false → order_between (index_in xs c) (index_in xs b) ≡ from_middle front rest b = λ other.
    ap (λ ks. order_between (index_in ks c) (index_in ks b)) cut.2.split
    ∙ order_middle front (c ∷ []) rest c b cut.2.ahead (grind (arith, eqb_tells c c)) (grind (arith, other, eqb_tells c b, eqb_tells b c)) in
    elim (eqb_tells b c) [
      | inl own ↦ rw own.0 (new_one ∙ grind (arith, own, cut.2.ahead, ap (λ x. is_among x front) own.1, eqb_tells c b))
      | inr other ↦ rw other.0 (new_one ∙ grind (arith, other, eqb_tells c b) ∙ sym (old_one other.0))
    ]

front_apart : (xs ys : List ℕ) (q : ℕ) → NoRepeats (xs ++ ys) → is_among q ys ≡ true → is_among q xs ≡ false
front_apart [] ys q once e = refl
front_apart (x ∷ xs) ys q once e = grind (arith, once.0, e, eqb_tells x q, is_among-append x xs ys, front_apart xs ys q once.1 e)

come_behind : (front own rest new : List ℕ) (p a b : ℕ) → NoRepeats (front ++ (own ++ rest)) → is_among p own ≡ true → is_among a new ≡ true
    → is_among a (front ++ (own ++ rest)) ≡ false → is_among b new ≡ false →
    order_between (index_in (names_with (first_of rest) new (front ++ (own ++ rest))) a) (index_in (names_with (first_of rest) new (front ++ (own ++ rest))) b)
    ≡ cond (is_among b own) (Some Greater) (order_between (index_in (front ++ (own ++ rest)) p) (index_in (front ++ (own ++ rest)) b))
come_behind front own rest new p a b once in_p in_a far_a far_b =
    let far_p : is_among p front ≡ false = front_apart front (own ++ rest) p once (grind (arith, in_p, is_among-append p own rest)) in
    let ahead : is_among a (front ++ own) ≡ false =
    grind (arith, far_a, is_among-append a front own, is_among-append a front (own ++ rest), is_among-append a own rest) in
    let come : names_with (first_of rest) new (front ++ (own ++ rest)) ≡ (front ++ own) ++ (new ++ rest) =
    ap (names_with (first_of rest) new) (sym (append_assoc front own rest))
    ∙ names_with-between new (front ++ own) rest (subst NoRepeats (sym (append_assoc front own rest)) once) in
    let new_one : order_between (index_in (names_with (first_of rest) new (front ++ (own ++ rest))) a)
    (index_in (names_with (first_of rest) new (front ++ (own ++ rest))) b) ≡ from_middle (front ++ own) rest b =
    ap (λ ks. order_between (index_in ks a) (index_in ks b)) come ∙ order_middle (front ++ own) new rest a b ahead in_a far_b in
    elim (cases_Bool (is_among b own)) [
      | inl inside ↦ rw inside (new_one ∙ grind (arith, inside, is_among-append b front own))
      | inr outside ↦ rw outside (new_one ∙ grind (arith, outside, is_among-append b front own) ∙ sym (order_middle front own rest p b far_p in_p outside))
    ]

-- one that comes right after others, and one that is elsewhere: after those, and else as each of those is to it
pub order-come_behind : (xs front own rest new : List ℕ) (p a b : ℕ) → xs ≡ front ++ (own ++ rest) → NoRepeats xs → is_among p own ≡ true
    → is_among a new ≡ true → is_among a xs ≡ false → is_among b new ≡ false →
    order_between (index_in (names_with (first_of rest) new xs) a) (index_in (names_with (first_of rest) new xs) b)
    ≡ cond (is_among b own) (Some Greater) (order_between (index_in xs p) (index_in xs b))
order-come_behind xs front own rest new p a b split once in_p in_a far_a far_b =
    subst (λ ks. NoRepeats ks → is_among a ks ≡ false
    → order_between (index_in (names_with (first_of rest) new ks) a) (index_in (names_with (first_of rest) new ks) b)
    ≡ cond (is_among b own) (Some Greater) (order_between (index_in ks p) (index_in ks b)))
    (sym split) (λ single apart. come_behind front own rest new p a b single in_p in_a apart far_b) once far_a
