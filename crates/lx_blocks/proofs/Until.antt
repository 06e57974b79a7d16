-- Nodes up to one: what is ahead of it and after it, and the last of them.
use Rattle.std.proofs.Common.{◌≡◌, ◌∙◌, ◌⊎◌, inl, inr, ℕ, ◌<◌, ◌≤◌, Bool, true, false, cond, eqb, ◌&&◌, List, [], ◌∷◌, ◌++◌, length, Option, None, Some, refl, sym, ap, arith}
use Rattle.std.specs.Prelude.{filter}
use Rattle.std.proofs.lemmas.List.{append-nil}
use Rattle.std.proofs.lemmas.Bool.{cases_Bool}
use Rattle.std.proofs.lemmas.Bool.Decides.{eqb_tells}
use Rattle.lx_trees.specs.Siblings.{is_named, is_among, NoRepeats, first_of, last_from, last_of}
use Rattle.lx_trees.proofs.Siblings.{is_among-append, index_in-append}
use Rattle.lx_trees.proofs.Positions.{place_in, index_in-lt, index_in-among}
use Rattle.lx_blocks.specs.Places.{until}

-- ---- up to a node

-- the node in a front, and after one
pub until_ahead : (end : ℕ) (xs ys : List ℕ) → is_among end xs ≡ true → until (Some end) (xs ++ ys) ≡ until (Some end) xs
until_ahead end [] ys e = absurd (grind arith)
until_ahead end (x ∷ xs) ys e = grind (arith, until_ahead end xs ys)

pub until_past : (end : ℕ) (xs ys : List ℕ) → is_among end xs ≡ false → until (Some end) (xs ++ ys) ≡ xs ++ until (Some end) ys
until_past end [] ys e = refl
until_past end (x ∷ xs) ys e = grind (arith, until_past end xs ys)

until_here : (end : ℕ) (xs : List ℕ) → until (Some end) (end ∷ xs) ≡ []
until_here end xs = grind (arith, eqb_tells end end)

-- the node itself isn't among those before it
pub until_without : (end : ℕ) (xs : List ℕ) → is_among end (until (Some end) xs) ≡ false
until_without end [] = refl
until_without end (x ∷ xs) = grind (arith, until_without end xs)

pub until_none : (xs : List ℕ) → until None xs ≡ xs
until_none [] = refl
until_none (x ∷ xs) = ap (λ ys. x ∷ ys) (until_none xs)

-- of names that occur once, those of a front aren't after it
apart : (xs ys : List ℕ) (q : ℕ) → NoRepeats (xs ++ ys) → is_among q xs ≡ true → is_among q ys ≡ false
apart [] ys q u e = absurd (grind arith)
apart (x ∷ xs) ys q u e = grind (arith, apart xs ys q u.1, u.0, eqb_tells x q, is_among-append x xs ys)

pub no_repeats_front : (xs ys : List ℕ) → NoRepeats (xs ++ ys) → NoRepeats xs
no_repeats_front [] ys u = tt
no_repeats_front (x ∷ xs) ys u = (grind (arith, u.0, is_among-append x xs ys), no_repeats_front xs ys u.1)

-- what is ahead of a back is the front
pub until_front : (xs ys : List ℕ) → NoRepeats (xs ++ ys) → until (first_of ys) (xs ++ ys) ≡ xs
until_front xs [] u = until_none (xs ++ []) ∙ append-nil xs
until_front xs (y ∷ ys) u =
    let gone : is_among y xs ≡ false = elim_absent xs y ys u in
    until_past y xs (y ∷ ys) gone ∙ ap (λ zs. xs ++ zs) (until_here y ys) ∙ append-nil xs where
      elim_absent : (xs : List ℕ) (y : ℕ) (ys : List ℕ) → NoRepeats (xs ++ y ∷ ys) → is_among y xs ≡ false
      elim_absent [] y ys u = refl
      elim_absent (x ∷ xs) y ys u =
          grind (arith, elim_absent xs y ys u.1, u.0, eqb_tells x y, eqb_tells y y, is_among-append x xs (y ∷ ys), is_among-append y xs (y ∷ ys))

-- they are a front of the list
pub until_begins : (end : Option ℕ) (xs : List ℕ) → (rest : List ℕ) × (xs ≡ until end xs ++ rest)
until_begins end [] = ([], refl)
until_begins end (x ∷ xs) = elim (cases_Bool (is_named end x)) [
  | inl here ↦ (x ∷ xs, rw here refl)
  | inr past ↦ let more = until_begins end xs in (more.0, rw past (ap (λ ys. x ∷ ys) more.1))
]

-- ---- the last of them

last_from_append : (b : Option ℕ) (xs ys : List ℕ) → last_from b (xs ++ ys) ≡ last_from (last_from b xs) ys
last_from_append b [] ys = refl
last_from_append b (x ∷ xs) ys = last_from_append (Some x) xs ys

last_from_some : (b : Option ℕ) (xs : List ℕ) (q : ℕ) → last_of xs ≡ Some q → last_from b xs ≡ Some q
last_from_some b [] q e = absurd (grind arith)
last_from_some b (x ∷ xs) q e = e

-- the last of a back is the last of all
pub last_append : (xs ys : List ℕ) (q : ℕ) → last_of ys ≡ Some q → last_of (xs ++ ys) ≡ Some q
last_append xs ys q e = last_from_append None xs ys ∙ last_from_some (last_from None xs) ys q e

last_from_none : (x : ℕ) (xs : List ℕ) → last_from (Some x) xs ≡ None → false ≡ true
last_from_none x [] e = absurd (grind arith)
last_from_none x (y ∷ xs) e = last_from_none y xs e

-- where there is none, and where it is
pub last_none : (xs : List ℕ) → last_of xs ≡ None → xs ≡ []
last_none [] e = refl
last_none (x ∷ xs) e = absurd (grind (arith, last_from_none x xs e))

pub last_among : (b : Option ℕ) (xs : List ℕ) (q : ℕ) → last_from b xs ≡ Some q → (is_named b q ≡ true) ⊎ (is_among q xs ≡ true)
last_among b [] q e = inl (grind (arith, ap (λ o. is_named o q) e, eqb_tells q q))
last_among b (x ∷ xs) q e = elim (last_among (Some x) xs q e) [
  | inl own ↦ inr (grind (arith, own, eqb_tells q x, eqb_tells x q))
  | inr later ↦ inr (grind (arith, later))
]

-- all are those before the last, and that one
pub last_splits : (xs : List ℕ) (q : ℕ) → NoRepeats xs → last_of xs ≡ Some q → xs ≡ until (Some q) xs ++ q ∷ []
last_splits [] q u e = absurd (grind arith)
last_splits (x ∷ []) q u e = grind (arith, eqb_tells x q)
last_splits (x ∷ y ∷ xs) q u e =
    let later : y ∷ xs ≡ until (Some q) (y ∷ xs) ++ q ∷ [] = last_splits (y ∷ xs) q u.1 e in
    let other : eqb x q ≡ false =
    elim (last_among None (y ∷ xs) q e) [ inl own ↦ absurd (grind arith) | inr there ↦ grind (arith, there, u.0, eqb_tells x q) ] in
    ap (λ zs. x ∷ zs) later ∙ ap (λ b. cond b [] (x ∷ until (Some q) (y ∷ xs)) ++ q ∷ []) (sym other)

-- ---- where names are

-- a name comes after a front just where no fewer come before it
pub back_tells : (xs ys : List ℕ) (q : ℕ) → NoRepeats (xs ++ ys) → is_among q (xs ++ ys) ≡ true →
    ((is_among q xs ≡ true) × (is_among q ys ≡ false) × (place_in (xs ++ ys) q < length xs))
    ⊎ ((is_among q xs ≡ false) × (is_among q ys ≡ true) × (length xs ≤ place_in (xs ++ ys) q))
back_tells xs ys q u e = by_test (is_among q xs) refl where
  by_test : (b : Bool) → is_among q xs ≡ b
      → ((is_among q xs ≡ true) × (is_among q ys ≡ false) × (place_in (xs ++ ys) q < length xs))
      ⊎ ((is_among q xs ≡ false) × (is_among q ys ≡ true) × (length xs ≤ place_in (xs ++ ys) q))
  by_test true is = inl (is, apart xs ys q u is, grind (arith, is, index_in-append xs ys q, index_in-among xs q is, index_in-lt xs q (place_in xs q)))
  by_test false is =
      let there : is_among q ys ≡ true = grind (arith, is, e, is_among-append q xs ys) in
      inr (is, there, grind (arith, is, index_in-append xs ys q, index_in-among ys q there))

-- ---- those that pass a test

pub filter_among : (test : ℕ → Bool) (xs : List ℕ) (q : ℕ) → is_among q (filter test xs) ≡ (is_among q xs && test q)
filter_among test [] q = refl
filter_among test (x ∷ xs) q = elim (eqb_tells x q) [
  | inl own ↦ grind (arith, own, ap test own.1, filter_among test xs q)
  | inr other ↦ grind (arith, other, filter_among test xs q)
]

-- tests that agree on the members
pub filter_alike : (test other : ℕ → Bool) (xs : List ℕ) → ((q : ℕ) → is_among q xs ≡ true → test q ≡ other q) → filter test xs ≡ filter other xs
filter_alike test other [] same = refl
filter_alike test other (x ∷ xs) same =
    let rest : filter test xs ≡ filter other xs = filter_alike test other xs (λ q among. same q (grind (arith, among))) in
    let here : test x ≡ other x = same x (grind (arith, eqb_tells x x)) in
    ap (λ ys. cond (test x) (x ∷ ys) ys) rest ∙ ap (λ b. cond b (x ∷ filter other xs) (filter other xs)) here
