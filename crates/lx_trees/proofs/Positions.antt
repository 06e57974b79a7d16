-- The laws of positions in a list of names: by index, and from a name on in either direction.
use Rattle.std.proofs.Common.{◌≡◌, ℕ, zero, suc, ◌+◌, ◌<◌, ◌≤◌, true, false, List, [], ◌∷◌, ◌++◌, length, Option, None, Some, refl, ◌∙◌, arith, inl, inr}
use Rattle.std.specs.Prelude.{option_map, unwrap_or, slice_get, insert}
use Rattle.std.proofs.lemmas.Option.{slice_get_within}
use Rattle.std.proofs.lemmas.Bool.Decides.{eqb_tells}
use Rattle.lx_trees.specs.Siblings.{is_named, is_among, NoRepeats, first_of, last_of, next_in, previous_in, index_in, names_without, names_with, from_name}
use Rattle.lx_trees.proofs.Siblings.{is_some-index_in, previous_from-among, previous_from-apart, next_in-apart, is_some-previous_from, is_named_tells, names_without-absent_list, length-names_without, is_among-names_without}

-- ---- by index

pub slice_get-index_in : (xs : List ℕ) (k i : ℕ) → index_in xs k ≡ Some i → slice_get xs i ≡ Some k
slice_get-index_in [] k i e = absurd (grind arith)
slice_get-index_in (x ∷ xs) k zero e = grind (arith, eqb_tells x k)
slice_get-index_in (x ∷ xs) k (suc i) e = grind (arith, slice_get-index_in xs k i)

pub is_among-slice_get : (xs : List ℕ) (k i : ℕ) → slice_get xs i ≡ Some k → is_among k xs ≡ true
is_among-slice_get [] k i e = absurd (grind arith)
is_among-slice_get (x ∷ xs) k zero e = grind (arith, eqb_tells x k)
is_among-slice_get (x ∷ xs) k (suc i) e = grind (arith, is_among-slice_get xs k i)

pub index_in-slice_get : (xs : List ℕ) (k i : ℕ) → NoRepeats xs → slice_get xs i ≡ Some k → index_in xs k ≡ Some i
index_in-slice_get [] k i u e = absurd (grind arith)
index_in-slice_get (x ∷ xs) k zero u e = grind (arith, eqb_tells x k)
index_in-slice_get (x ∷ xs) k (suc i) u e = grind (arith, eqb_tells x k, index_in-slice_get xs k i, is_among-slice_get xs k i)

pub index_in-lt : (xs : List ℕ) (k i : ℕ) → index_in xs k ≡ Some i → i < length xs
index_in-lt xs k i e = slice_get_within xs i k (slice_get-index_in xs k i e)

-- a name comes at the index of the one that it comes before
pub names_with-insert : (xs : List ℕ) (k i : ℕ) → NoRepeats xs → i ≤ length xs → names_with (slice_get xs i) (k ∷ []) xs ≡ insert xs i k
names_with-insert [] k zero u l = refl
names_with-insert [] k (suc i) u l = absurd (omega arith)
names_with-insert (x ∷ xs) k zero u l = grind (arith, eqb_tells x x)
names_with-insert (x ∷ xs) k (suc i) u l =
    grind (arith, names_with-insert xs k i, is_named_tells (slice_get xs i) x, is_among-slice_get xs x i)

-- and one that came can leave again
pub names_without-names_with : (before : Option ℕ) (k : ℕ) (xs : List ℕ) → is_among k xs ≡ false → names_without k (names_with before (k ∷ []) xs) ≡ xs
names_without-names_with before k [] n = grind (arith, eqb_tells k k)
names_without-names_with before k (x ∷ xs) n = grind (arith, eqb_tells k k, names_without-names_with before k xs, names_without-absent_list k xs)

-- the index is one more than that of the name before
pub index_in-first : (xs : List ℕ) (k : ℕ) → is_among k xs ≡ true → previous_in xs k ≡ None → index_in xs k ≡ Some 0
index_in-first [] k e p = absurd (grind arith)
index_in-first (x ∷ xs) k e p = grind (arith, is_some-previous_from x xs k)

pub index_in-step : (xs : List ℕ) (k m : ℕ) → NoRepeats xs → previous_in xs k ≡ Some m → index_in xs k ≡ option_map (λ i. i + 1) (index_in xs m)
index_in-step [] k m u p = absurd (grind arith)
index_in-step (x ∷ []) k m u p = absurd (grind arith)
index_in-step (x ∷ y ∷ xs) k m u p =
    elim (eqb_tells x k) [
      | inl own ↦ absurd (grind (arith, own))
      | inr other ↦ elim (eqb_tells y k) [
        | inl second ↦ grind (arith, other, second, eqb_tells x m)
        | inr later ↦ grind (arith, other, later, index_in-step (y ∷ xs) k m u.1, previous_from-apart None (y ∷ xs) k x, eqb_tells x m, eqb_tells m x)
      ]
    ]

-- neighbours and ends, by index
pub first_of-slice_get : (xs : List ℕ) → first_of xs ≡ slice_get xs 0
first_of-slice_get [] = refl
first_of-slice_get (x ∷ xs) = refl

pub last_of-slice_get : (x : ℕ) (xs : List ℕ) → last_of (x ∷ xs) ≡ slice_get (x ∷ xs) (length xs)
last_of-slice_get x [] = refl
last_of-slice_get x (y ∷ ys) = last_of-slice_get y ys

pub next_in-slice_get : (xs : List ℕ) (k i : ℕ) → NoRepeats xs → slice_get xs i ≡ Some k → next_in xs k ≡ slice_get xs (suc i)
next_in-slice_get [] k i u e = absurd (grind arith)
next_in-slice_get (x ∷ xs) k zero u e = grind (arith, eqb_tells x k, first_of-slice_get xs)
next_in-slice_get (x ∷ xs) k (suc i) u e = grind (arith, eqb_tells x k, is_among-slice_get xs k i, next_in-slice_get xs k i)

pub previous_in-slice_get : (xs : List ℕ) (k i : ℕ) → NoRepeats xs → slice_get xs (suc i) ≡ Some k → previous_in xs k ≡ slice_get xs i
previous_in-slice_get [] k i u e = absurd (grind arith)
previous_in-slice_get (x ∷ []) k i u e = absurd (grind arith)
previous_in-slice_get (x ∷ y ∷ xs) k zero u e = grind (arith, eqb_tells x k, eqb_tells y k, eqb_tells y x)
previous_in-slice_get (x ∷ y ∷ xs) k (suc i) u e =
    grind (arith, eqb_tells x k, eqb_tells y k, is_among-slice_get (y ∷ xs) k (suc i), is_among-slice_get xs k i, previous_in-slice_get (y ∷ xs) k i)

-- the index of a name as a number, and 0 for one that isn't there
abbrev pub place_in : List ℕ → ℕ → ℕ
place_in xs k = unwrap_or (index_in xs k) 0

pub index_in-among : (xs : List ℕ) (k : ℕ) → is_among k xs ≡ true → index_in xs k ≡ Some (place_in xs k)
index_in-among xs k e = grind (arith, is_some-index_in xs k)

pub slice_get-place_in : (xs : List ℕ) (k : ℕ) → is_among k xs ≡ true → slice_get xs (place_in xs k) ≡ Some k
slice_get-place_in xs k e = slice_get-index_in xs k (place_in xs k) (index_in-among xs k e)

-- the step from a name to the one before it
pub record StepsBack (xs : List ℕ) (k m : ℕ) : Type 0 where
  pub among : is_among m xs ≡ true
  pub place : place_in xs m + 1 ≡ place_in xs k

pub previous_in-place : (xs : List ℕ) (k m : ℕ) → NoRepeats xs → previous_in xs k ≡ Some m → StepsBack xs k m
previous_in-place xs k m u p =
    let there : is_among m xs ≡ true = previous_from-among None xs k m p in
    record { among = there; place = grind (arith, index_in-step xs k m u p, index_in-among xs m there) }

-- ---- from a name on, and up to one

pub from_name-first : (xs : List ℕ) → from_name (first_of xs) xs ≡ xs
from_name-first [] = refl
from_name-first (x ∷ xs) = grind (arith, eqb_tells x x)

from_name-skip : (o : Option ℕ) (x : ℕ) (xs : List ℕ) → is_named o x ≡ false → from_name o (x ∷ xs) ≡ from_name o xs
from_name-skip None x xs e = refl
from_name-skip (Some k) x xs e = grind (arith, e, eqb_tells x k, eqb_tells k x)

pub from_name-step : (xs : List ℕ) (k : ℕ) → NoRepeats xs → is_among k xs ≡ true → from_name (Some k) xs ≡ k ∷ from_name (next_in xs k) xs
from_name-step [] k u e = absurd (grind arith)
from_name-step (x ∷ []) k u e = grind (arith, eqb_tells x k)
from_name-step (x ∷ y ∷ xs) k u e =
    elim (eqb_tells x k) [
      | inl own ↦ grind (arith, own, eqb_tells x y, eqb_tells y x, eqb_tells y y)
      | inr other ↦ grind (arith, other, from_name-step (y ∷ xs) k u.1, next_in-apart (y ∷ xs) k x, from_name-skip (next_in (y ∷ xs) k) x (y ∷ xs))
    ]

-- ---- how long

pub NoRepeats-names_without : (k : ℕ) (xs : List ℕ) → NoRepeats xs → NoRepeats (names_without k xs)
NoRepeats-names_without k [] u = tt
NoRepeats-names_without k (x ∷ xs) u =
    elim (eqb_tells x k) [
      | inl own ↦ rw own.0 (NoRepeats-names_without k xs u.1)
      | inr other ↦ rw other.0 (grind (arith, u.0, is_among-names_without k x xs), NoRepeats-names_without k xs u.1)
    ]

-- lists with the same members, each once, are equally long
pub same_length : (xs ys : List ℕ) → NoRepeats xs → NoRepeats ys → ((q : ℕ) → is_among q xs ≡ is_among q ys) → length xs ≡ length ys
same_length [] [] u v same = refl
same_length [] (y ∷ ys) u v same = absurd (grind (arith, same y, eqb_tells y y))
same_length (x ∷ xs) ys u v same =
    let there : is_among x ys ≡ true = grind (arith, same x, eqb_tells x x) in
    let rest : length xs ≡ length (names_without x ys) =
    same_length xs (names_without x ys) u.1 (NoRepeats-names_without x ys v)
    (λ q. grind (arith, u.0, same q, is_among-names_without x q ys, eqb_tells x q, eqb_tells q x)) in
    grind (arith, there, rest, length-names_without x ys v)
