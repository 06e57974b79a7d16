-- Lists of names of which those that pass a test come before the others; and names that are beside each other.
use Rattle.std.proofs.Common.{◌≡◌, ◌∙◌, ℕ, Bool, true, false, eqb, not, ◌&&◌, List, [], ◌∷◌, ◌++◌, Some, refl, ap, arith, inl, inr}
use Rattle.std.specs.List.{filter, list_any, list_all}
use Rattle.std.proofs.lemmas.Bool.Decides.{eqb_tells}
use Rattle.lx_trees.specs.Siblings.{is_among, NoRepeats, names_without, names_with, previous_from, previous_in}
use Rattle.lx_links.proofs.Detached.{is_among-filter}
use Rattle.lx_edit_laws.proofs.WrapLists.{apart}
use Rattle.lx_list_laws.specs.Reading.{stand_first}

-- ---- two tests that say the same

pub filter-same : (s t : ℕ → Bool) (xs : List ℕ) → ((q : ℕ) → is_among q xs ≡ true → s q ≡ t q) → filter s xs ≡ filter t xs
filter-same s t [] each = refl
filter-same s t (x ∷ xs) each = rw (each x (grind (arith, eqb_tells x x)), filter-same s t xs (λ q among. each q (grind (arith, among)))) refl

pub any-same : (s t : ℕ → Bool) (xs : List ℕ) → ((q : ℕ) → is_among q xs ≡ true → s q ≡ t q) → list_any s xs ≡ list_any t xs
any-same s t [] each = refl
any-same s t (x ∷ xs) each = rw (each x (grind (arith, eqb_tells x x)), any-same s t xs (λ q among. each q (grind (arith, among)))) refl

pub all-same : (s t : ℕ → Bool) (xs : List ℕ) → ((q : ℕ) → is_among q xs ≡ true → s q ≡ t q) → list_all s xs ≡ list_all t xs
all-same s t [] each = refl
all-same s t (x ∷ xs) each = rw (each x (grind (arith, eqb_tells x x)), all-same s t xs (λ q among. each q (grind (arith, among)))) refl

pub first-same : (s t : ℕ → Bool) (xs : List ℕ) → ((q : ℕ) → is_among q xs ≡ true → s q ≡ t q) → stand_first s xs ≡ stand_first t xs
first-same s t [] each = refl
first-same s t (x ∷ xs) each =
    rw (
      each x (grind (arith, eqb_tells x x)),
      first-same s t xs (λ q among. each q (grind (arith, among))),
      any-same s t xs (λ q among. each q (grind (arith, among))),
    ) refl

-- ---- what is left where some leave

-- where all leave that pass a test, the others are left
pub filter-others : (t : ℕ → Bool) (xs : List ℕ) → filter (λ q. not (is_among q (filter t xs))) xs ≡ filter (λ q. not (t q)) xs
filter-others t xs =
    filter-same (λ q. not (is_among q (filter t xs))) (λ q. not (t q)) xs (λ q among. ap not (is_among-filter t q xs ∙ ap (λ b. b && t q) among))

-- ---- those that come first

any-others : (t : ℕ → Bool) (xs : List ℕ) → list_any t (filter (λ q. not (t q)) xs) ≡ false
any-others t [] = refl
any-others t (x ∷ xs) = grind (arith, any-others t xs)

-- where all that pass the test have left
pub first-others : (t : ℕ → Bool) (xs : List ℕ) → stand_first t (filter (λ q. not (t q)) xs) ≡ true
first-others t [] = refl
first-others t (x ∷ xs) = grind (arith, first-others t xs, any-others t xs)

-- where all pass it
pub first-all : (t : ℕ → Bool) (xs : List ℕ) → list_all t xs ≡ true → stand_first t xs ≡ true
first-all t [] all = refl
first-all t (x ∷ xs) all = grind (arith, all, first-all t xs)

-- where one leaves
any-without : (t : ℕ → Bool) (k : ℕ) (xs : List ℕ) → list_any t xs ≡ false → list_any t (names_without k xs) ≡ false
any-without t k [] none = refl
any-without t k (x ∷ xs) none = grind (arith, none, any-without t k xs)

pub first-without : (t : ℕ → Bool) (k : ℕ) (xs : List ℕ) → stand_first t xs ≡ true → stand_first t (names_without k xs) ≡ true
first-without t k [] first = refl
first-without t k (x ∷ []) first = grind (arith, first)
first-without t k (x ∷ y ∷ ys) first = grind (arith, first, first-without t k (y ∷ ys), any-without t k (y ∷ ys))

-- where one comes before another, and neither passes it
any-with : (t : ℕ → Bool) (n o : ℕ) (xs : List ℕ) → t n ≡ false → list_any t xs ≡ false → list_any t (names_with (Some o) (n ∷ []) xs) ≡ false
any-with t n o [] new none = grind (arith, new)
any-with t n o (x ∷ xs) new none = grind (arith, none, new, any-with t n o xs new)

pub first-with : (t : ℕ → Bool) (n o : ℕ) (xs : List ℕ) → t n ≡ false → t o ≡ false → stand_first t xs ≡ true
    → stand_first t (names_with (Some o) (n ∷ []) xs) ≡ true
first-with t n o [] new old first = grind (arith, new)
first-with t n o (x ∷ xs) new old first = grind (arith, first, new, old, eqb_tells x o, first-with t n o xs new old, any-with t n o xs new)

-- ---- names beside each other

-- b comes right after a
pub record StandBeside (xs : List ℕ) (a b : ℕ) : Type 0 where
  pub front : List ℕ
  pub rest : List ℕ
  pub is : xs ≡ front ++ (a ∷ b ∷ rest)

further : (x a b : ℕ) (xs : List ℕ) → StandBeside xs a b → StandBeside (x ∷ xs) a b
further x a b xs s = record { front = x ∷ s.front; rest = s.rest; is = ap (λ ys. x ∷ ys) s.is }

previous_beside : (x k m : ℕ) (xs : List ℕ) → previous_from (Some x) xs k ≡ Some m → StandBeside (x ∷ xs) m k
previous_beside x k m [] e = absurd (cc)
previous_beside x k m (y ∷ ys) e =
    elim (eqb_tells y k) [
      | inl own ↦ record { front = []; rest = ys; is = grind (arith, e, own) }
      | inr other ↦ further x m k (y ∷ ys) (previous_beside y k m ys (grind (arith, e, other.0)))
    ]

-- so does a name and what is before it
pub beside-previous : (xs : List ℕ) (k m : ℕ) → previous_in xs k ≡ Some m → StandBeside xs m k
beside-previous [] k m e = absurd (cc)
beside-previous (x ∷ xs) k m e = previous_beside x k m xs (grind (arith, e))

-- and what came before a name
pub beside-with : (n k : ℕ) (xs : List ℕ) → is_among k xs ≡ true → StandBeside (names_with (Some k) (n ∷ []) xs) n k
beside-with n k [] among = absurd (cc)
beside-with n k (x ∷ xs) among =
    elim (eqb_tells x k) [
      | inl own ↦ record { front = []; rest = xs; is = rw (own.0, own.1) refl }
      | inr other ↦ rw other.0 (further x n k (names_with (Some k) (n ∷ []) xs) (beside-with n k xs (grind (arith, among, other.0))))
    ]

no_repeats_back : (xs ys : List ℕ) → NoRepeats (xs ++ ys) → NoRepeats ys
no_repeats_back [] ys u = u
no_repeats_back (x ∷ xs) ys u = no_repeats_back xs ys u.1

-- neither of the two is elsewhere
pub record StandApart (front rest : List ℕ) (a b : ℕ) : Type 0 where
  pub two : eqb a b ≡ false
  pub in_front : (q : ℕ) → is_among q front ≡ true → (eqb a q ≡ false) × (eqb b q ≡ false)
  pub in_rest : (q : ℕ) → is_among q rest ≡ true → (eqb a q ≡ false) × (eqb b q ≡ false)

pub beside-apart : (front rest : List ℕ) (a b : ℕ) → NoRepeats (front ++ (a ∷ b ∷ rest)) → StandApart front rest a b
beside-apart front rest a b u =
    let back : NoRepeats (a ∷ b ∷ rest) = no_repeats_back front (a ∷ b ∷ rest) u in
    record {
      two = grind (arith, back.0, eqb_tells a b, eqb_tells b a);
      in_front = λ q among. let gone : is_among q (a ∷ b ∷ rest) ≡ false = apart front (a ∷ b ∷ rest) q u among in (grind (arith, gone), grind (arith, gone));
      in_rest = λ q among. (grind (arith, among, back.0, eqb_tells a q), grind (arith, among, back.1.0, eqb_tells b q));
    }
