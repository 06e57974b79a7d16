-- Lists of names of which one comes before another, or leaves.
use Rattle.std.proofs.Common.{◌≡◌, ◌≢◌, ◌∙◌, ℕ, Bool, true, false, eqb, not, List, [], ◌∷◌, ◌++◌, None, Some, refl, ap, ap₂, arith, inl, inr}
use Rattle.std.specs.List.{filter}
use Rattle.std.proofs.lemmas.Bool.Decides.{eqb_tells}
use Rattle.lx_trees.specs.Siblings.{is_among, next_in, NoRepeats, names_without, names_with}
use Rattle.lx_trees.proofs.Siblings.{is_among-append, names_without-absent_list, next_in-apart}
use Rattle.lx_trees.proofs.NamedTrees.{names_without-append}
use Rattle.lx_forest.specs.Lookups.{key_of}
use Rattle.lx_edit_laws.specs.Reading.{in_place_of}

-- ---- without repeats

-- what is in the first of two lists isn't in the second
pub apart : (xs ys : List ℕ) (q : ℕ) → NoRepeats (xs ++ ys) → is_among q xs ≡ true → is_among q ys ≡ false
apart [] ys q u e = absurd (cc)
apart (x ∷ xs) ys q u e = grind (arith, e, u.0, is_among-append x xs ys, eqb_tells x q, apart xs ys q u.1)

-- ---- what is kept

pub filter-kept : (keep : ℕ → Bool) (xs : List ℕ) → ((q : ℕ) → is_among q xs ≡ true → keep q ≡ true) → filter keep xs ≡ xs
filter-kept keep [] each = refl
filter-kept keep (x ∷ xs) each = rw (each x (grind (arith, eqb_tells x x)), filter-kept keep xs (λ q among. each q (grind (arith, among))))

pub filter-gone : (keep : ℕ → Bool) (xs : List ℕ) → ((q : ℕ) → is_among q xs ≡ true → keep q ≡ false) → filter keep xs ≡ []
filter-gone keep [] each = refl
filter-gone keep (x ∷ xs) each = rw (each x (grind (arith, eqb_tells x x))) (filter-gone keep xs (λ q among. each q (grind (arith, among))))

-- of names that leave one after another
pub filter-without : (k : ℕ) (ks xs : List ℕ) → filter (λ q. not (is_among q ks)) (names_without k xs) ≡ filter (λ q. not (is_among q (k ∷ ks))) xs
filter-without k ks [] = refl
filter-without k ks (x ∷ xs) = grind (arith, filter-without k ks xs, eqb_tells x k, eqb_tells k x)

-- ---- names before another

-- of names that come before one in two parts, the second part comes after the first
pub names_with-twice : (k c : ℕ) (new xs : List ℕ) → eqb c k ≡ false
    → names_with (Some k) new (names_with (Some k) (c ∷ []) xs) ≡ names_with (Some k) (c ∷ new) xs
names_with-twice k c new [] other = grind (arith, other)
names_with-twice k c new (x ∷ xs) other = grind (arith, other, eqb_tells x k, names_with-twice k c new xs other)

-- none comes
pub names_with-none : (k : ℕ) (xs : List ℕ) → names_with (Some k) [] xs ≡ xs
names_with-none k [] = refl
names_with-none k (x ∷ xs) = grind (arith, names_with-none k xs)

-- and at the end they come one after another
pub names_with-end : (c : ℕ) (xs : List ℕ) → names_with None (c ∷ []) xs ≡ xs ++ (c ∷ [])
names_with-end c [] = refl
names_with-end c (x ∷ xs) = ap (λ ys. x ∷ ys) (names_with-end c xs)

-- where the name itself leaves, those before it are in its place
pub in_its_place : (k : ℕ) (new xs : List ℕ) → NoRepeats xs → is_among k xs ≡ true → is_among k new ≡ false
    → names_without k (names_with (Some k) new xs) ≡ in_place_of k new xs
in_its_place k new [] u among other = absurd (cc)
in_its_place k new (x ∷ xs) u among other =
    elim (eqb_tells x k) [
      | inl own ↦
          let gone : names_without k (x ∷ xs) ≡ xs = grind (arith, own, u.0, names_without-absent_list k xs) in
          rw own.0 (names_without-append key_of k new (x ∷ xs) ∙ ap₂ ◌++◌ (names_without-absent_list k new other) gone)
      | inr else ↦ grind (arith, else.0, among, in_its_place k new xs u.1)
    ]

-- one that comes before the name that came after it is where it was
pub where_it_was : (x : ℕ) (xs : List ℕ) → NoRepeats xs → is_among x xs ≡ true → names_with (next_in xs x) (x ∷ []) (names_without x xs) ≡ xs
where_it_was x [] once among = absurd (cc)
where_it_was x (y ∷ []) once among = grind (arith, among)
where_it_was x (y ∷ z ∷ ys) once among =
    let gone : (xs : List ℕ) → is_among x xs ≡ false → names_without x xs ≡ xs = names_without-absent_list x in
    grind (arith, once, among, eqb_tells y x, eqb_tells z z, eqb_tells z x, where_it_was x (z ∷ ys) once.1, gone (z ∷ ys), gone ys, next_in-apart (z ∷ ys) x y)

-- a name that another came before comes before that one, which leaves
pub swapped : (k n : ℕ) (xs : List ℕ) → NoRepeats xs → is_among k xs ≡ true → is_among n xs ≡ false → k ≢ n
    → names_without n (names_with (Some n) (k ∷ []) (names_without k (names_with (Some k) (n ∷ []) xs))) ≡ xs
swapped k n [] once among absent other = absurd (cc)
swapped k n (x ∷ xs) once among absent other =
    elim (eqb_tells x k) [
      | inl own ↦
          let gone : (c : ℕ) → is_among c xs ≡ false → names_without c xs ≡ xs = λ c. names_without-absent_list c xs in
          grind (arith, own, once.0, absent, other, eqb_tells n k, eqb_tells k n, eqb_tells n n, gone k, gone n)
      | inr else ↦ grind (arith, else.0, among, absent, other, eqb_tells n k, eqb_tells x n, swapped k n xs once.1)
    ]
