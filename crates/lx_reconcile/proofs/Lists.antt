-- Laws of lists of names: what two lists have in common, and what each lacks.
use Rattle.std.proofs.Common.{◌≡◌, sym, ap, ℕ, ◌+◌, true, false, cond, ◌&&◌, not, List, [], ◌∷◌, ◌++◌, length, Option, refl, arith, append-nil, Bool, filter, Some, inl, inr, ◌∙◌}
use Rattle.std.proofs.lemmas.Bool.Decides.{eqb_tells}
use Rattle.lx_trees.specs.Siblings.{is_named, is_among, NoRepeats, first_of, names_without, names_with, last_of}
use Rattle.lx_trees.proofs.Siblings.{is_among-append, is_among-names_with}
use Rattle.lx_reconcile.specs.Walk.{common, missing}
use Rattle.std.proofs.lemmas.Bool.{cases_Bool}

-- ---- what is among them

pub filter-among : (p : ℕ → Bool) (xs : List ℕ) (q : ℕ) → is_among q (filter p xs) ≡ (is_among q xs && p q)
filter-among p [] q = refl
filter-among p (x ∷ xs) q = grind (arith, filter-among p xs q, eqb_tells x q)

pub is_among-missing : (xs ys : List ℕ) (q : ℕ) → is_among q (missing xs ys) ≡ (is_among q xs && not (is_among q ys))
is_among-missing xs ys q = filter-among (λ k. not (is_among k ys)) xs q

pub last_of-among : (xs : List ℕ) (l : ℕ) → last_of xs ≡ Some l → is_among l xs ≡ true
last_of-among [] l e = absurd (grind (arith, e))
last_of-among (x ∷ []) l e = grind (arith, e, eqb_tells x l)
last_of-among (x ∷ y ∷ xs) l e = grind (arith, last_of-among (y ∷ xs) l e)

-- ---- one more on the right

pub missing-push : (k : ℕ) (xs ys : List ℕ) → missing xs (ys ++ k ∷ []) ≡ names_without k (missing xs ys)
missing-push k [] ys = refl
missing-push k (x ∷ xs) ys = grind (arith, missing-push k xs ys, is_among-append x ys (k ∷ []), eqb_tells x k, eqb_tells k x)

pub common-push_absent : (k : ℕ) (xs ys : List ℕ) → is_among k xs ≡ false → common xs (ys ++ k ∷ []) ≡ common xs ys
common-push_absent k [] ys none = refl
common-push_absent k (x ∷ xs) ys none = grind (arith, none, common-push_absent k xs ys, is_among-append x ys (k ∷ []), eqb_tells x k, eqb_tells k x)

-- ---- on the left

pub names_without-append : (k : ℕ) (xs ys : List ℕ) → names_without k (xs ++ ys) ≡ names_without k xs ++ names_without k ys
names_without-append k [] ys = refl
names_without-append k (x ∷ xs) ys = grind (arith, names_without-append k xs ys)

pub common-append : (xs zs ys : List ℕ) → common (xs ++ zs) ys ≡ common xs ys ++ common zs ys
common-append [] zs ys = refl
common-append (x ∷ xs) zs ys = grind (arith, common-append xs zs ys)

pub missing-append : (xs zs ys : List ℕ) → missing (xs ++ zs) ys ≡ missing xs ys ++ missing zs ys
missing-append [] zs ys = refl
missing-append (x ∷ xs) zs ys = grind (arith, missing-append xs zs ys)

pub common-names_without : (k : ℕ) (xs ys : List ℕ) → is_among k ys ≡ false → common (names_without k xs) ys ≡ common xs ys
common-names_without k [] ys none = refl
common-names_without k (x ∷ xs) ys none = grind (arith, none, common-names_without k xs ys, eqb_tells x k)

pub common-none : (xs ys : List ℕ) → ((q : ℕ) → is_among q xs ≡ true → is_among q ys ≡ false) → common xs ys ≡ []
common-none [] ys apart = refl
common-none (x ∷ xs) ys apart = grind (arith, apart x, eqb_tells x x, common-none xs ys (λ q e. grind (arith, e, apart q)))

pub common-all : (xs ys : List ℕ) → ((q : ℕ) → is_among q xs ≡ true → is_among q ys ≡ true) → common xs ys ≡ xs
common-all [] ys known = refl
common-all (x ∷ xs) ys known = grind (arith, known x, eqb_tells x x, common-all xs ys (λ q e. grind (arith, e, known q)))

-- ---- no name twice

pub once-filter : (p : ℕ → Bool) (xs : List ℕ) → NoRepeats xs → NoRepeats (filter p xs)
once-filter p [] once = tt
once-filter p (x ∷ xs) once = elim (cases_Bool (p x)) [
  | inl e ↦ rw e (filter-among p xs x ∙ ap (λ b. b && p x) once.0, once-filter p xs once.1)
  | inr e ↦ rw e (once-filter p xs once.1)
]

pub NoRepeats-right : (xs ys : List ℕ) → NoRepeats (xs ++ ys) → NoRepeats ys
NoRepeats-right [] ys once = once
NoRepeats-right (x ∷ xs) ys once = NoRepeats-right xs ys once.1

pub apart : (xs ys : List ℕ) (q : ℕ) → NoRepeats (xs ++ ys) → is_among q xs ≡ true → is_among q ys ≡ false
apart [] ys q once e = absurd (grind (arith, e))
apart (x ∷ xs) ys q once e = grind (arith, e, once.0, eqb_tells x q, is_among-append x xs ys, apart xs ys q once.1)

pub NoRepeats-names_with : (before : Option ℕ) (k : ℕ) (xs : List ℕ) → is_among k xs ≡ false → NoRepeats xs → NoRepeats (names_with before (k ∷ []) xs)
NoRepeats-names_with before k [] none once = (refl, tt)
NoRepeats-names_with before k (x ∷ xs) none once =
    elim (is_named before x) as (λ b. NoRepeats (cond b (k ∷ x ∷ xs) (x ∷ names_with before (k ∷ []) xs))) [
      | true ↦ (none, once)
      | false ↦ (
        grind (arith, none, once.0, is_among-names_with before (k ∷ []) xs x, eqb_tells k x, eqb_tells x k),
        NoRepeats-names_with before k xs (grind (arith, none)) once.1,
      )
    ]

-- what is before the first of those after is between both
pub names_with-first : (new xs ys : List ℕ) → NoRepeats (xs ++ ys) → names_with (first_of ys) new (xs ++ ys) ≡ (xs ++ new) ++ ys
names_with-first new [] [] once = sym (append-nil new)
names_with-first new [] (y ∷ ys) once = grind (arith, eqb_tells y y)
names_with-first new (x ∷ xs) [] once = grind (arith, names_with-first new xs [] once.1)
names_with-first new (x ∷ xs) (y ∷ ys) once =
    grind (arith, once.0, names_with-first new xs (y ∷ ys) once.1, is_among-append x xs (y ∷ ys), eqb_tells x y, eqb_tells y x)

-- as many of the first are in the second as of the second in the first
common_more : (x : ℕ) (xs ys : List ℕ) → is_among x xs ≡ false → NoRepeats ys →
    length (common ys (x ∷ xs)) ≡ length (common ys xs) + cond (is_among x ys) 1 0
common_more x xs [] none once = refl
common_more x xs (y ∷ ys) none once = grind (arith, none, once.0, common_more x xs ys none once.1, eqb_tells x y, eqb_tells y x)

common_nothing : (ys : List ℕ) → common ys [] ≡ []
common_nothing [] = refl
common_nothing (y ∷ ys) = common_nothing ys

pub common-even : (xs ys : List ℕ) → NoRepeats xs → NoRepeats ys → length (common xs ys) ≡ length (common ys xs)
common-even [] ys once other = sym (ap length (common_nothing ys))
common-even (x ∷ xs) ys once other =
    grind (arith, common-even xs ys once.1 other, common_more x xs ys once.0 other)

-- none of the first is in the second where nothing is common
pub is_among-uncommon : (xs ys : List ℕ) (q : ℕ) → length (common xs ys) ≡ 0 → is_among q xs ≡ true → is_among q ys ≡ false
is_among-uncommon [] ys q none e = absurd (grind (arith, e))
is_among-uncommon (x ∷ xs) ys q none e = grind (arith, none, e, eqb_tells x q, is_among-uncommon xs ys q)
