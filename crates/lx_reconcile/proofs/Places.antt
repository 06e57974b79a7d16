-- Lists of children from a place on.
use Rattle.std.proofs.Common.{◌≡◌, ◌∙◌, sym, ap, ℕ, zero, suc, ◌+◌, ◌<◌, ◌≤◌, true, false, cond, List, [], ◌∷◌, ◌++◌, length, drop, take, get_or, slice_get, None, Some, refl, arith, inl, inr}
use Rattle.std.proofs.lemmas.Bool.Decides.{eqb_tells}
use Rattle.lx_trees.specs.Siblings.{is_among, first_of, NoRepeats}
use Rattle.lx_reconcile.specs.Walk.{missing}
use Rattle.lx_reconcile.specs.Underway.{with_handled}
use Rattle.std.proofs.lemmas.List.{drop_more, drop_all, take_more}
use Rattle.std.proofs.lemmas.Option.{slice_get_within, slice_get-get_or, slice_get_past, get_or_from_slice_get}
use Rattle.std.proofs.lemmas.Bool.{cases_lt}
use Rattle.lx_trees.proofs.Positions.{is_among-slice_get}

pub get_within : (xs : List ℕ) (i k : ℕ) → slice_get xs i ≡ Some k → i + 1 ≤ length xs
get_within xs i k e = omega (arith, slice_get_within xs i k e)

pub get_past : (xs : List ℕ) (i : ℕ) → slice_get xs i ≡ None → length xs ≤ i
get_past xs i e = elim (cases_lt i (length xs)) [ inl there ↦ absurd (let x = slice_get-get_or xs i 0 there in cc) | inr past ↦ past ]

pub drop_from : (xs : List ℕ) (i k : ℕ) → slice_get xs i ≡ Some k → drop i xs ≡ k ∷ drop (i + 1) xs
drop_from xs i k e =
    drop_more xs i k (slice_get_within xs i k e) ∙ ap (λ x. x ∷ drop (i + 1) xs) (get_or_from_slice_get xs i k k e)

pub drop_none : (xs : List ℕ) (i : ℕ) → slice_get xs i ≡ None → drop i xs ≡ []
drop_none xs i e = drop_all i xs (get_past xs i e)

pub missing_past : (xs ys : List ℕ) (i : ℕ) → i < length xs → is_among (get_or xs i 0) ys ≡ true → missing (drop (i + 1) xs) ys ≡ missing (drop i xs) ys
missing_past xs ys i e h =
    let here : missing (drop i xs) ys ≡ missing (get_or xs i 0 ∷ drop (i + 1) xs) ys = ap (λ zs. missing zs ys) (drop_more xs i 0 e) in
    grind (arith, here, h)

pub first_here : (xs ys : List ℕ) (i : ℕ) → i < length xs → is_among (get_or xs i 0) ys ≡ false → first_of (missing (drop i xs) ys) ≡ slice_get xs i
first_here xs ys i e h =
    let here : missing (drop i xs) ys ≡ missing (get_or xs i 0 ∷ drop (i + 1) xs) ys = ap (λ zs. missing zs ys) (drop_more xs i 0 e) in
    grind (arith, here, h, slice_get-get_or xs i 0 e)

pub first_nowhere : (xs ys : List ℕ) (i : ℕ) → length xs ≤ i → first_of (missing (drop i xs) ys) ≡ slice_get xs i
first_nowhere xs ys i e = ap (λ zs. first_of (missing zs ys)) (drop_all i xs e) ∙ sym (slice_get_past xs i e)

-- where no name is there twice, the one at a place isn't among those before
get_fresh : (xs : List ℕ) (i d : ℕ) → NoRepeats xs → i < length xs → is_among (get_or xs i d) (take i xs) ≡ false
get_fresh [] i d once e = absurd (omega arith)
get_fresh (x ∷ xs) zero d once e = refl
get_fresh (x ∷ xs) (suc i) d once e =
    let among : is_among (get_or xs i d) xs ≡ true = is_among-slice_get xs (get_or xs i d) i (slice_get-get_or xs i d (omega arith)) in
    grind (arith, once.0, among, eqb_tells x (get_or xs i d), get_fresh xs i d once.1)

-- the first names of such a list, as a set, with the next one
pub set_more : (xs : List ℕ) (i x : ℕ) (ks : List ℕ) → NoRepeats xs → i < length xs → x ≡ get_or xs i x → ks ≡ take i xs → with_handled x ks ≡ take (i + 1) xs
set_more xs i x ks once e read same =
    let fresh : is_among x ks ≡ false = (λ j. is_among (read j) (same j)) ∙ get_fresh xs i x once e in
    ap (λ b. cond b ks (ks ++ x ∷ [])) fresh ∙ (λ j. same j ++ read j ∷ []) ∙ sym (take_more xs i x e)
