-- An ordered set of keys as the list of them.
use Rattle.std.proofs.Common.{◌≡◌, ◌∙◌, ℕ, ◌<◌, Bool, true, false, ◌||◌, cond, ltb, eqb, List, [], ◌∷◌, refl, sym, ap, arith}
use Rattle.std.specs.List.{list_any, AllByRecursion}
use Rattle.std.specs.List.Sorted.{IsStrictlySortedBy}
use Rattle.std.specs.Ordering.{nat_cmp, is_eq}
use Rattle.std.specs.BTreeMap.{is_at}
use Rattle.std.specs.declared.cmp.Ordering.TheVariants.{Less}
use Rattle.std.proofs.lemmas.Bool.Decides.{nat_tests}
use Rattle.std.proofs.lemmas.Map.Keys.{sorted_head, sorted_tail}
use Rattle.lx_trees.specs.Siblings.{is_among}
use Rattle.lx_forest.specs.Lookups.{rises_from}
use Rattle.lx_outline.specs.Events.{ascends}

is_eq-nat_cmp : (q x : ℕ) → is_eq (nat_cmp q x) ≡ eqb x q
is_eq-nat_cmp q x = grind (arith, nat_tests)

-- what the set has is what is in its list
pub contains-is_among : (q : ℕ) (xs : List ℕ) → list_any (is_at (nat_cmp q)) xs ≡ is_among q xs
contains-is_among q [] = refl
contains-is_among q (x ∷ xs) = ap (λ b. b || list_any (is_at (nat_cmp q)) xs) (is_eq-nat_cmp q x) ∙ ap (λ b. eqb x q || b) (contains-is_among q xs)

-- one key more
pub inserted : (seen old new : List ℕ) (k key : ℕ) → seen ≡ old → k ≡ key
    → ((q : ℕ) → list_any (is_at (nat_cmp q)) new ≡ cond (is_at (nat_cmp k) q) true (list_any (is_at (nat_cmp q)) old))
    → (q : ℕ) → is_among q new ≡ (is_among q seen || eqb q key)
inserted seen old new k key same is added q =
    sym (contains-is_among q new) ∙ added q ∙ rw (is_eq-nat_cmp k q, contains-is_among q old) (either (eqb q k) (is_among q old))
    ∙ ap (λ xs. is_among q xs || eqb q k) (sym same) ∙ ap (λ x. is_among q seen || eqb q x) is where
      either : (a b : Bool) → cond a true b ≡ (b || a)
      either true true = refl
      either true false = refl
      either false true = refl
      either false false = refl

lt_from : (x y : ℕ) → nat_cmp x y ≡ Less → x < y
lt_from x y e = grind (arith, nat_tests, e)

-- keys in order ascend
rises_sorted : (k : ℕ) (xs : List ℕ) → AllByRecursion (λ y. nat_cmp k y ≡ Less) xs → IsStrictlySortedBy nat_cmp xs → rises_from k xs ≡ true
rises_sorted k [] above sorted = refl
rises_sorted k (x ∷ xs) above sorted =
    let step : ltb k x ≡ true = grind (arith, nat_tests, lt_from k x above.0) in
    let rest = rises_sorted x xs (sorted_head nat_cmp x xs sorted) (sorted_tail nat_cmp x xs sorted) in
    rw (step, rest) refl

ascends-sorted : (xs : List ℕ) → IsStrictlySortedBy nat_cmp xs → ascends xs ≡ true
ascends-sorted [] sorted = refl
ascends-sorted (x ∷ xs) sorted = rises_sorted x xs (sorted_head nat_cmp x xs sorted) (sorted_tail nat_cmp x xs sorted)

pub ascends_seen : (seen xs : List ℕ) → seen ≡ xs → IsStrictlySortedBy nat_cmp xs → ascends seen ≡ true
ascends_seen seen xs same sorted = ap ascends same ∙ ascends-sorted xs sorted
