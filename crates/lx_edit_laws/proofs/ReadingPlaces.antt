-- Names that are in the place of one of a list.
use Rattle.std.proofs.Common.{◌≡◌, ◌≢◌, ◌∙◌, ℕ, zero, suc, ◌+◌, false, List, [], ◌∷◌, Some, refl, ap, arith, add-one}
use Rattle.std.specs.Prelude.{slice_get}
use Rattle.std.proofs.lemmas.Bool.Decides.{eqb_tells}
use Rattle.lx_trees.specs.Siblings.{is_among, NoRepeats, index_in, names_with}
use Rattle.lx_trees.proofs.Positions.{is_among-slice_get}
use Rattle.lx_trees.proofs.Siblings.{is_named_tells}
use Rattle.lx_edit_laws.specs.Reading.{in_place_of}

-- a name in its own place
pub in_place_of-self : (k : ℕ) (ks : List ℕ) → in_place_of k (k ∷ []) ks ≡ ks
in_place_of-self k [] = refl
in_place_of-self k (x ∷ xs) = grind (arith, eqb_tells x k, in_place_of-self k xs)

-- a name comes right after another
behind_first : (n x : ℕ) (xs : List ℕ) → is_among x xs ≡ false → names_with (slice_get xs 0) (n ∷ []) (x ∷ xs) ≡ x ∷ n ∷ xs
behind_first n x [] e = refl
behind_first n x (y ∷ ys) e = grind (arith, e, eqb_tells x y, eqb_tells y x, eqb_tells y y)

behind_index : (n k i : ℕ) (ks : List ℕ) → NoRepeats ks → index_in ks k ≡ Some i → names_with (slice_get ks (suc i)) (n ∷ []) ks ≡ in_place_of k (k ∷ n ∷ []) ks
behind_index n k i [] once at = absurd (grind (arith, at))
behind_index n k zero (x ∷ xs) once at = grind (arith, at, once, eqb_tells x k, behind_first n x xs once.0)
behind_index n k (suc i) (x ∷ xs) once at =
    grind (arith, at, once, behind_index n k i xs once.1, is_named_tells (slice_get xs (suc i)) x, is_among-slice_get xs x (suc i))

pub names_with-behind : (n k i : ℕ) (ks : List ℕ) → NoRepeats ks → index_in ks k ≡ Some i
    → names_with (slice_get ks (i + 1)) (n ∷ []) ks ≡ in_place_of k (k ∷ n ∷ []) ks
names_with-behind n k i ks once at = ap (λ j. names_with (slice_get ks j) (n ∷ []) ks) (add-one i) ∙ behind_index n k i ks once at

-- what is in the place of a name that came in the place of another
pub in_place_of-twice : (k n : ℕ) (new ks : List ℕ) → k ≢ n → is_among n ks ≡ false
    → in_place_of n new (in_place_of k (k ∷ n ∷ []) ks) ≡ in_place_of k (k ∷ new) ks
in_place_of-twice k n new [] other absent = refl
in_place_of-twice k n new (x ∷ xs) other absent =
    grind (arith, other, absent, eqb_tells x k, eqb_tells k n, eqb_tells n n, eqb_tells x n, in_place_of-twice k n new xs other)
