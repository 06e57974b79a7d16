-- The laws of names that come one after another, each after all unless it is there.
use Rattle.std.proofs.Common.{◌≡◌, ◌∙◌, ℕ, true, false, eqb, ◌||◌, if◌then◌else◌, List, [], ◌∷◌, ◌++◌, refl, sym, ap, subst, append-nil, append_assoc, arith}
use Rattle.std.proofs.lemmas.Bool.Decides.{eqb_tells}
use Rattle.lx_trees.specs.Siblings.{is_among, NoRepeats}
use Rattle.lx_trees.proofs.Siblings.{is_among-append, NoRepeats-append}
use Rattle.lx_marks.specs.Marks.{with_name, with_names}

pub is_among-with_name : (k : ℕ) (xs : List ℕ) (q : ℕ) → is_among q (with_name k xs) ≡ (is_among q xs || eqb q k)
unfolding with_name
is_among-with_name k xs q = grind (arith, is_among-append q xs (k ∷ []), eqb_tells k q, eqb_tells q k)

pub is_among-with_names : (ks xs : List ℕ) (q : ℕ) → is_among q (with_names ks xs) ≡ (is_among q xs || is_among q ks)
unfolding with_names
is_among-with_names [] xs q = grind arith
is_among-with_names (k ∷ ks) xs q =
    grind (arith, is_among-with_names ks (with_name k xs) q, is_among-with_name k xs q, eqb_tells k q, eqb_tells q k)

pub NoRepeats-with_name : (k : ℕ) (xs : List ℕ) → NoRepeats xs → NoRepeats (with_name k xs)
unfolding with_name
NoRepeats-with_name k xs once =
    elim (is_among k xs) as (λ b. is_among k xs ≡ b → NoRepeats (if b then xs else xs ++ k ∷ [])) [
      | true ↦ λ e. once
      | false ↦ λ e. NoRepeats-append xs (k ∷ []) once (refl, tt) (λ q among. grind (arith, e, among, eqb_tells k q))
    ] refl

-- a name that isn't there goes after all
pub NoRepeats-behind : (k : ℕ) (xs : List ℕ) → is_among k xs ≡ false → NoRepeats xs → NoRepeats (xs ++ k ∷ [])
unfolding with_name
NoRepeats-behind k xs absent once = subst (λ b. NoRepeats (if b then xs else xs ++ k ∷ [])) absent (NoRepeats-with_name k xs once)

pub NoRepeats-with_names : (ks xs : List ℕ) → NoRepeats xs → NoRepeats (with_names ks xs)
unfolding with_names
NoRepeats-with_names [] xs once = once
NoRepeats-with_names (k ∷ ks) xs once = NoRepeats-with_names ks (with_name k xs) (NoRepeats-with_name k xs once)

-- names that aren't there go after all
pub with_names-apart : (ks xs : List ℕ) → NoRepeats ks → ((q : ℕ) → is_among q ks ≡ true → is_among q xs ≡ false) → with_names ks xs ≡ xs ++ ks
unfolding with_name with_names
with_names-apart [] xs once apart = sym (append-nil xs)
with_names-apart (k ∷ ks) xs once apart =
    let absent : is_among k xs ≡ false = grind (arith, apart k, eqb_tells k k) in
    let behind : with_name k xs ≡ xs ++ k ∷ [] = ap (λ b. if b then xs else xs ++ k ∷ []) absent in
    let more : with_names ks (xs ++ k ∷ []) ≡ (xs ++ k ∷ []) ++ ks =
    with_names-apart ks (xs ++ k ∷ []) once.1 (λ q among. grind (arith, among, apart q, once.0, is_among-append q xs (k ∷ []), eqb_tells k q)) in
    ap (with_names ks) behind ∙ more ∙ append_assoc xs (k ∷ []) ks
