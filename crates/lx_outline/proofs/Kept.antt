-- An ordered map of headings as the list of its entries.
use Rattle.std.proofs.Common.{◌≡◌, ◌∙◌, ℕ, cond, nat_eq, List, [], ◌∷◌, Option, Some, refl, sym, ap, arith}
use Rattle.std.specs.Ordering.{nat_cmp, is_eq}
use Rattle.std.specs.BTreeMap.{is_at}
use Rattle.std.specs.Map.{lookup}
use Rattle.std.proofs.lemmas.Bool.Decides.{nat_tests}

test_is : (q x : ℕ) → is_eq (nat_cmp q x) ≡ nat_eq q x
test_is q x = grind (arith, nat_tests)

test_turned : (q x : ℕ) → is_eq (nat_cmp x q) ≡ nat_eq q x
test_turned q x = grind (arith, nat_tests)

module _ {X : Type 0} where
  -- what is found at a key, by either test
  pub lookup_at : (q : ℕ) (es : List (ℕ × X)) → lookup (is_at (nat_cmp q)) es ≡ lookup (nat_eq q) es
  lookup_at q [] = refl
  lookup_at q (e ∷ es) = ap (λ b. cond b (Some e.1) (lookup (is_at (nat_cmp q)) es)) (test_is q e.0) ∙ ap (cond (nat_eq q e.0) (Some e.1)) (lookup_at q es)

  -- what is found once a key was put or taken out
  pub lookup_changed : (seen old new : List (ℕ × X)) (k key : ℕ) (value : Option X) → seen ≡ old → k ≡ key
      → ((q : ℕ) → lookup (is_at (nat_cmp q)) new ≡ cond (is_at (nat_cmp k) q) value (lookup (is_at (nat_cmp q)) old))
      → (q : ℕ) → lookup (nat_eq q) new ≡ cond (nat_eq q key) value (lookup (nat_eq q) seen)
  lookup_changed seen old new k key value same is changed q =
      sym (lookup_at q new) ∙ changed q
      ∙ ap (λ b. cond b value (lookup (is_at (nat_cmp q)) old)) (test_turned q k)
      ∙ ap (cond (nat_eq q k) value) (lookup_at q old)
      ∙ ap (λ es. cond (nat_eq q k) value (lookup (nat_eq q) es)) (sym same)
      ∙ ap (λ x. cond (nat_eq q x) value (lookup (nat_eq q) seen)) is

  pub lookup_seen : (seen old : List (ℕ × X)) (k key : ℕ) → seen ≡ old → k ≡ key → lookup (is_at (nat_cmp k)) old ≡ lookup (nat_eq key) seen
  lookup_seen seen old k key same is = lookup_at k old ∙ ap (lookup (nat_eq k)) (sym same) ∙ ap (λ x. lookup (nat_eq x) seen) is
