-- What is kept of a selection where nodes may be gone.
use Rattle.std.proofs.Common.{◌≡◌, ℕ, Bool, true, false, List, [], ◌∷◌, refl, ap, arith}
use Rattle.std.specs.List.{filter}
use Rattle.lx_select.specs.declared.selection.Selection.{Selection}
use Rattle.lx_select.specs.declared.selection.Selection.TheVariants as selection
use Rattle.lx_forest.specs.Forest.{Forest}
use Rattle.lx_forest.specs.Lookups.{has}
use Rattle.lx_draft.specs.Freezing.{nodes_or_nothing, kept_selection}

-- what passes a test passes it again
filter_again : (p : ℕ → Bool) (xs : List ℕ) → filter p (filter p xs) ≡ filter p xs
filter_again p [] = refl
filter_again p (x ∷ xs) = by_first (p x) refl (filter_again p xs) where
  by_first : (b : Bool) → p x ≡ b → filter p (filter p xs) ≡ filter p xs → filter p (filter p (x ∷ xs)) ≡ filter p (x ∷ xs)
  by_first true e again = grind (arith, e, again)
  by_first false e again = grind (arith, e, again)

-- nodes that are all there stay selected
kept_all : (f : Forest) (keys : List ℕ) → filter (λ k. has k f) keys ≡ keys → kept_selection f (nodes_or_nothing keys) ≡ nodes_or_nothing keys
kept_all f [] e = refl
kept_all f (k ∷ ks) e = ap nodes_or_nothing e

-- what is kept of a selection is kept again
pub kept_again : (f : Forest) (s : Selection) → kept_selection f (kept_selection f s) ≡ kept_selection f s
kept_again f (selection.Nodes keys) = kept_all f (filter (λ k. has k f) keys) (filter_again (λ k. has k f) keys)
kept_again f selection.Nothing = refl
kept_again f (selection.Range a b format) = refl
kept_again f (selection.Cells table a b) = refl
