-- The children of a node from an index on.
use Rattle.std.proofs.Common.{◌≡◌, ◌∙◌, ◌+◌, ◌<◌, ◌^◌, ℕ, zero, suc, List, [], ◌∷◌, ◌++◌, length, drop, Option, None, Some, refl, sym, ap, arith, append_assoc, append-nil, length-append}
use Rattle.std.specs.List.{slice_get}
use Rattle.lx_trees.specs.Siblings.{index_in}
use Rattle.lx_trees.proofs.Positions.{index_in-lt}
use Rattle.lx_forest.specs.Forest.{Forest}
use Rattle.lx_forest.specs.Lookups.{parent_of, children_of, children_below, index_of, next_of}
use Rattle.lx_forest.proofs.Bounds.{size_of-le}
use Rattle.lx_links.specs.Stands.{Sound}
use Rattle.lx_links.proofs.Beside.{next_child}
use Rattle.lx_edit.proofs.Turns.{left_at}

-- an index and one more fit a machine's number
fits_below : (f : Forest) (k i : ℕ) (o : Option ℕ) → Sound f → index_in (children_below f o) k ≡ Some i → i + 1 < 2 ^ 32
fits_below f k i None s e = absurd (cc)
fits_below f k i (Some p) s e = omega (arith, index_in-lt (children_of f p) k i e, size_of-le f p, s.small)

pub index_fits : (f : Forest) (k i : ℕ) → Sound f → index_of f k ≡ Some i → i + 1 < 2 ^ 32
index_fits f k i s e = fits_below f k i (parent_of f k) s e

past : (xs : List ℕ) (i : ℕ) → slice_get xs i ≡ None → drop i xs ≡ []
past [] zero e = refl
past [] (suc i) e = refl
past (x ∷ xs) zero e = absurd (cc)
past (x ∷ xs) (suc i) e = past xs i e

-- where a walk through them is, and what it has kept
pub record IsPassing (f : Forest) (p index : ℕ) (at : Option ℕ) (kept : List ℕ) : Type 0 where
  pub here : at ≡ slice_get (children_of f p) (index + length kept)
  pub all : kept ++ drop (index + length kept) (children_of f p) ≡ drop index (children_of f p)

pub passing_on : (f : Forest) (p index k : ℕ) (at next : Option ℕ) (kept more : List ℕ) → Sound f → IsPassing f p index at kept → at ≡ Some k
    → next ≡ next_of f k → more ≡ kept ++ k ∷ [] → IsPassing f p index next more
passing_on f p index k at next kept more s h is e keeps =
    let children : List ℕ = children_of f p in
    let at_k : slice_get children (index + length kept) ≡ Some k = sym h.here ∙ is in
    let added : length more ≡ length kept + 1 = ap length keeps ∙ length-append kept (k ∷ []) in
    let on : index + length more ≡ index + length kept + 1 = omega (arith, added) in
    let on_suc : index + length more ≡ suc (index + length kept) = omega (arith, added) in
    record {
      here = e ∙ next_child f p (index + length kept) k s at_k ∙ ap (slice_get children) (sym on);
      all =
          ap (λ xs. xs ++ drop (index + length more) children) keeps ∙ append_assoc kept (k ∷ []) (drop (index + length more) children)
          ∙ ap (λ n. kept ++ k ∷ drop n children) on_suc ∙ ap (λ xs. kept ++ xs) (sym (left_at children (index + length kept) k at_k)) ∙ h.all;
    }

pub passing_ends : (f : Forest) (p index : ℕ) (at : Option ℕ) (kept : List ℕ) → IsPassing f p index at kept → at ≡ None → kept ≡ drop index (children_of f p)
passing_ends f p index at kept h none =
    let end : drop (index + length kept) (children_of f p) ≡ [] = past (children_of f p) (index + length kept) (sym h.here ∙ none) in
    sym (append-nil kept) ∙ ap (λ xs. kept ++ xs) (sym end) ∙ h.all
