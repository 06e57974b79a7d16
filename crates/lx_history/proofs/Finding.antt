-- Few keys of a list, and going through it key by key.
use Rattle.std.proofs.Common.{◌≡◌, ◌∙◌, ◌+◌, ◌<◌, ◌==◌, ℕ, zero, suc, Bool, true, false, not, is_some, ◌&&◌, cond, filter, List, [], ◌∷◌, ◌++◌, length, get_or, refl, sym, ap, drop, slice_get, Some, arith}
use Rattle.std.proofs.lemmas.List.{at_drop_more}
use Rattle.lx_node.specs.declared.cause.Point.{Point}
use Rattle.lx_forest.specs.Forest.{Forest}
use Rattle.lx_forest.specs.Lookups.{has}
use Rattle.lx_history.specs.declared.few.Few.{Few}
use Rattle.lx_history.specs.declared.few.Few.TheVariants.{Empty, Several}
use Rattle.lx_marks.specs.Marks.{Marked}
use Rattle.lx_history.specs.Changes.{keys_typing, text_fields_at, marked_elements, changed_keys}
use Rattle.lx_history.specs.Few.{few_of, few_with, with_keys, typed_few}

pub with_keys-several : (ks : List ℕ) → with_keys ks Several ≡ Several
with_keys-several [] = refl
with_keys-several (k ∷ ks) = with_keys-several ks

pub with_keys-append : (xs ys : List ℕ) (few : Few) → with_keys (xs ++ ys) few ≡ with_keys ys (with_keys xs few)
with_keys-append [] ys few = refl
with_keys-append (x ∷ xs) ys few = with_keys-append xs ys (few_with x few)

pub with_keys-empty : (ks : List ℕ) → with_keys ks Empty ≡ few_of ks
with_keys-empty [] = refl
with_keys-empty (k ∷ []) = refl
with_keys-empty (k ∷ l ∷ others) = with_keys-several others

pub few_typed : (ks : List ℕ) (old new : Forest) (a b : Point) → keys_typing ks old new a b ≡ typed_few (few_of ks) old new a b
few_typed [] old new a b = refl
few_typed (k ∷ []) old new a b = refl
few_typed (k ∷ l ∷ others) old new a b = refl

-- ---- lists from a place on

from_place : {A : Type 0} (all : List A) (i : ℕ) (a : A) → slice_get all i ≡ Some a → drop i all ≡ a ∷ drop (i + 1) all
from_place [] i a e = absurd (cc)
from_place (x ∷ xs) zero a e = grind (arith, e)
from_place (x ∷ xs) (suc i) a e = grind (arith, from_place xs i a e)

-- ---- a key more, or not

with_chosen : (t : Bool) (k : ℕ) (ks : List ℕ) (few : Few) → with_keys (cond t (k ∷ ks) ks) few ≡ with_keys ks (cond t (few_with k few) few)
with_chosen true k ks few = refl
with_chosen false k ks few = refl

pub leaves_step : (p : ℕ → Bool) (ks : List ℕ) (i k : ℕ) (few : Few) → slice_get ks i ≡ Some k
    → with_keys (filter p (drop i ks)) few ≡ with_keys (filter p (drop (i + 1) ks)) (cond (p k) (few_with k few) few)
leaves_step p ks i k few is = ap (λ all. with_keys (filter p all) few) (from_place ks i k is) ∙ with_chosen (p k) k (filter p (drop (i + 1) ks)) few

with_marked : (p : ℕ → Bool) (t : Bool) (k : ℕ) (ks : List ℕ) (few : Few)
    → with_keys (filter p (cond t (k ∷ ks) ks)) few ≡ with_keys (filter p ks) (cond (t && p k) (few_with k few) few)
with_marked p true k ks few = with_chosen (p k) k (filter p ks) few
with_marked p false k ks few = refl

-- an element more, or not
pub elements_step : (p : ℕ → Bool) (es : List (ℕ × Bool)) (i : ℕ) (e : ℕ × Bool) (few next : Few) → i < length es → e ≡ get_or es i e
    → next ≡ cond ((e.1 && not (e.0 == 0)) && p e.0) (few_with e.0 few) few
    → with_keys (filter p (marked_elements (drop (i + 1) es))) next ≡ with_keys (filter p (marked_elements (drop i es))) few
elements_step p es i e few next below is given =
    let rest = drop (i + 1) es in
    ap (with_keys (filter p (marked_elements rest))) given
    ∙ sym (with_marked p (e.1 && not (e.0 == 0)) e.0 (marked_elements rest) few)
    ∙ ap (λ (x : ℕ × Bool). with_keys (filter p (marked_elements (x ∷ rest))) few) is
    ∙ sym (at_drop_more (λ xs. with_keys (filter p (marked_elements xs)) few) es i e below)

-- what is several stays so
pub stopped : (rest : List ℕ) (few all : Few) → few ≡ Several → with_keys rest few ≡ all → few ≡ all
stopped rest few all is goes = is ∙ sym (with_keys-several rest) ∙ ap (with_keys rest) (sym is) ∙ goes

-- the leaves first, then the elements
pub found : (f : Forest) (m : Marked) (leaves : List ℕ) (few all : Few) → leaves ≡ m.leaves
    → few ≡ with_keys (filter (λ k. is_some (text_fields_at f k)) leaves) Empty
    → all ≡ with_keys (filter (λ k. has k f) (marked_elements m.elements)) few
    → all ≡ few_of (changed_keys f m)
found f m leaves few all is first then =
    then ∙ ap (with_keys (filter (λ k. has k f) (marked_elements m.elements)))
    (first ∙ ap (λ ks. with_keys (filter (λ k. is_some (text_fields_at f k)) ks) Empty) is)
    ∙ sym (with_keys-append (filter (λ k. is_some (text_fields_at f k)) m.leaves) (filter (λ k. has k f) (marked_elements m.elements)) Empty)
    ∙ with_keys-empty (changed_keys f m)
