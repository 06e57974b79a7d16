-- Neighbours, and what is above them.
use Rattle.std.proofs.Common.{◌≡◌, ◌≢◌, ◌∙◌, ℕ, suc, ◌+◌, true, List, Option, None, Some, refl, sym, ap, arith, inl, inr}
use Rattle.std.specs.Prelude.{slice_get}
use Rattle.lx_trees.specs.Siblings.{is_among, next_in, previous_in, NoRepeats}
use Rattle.lx_trees.proofs.Positions.{place_in, index_in-among, index_in-slice_get, slice_get-place_in, next_in-slice_get, previous_in-place}
use Rattle.lx_forest.specs.Forest.{Forest}
use Rattle.lx_forest.specs.Lookups.{parent_of, children_of, children_below, previous_of, next_of, is_attached, IsForest}
use Rattle.lx_forest.proofs.Lookups.{NoRepeats-children_of}
use Rattle.lx_forest.proofs.Siblings.{parent_of-next, parent_of-previous}
use Rattle.lx_forest.proofs.Walks.{cases_option}
use Rattle.lx_settle.proofs.Owned.{top_root}
use Rattle.lx_draft.proofs.Gaps.{child_of}

-- two children of one node
pub record AreSiblings (f : Forest) (k n : ℕ) : Type 0 where
  pub parent : ℕ
  pub first : parent_of f k ≡ Some parent
  pub second : parent_of f n ≡ Some parent

next_by : (f : Forest) (o : Option ℕ) (k n : ℕ) → IsForest f → parent_of f k ≡ o → next_of f k ≡ Some n → AreSiblings f k n
next_by f None k n h up e = absurd (let both : ◌≡◌ {A = Option ℕ} None (Some n) = sym (ap (λ o. next_in (children_below f o) k) up) ∙ e in cc)
next_by f (Some p) k n h up e = record { parent = p; first = up; second = parent_of-next f k n p h up e }

pub next_siblings : (f : Forest) (k n : ℕ) → IsForest f → next_of f k ≡ Some n → AreSiblings f k n
next_siblings f k n h e = next_by f (parent_of f k) k n h refl e

previous_by : (f : Forest) (o : Option ℕ) (k n : ℕ) → IsForest f → parent_of f k ≡ o → previous_of f k ≡ Some n → AreSiblings f k n
previous_by f None k n h up e = absurd (let both : ◌≡◌ {A = Option ℕ} None (Some n) = sym (ap (λ o. previous_in (children_below f o) k) up) ∙ e in cc)
previous_by f (Some p) k n h up e = record { parent = p; first = up; second = parent_of-previous f k n p h up e }

pub previous_siblings : (f : Forest) (k n : ℕ) → IsForest f → previous_of f k ≡ Some n → AreSiblings f k n
previous_siblings f k n h e = previous_by f (parent_of f k) k n h refl e

step_on : (n : ℕ) → suc n ≡ n + 1
step_on n = omega arith

next_in_back : (xs : List ℕ) (k m : ℕ) → NoRepeats xs → is_among k xs ≡ true → previous_in xs k ≡ Some m → next_in xs m ≡ Some k
next_in_back xs k m once among e =
    let back = previous_in-place xs k m once e in
    next_in-slice_get xs m (place_in xs m) once (slice_get-place_in xs m back.among)
    ∙ ap (slice_get xs) (step_on (place_in xs m) ∙ back.place) ∙ slice_get-place_in xs k among

-- what is before a node is followed by it
pub previous_next : (f : Forest) (k n : ℕ) → IsForest f → previous_of f k ≡ Some n → next_of f n ≡ Some k
previous_next f k n h e =
    let s = previous_siblings f k n h e in
    ap (λ o. next_in (children_below f o) n) s.second
    ∙ next_in_back (children_of f s.parent) k n (NoRepeats-children_of f s.parent h) (child_of f s.parent k h s.first)
    (sym (ap (λ o. previous_in (children_below f o) k) s.first) ∙ e)

next_in_other : (xs : List ℕ) (k n : ℕ) → NoRepeats xs → is_among k xs ≡ true → next_in xs k ≡ Some n → k ≢ n
next_in_other xs k n once among e same =
    let behind : slice_get xs (suc (place_in xs k)) ≡ Some k =
    sym (next_in-slice_get xs k (place_in xs k) once (slice_get-place_in xs k among)) ∙ e ∙ ap (λ x. Some x) (sym same) in
    let twice : Some (suc (place_in xs k)) ≡ Some (place_in xs k) =
    sym (index_in-slice_get xs k (suc (place_in xs k)) once behind) ∙ index_in-among xs k among in
    let equal : suc (place_in xs k) ≡ place_in xs k = cc in
    omega (arith, equal)

pub next_other : (f : Forest) (k n : ℕ) → IsForest f → next_of f k ≡ Some n → k ≢ n
next_other f k n h e =
    let s = next_siblings f k n h e in
    next_in_other (children_of f s.parent) k n (NoRepeats-children_of f s.parent h) (child_of f s.parent k h s.first)
    (sym (ap (λ o. next_in (children_below f o) k) s.first) ∙ e)

-- an attached node other than the root is below another
pub attached_parent : (f : Forest) (k : ℕ) → IsForest f → is_attached f k ≡ true → k ≢ 0 → (p : ℕ) × (parent_of f k ≡ Some p)
attached_parent f k h there other = elim (cases_option (parent_of f k)) [
  | inl none ↦ absurd (other (top_root f k h none there))
  | inr (p, is) ↦ (p, is)
]
