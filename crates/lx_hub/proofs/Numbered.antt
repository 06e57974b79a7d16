-- The view of a number, by its place.
use Rattle.std.proofs.Common.{◌≡◌, ◌∙◌, ℕ, zero, suc, ◌+◌, ◌<◌, ◌≤◌, Bool, true, false, cond, not, nat_lt, List, [], ◌∷◌, length, Option, None, Some, refl, sym, ap, subst, arith}
use Rattle.std.specs.List.{position, position_or_len}
use Rattle.std.proofs.lemmas.Bool.Decides.{nat_tests}
use Rattle.lx_hub.specs.Hub.{View, is_numbered, view_in, changed_at, without_view}
use Rattle.lx_hub.specs.Places.{IsAt, IsNowhere, IsPlaceOf}

-- the first view of the number is at this place
abbrev IsFirst : ℕ → List View → ℕ → Type 0
IsFirst n [] i = ⊥
IsFirst n (v ∷ vs) zero = is_numbered n v ≡ true
IsFirst n (v ∷ vs) (suc i) = (is_numbered n v ≡ false) × IsFirst n vs i

-- no view has the number
abbrev HasNone : ℕ → List View → Type 0
HasNone n [] = Unit {0}
HasNone n (v ∷ vs) = (is_numbered n v ≡ false) × HasNone n vs

first_at : (n : ℕ) (vs : List View) → position_or_len (is_numbered n) vs < length vs → IsFirst n vs (position_or_len (is_numbered n) vs)
first_at n [] within = absurd (omega arith)
first_at n (v ∷ vs) within = go (is_numbered n v) refl within (first_at n vs)
  where
    go : (b : Bool) → is_numbered n v ≡ b → cond (not b) (1 + position_or_len (is_numbered n) vs) 0 < suc (length vs)
        → (position_or_len (is_numbered n) vs < length vs → IsFirst n vs (position_or_len (is_numbered n) vs))
        → IsFirst n (v ∷ vs) (cond (not b) (1 + position_or_len (is_numbered n) vs) 0)
    go true here within later = here
    go false not_here within later =
        let more : suc (position_or_len (is_numbered n) vs) ≡ 1 + position_or_len (is_numbered n) vs = omega arith in
        subst (IsFirst n (v ∷ vs)) more (not_here, later (omega arith))

none_at : (n : ℕ) (vs : List View) → length vs ≤ position_or_len (is_numbered n) vs → HasNone n vs
none_at n [] beyond = tt
none_at n (v ∷ vs) beyond = go (is_numbered n v) refl beyond (none_at n vs)
  where
    go : (b : Bool) → is_numbered n v ≡ b → suc (length vs) ≤ cond (not b) (1 + position_or_len (is_numbered n) vs) 0
        → (length vs ≤ position_or_len (is_numbered n) vs → HasNone n vs) → HasNone n (v ∷ vs)
    go true here beyond later = absurd (omega arith)
    go false not_here beyond later = (not_here, later (omega arith))

found : (n : ℕ) (vs : List View) (i : ℕ) → IsFirst n vs i → (v : View) × IsAt n vs i v
found n [] i first = absurd first
found n (v ∷ vs) zero first = (
  v,
  record {
    read = refl;
    found = ap (λ b. cond b (Some v) (view_in n vs)) first;
    changed = λ change. ap (λ b. cond b (change v ∷ vs) (v ∷ changed_at n change vs)) first;
    without = ap (λ b. cond b vs (v ∷ without_view n vs)) first;
  },
)
found n (v ∷ vs) (suc i) first =
    let r = found n vs i first.1 in (
      r.0,
      record {
        read = r.1.read;
        found = ap (λ b. cond b (Some v) (view_in n vs)) first.0 ∙ r.1.found;
        changed = λ change. ap (λ b. cond b (change v ∷ vs) (v ∷ changed_at n change vs)) first.0 ∙ ap (λ l. v ∷ l) (r.1.changed change);
        without = ap (λ b. cond b vs (v ∷ without_view n vs)) first.0 ∙ ap (λ l. v ∷ l) r.1.without;
      },
    )

nowhere : (n : ℕ) (vs : List View) → HasNone n vs → IsNowhere n vs
nowhere n [] none = record { found = refl; changed = λ change. refl; without = refl }
nowhere n (v ∷ vs) none =
    let r = nowhere n vs none.1 in
    record {
      found = ap (λ b. cond b (Some v) (view_in n vs)) none.0 ∙ r.found;
      changed = λ change. ap (λ b. cond b (change v ∷ vs) (v ∷ changed_at n change vs)) none.0 ∙ ap (λ l. v ∷ l) (r.changed change);
      without = ap (λ b. cond b vs (v ∷ without_view n vs)) none.0 ∙ ap (λ l. v ∷ l) r.without;
    }

pub place_found : (n : ℕ) (vs : List View) (r : Option ℕ) → r ≡ position (is_numbered n) vs → IsPlaceOf n vs r
place_found n vs r is = go (nat_lt (position_or_len (is_numbered n) vs) (length vs)) refl is
  where
    go : (b : Bool) → nat_lt (position_or_len (is_numbered n) vs) (length vs) ≡ b → r ≡ cond b (Some (position_or_len (is_numbered n) vs)) None
        → IsPlaceOf n vs r
    go true within is = subst (IsPlaceOf n vs) (sym is) (found n vs (position_or_len (is_numbered n) vs) (first_at n vs (grind (arith, nat_tests))))
    go false beyond is = subst (IsPlaceOf n vs) (sym is) (nowhere n vs (none_at n vs (grind (arith, nat_tests))))
