-- Siblings, by their places among the children.
use Rattle.std.proofs.Common.{ℕ, zero, suc, ◌≡◌, ◌+◌, ◌-◌, ◌<◌, ◌^◌, true, List, [], ◌∷◌, ◌++◌, length, take, drop, Option, None, Some, refl, sym, ap, ◌∙◌, subst, arith}
use Rattle.std.specs.List.{slice_get}
use Rattle.std.specs.Prelude.{unwrap_or}
use Rattle.std.proofs.lemmas.Bool.Decides.{eqb_tells}
use Rattle.std.proofs.lemmas.Option.{slice_get_within}
use Rattle.lx_trees.specs.Siblings.{is_among, is_named, NoRepeats, index_in, next_in, previous_in, last_of}
use Rattle.lx_forest.specs.Forest.{Forest}
use Rattle.lx_forest.specs.Lookups.{parent_of, children_of, children_below, siblings, size_of, next_of, previous_of, index_of, first_child, last_child}
use Rattle.lx_forest.proofs.Bounds.{size_of-le}
use Rattle.lx_forest.proofs.Lookups.{is_among-children_of, NoRepeats-children_of}
use Rattle.lx_trees.proofs.Positions.{place_in, is_among-slice_get, next_in-slice_get, previous_in-slice_get, slice_get-place_in, first_of-slice_get, last_of-slice_get, index_in-slice_get, StepsBack, previous_in-place, index_in-first}
use Rattle.lx_forest.proofs.Siblings.{parent_of-previous}
use Rattle.lx_links.specs.Stands.{Sound}
use Rattle.lx_links.specs.Children.{IsAmid}
use Rattle.lx_links.proofs.Placed.{parent_of-child}
use Rattle.lx_links.proofs.Up.{in_order}

-- ---- a list from both ends

first_of_rest : (xs : List ℕ) (i x m : ℕ) → slice_get xs i ≡ Some x → take (suc m) (drop i xs) ≡ x ∷ take m (drop (suc i) xs)
first_of_rest [] i x m e = cc
first_of_rest (y ∷ ys) zero x m e = let same : y ≡ x = grind (arith, e) in ap (λ z. z ∷ take m ys) same
first_of_rest (y ∷ ys) (suc i) x m e = first_of_rest ys i x m e

pub first_step : (xs : List ℕ) (i x n : ℕ) → slice_get xs i ≡ Some x → 0 < n → take n (drop i xs) ≡ x ∷ take (n - 1) (drop (i + 1) xs)
first_step xs i x n e more =
    let k : n ≡ suc (n - 1) = omega arith in
    let s : suc i ≡ i + 1 = omega arith in
    ap (λ n. take n (drop i xs)) k ∙ first_of_rest xs i x (n - 1) e ∙ ap (λ j. x ∷ take (n - 1) (drop j xs)) s

last_of_front : (xs : List ℕ) (m x : ℕ) → slice_get xs m ≡ Some x → take (suc m) xs ≡ take m xs ++ x ∷ []
last_of_front [] m x e = cc
last_of_front (y ∷ ys) zero x e = let same : y ≡ x = grind (arith, e) in ap (λ z. z ∷ []) same
last_of_front (y ∷ ys) (suc m) x e = ap (λ zs. y ∷ zs) (last_of_front ys m x e)

in_rest : (xs : List ℕ) (i m : ℕ) → slice_get (drop i xs) m ≡ slice_get xs (i + m)
in_rest [] zero m = refl
in_rest [] (suc i) m = refl
in_rest (y ∷ ys) zero m = ap (slice_get (y ∷ ys)) (let e : m ≡ zero + m = omega arith in e)
in_rest (y ∷ ys) (suc i) m = in_rest ys i m ∙ ap (slice_get (y ∷ ys)) (let e : suc (i + m) ≡ suc i + m = omega arith in e)

pub last_step : (xs : List ℕ) (i x n : ℕ) → slice_get xs (i + (n - 1)) ≡ Some x → 0 < n → take n (drop i xs) ≡ take (n - 1) (drop i xs) ++ x ∷ []
last_step xs i x n e more =
    let k : n ≡ suc (n - 1) = omega arith in
    ap (λ n. take n (drop i xs)) k ∙ last_of_front (drop i xs) (n - 1) x (in_rest xs i (n - 1) ∙ e)

-- ---- neighbours

kids_apart : (f : Forest) (p i x : ℕ) → Sound f → slice_get (children_of f p) i ≡ Some x → NoRepeats (children_of f p)
kids_apart f p i x s e =
    NoRepeats-children_of f p (in_order f x p s (parent_of-child f x p s (is_among-slice_get (children_of f p) x i e)))

pub next_child : (f : Forest) (p i x : ℕ) → Sound f → slice_get (children_of f p) i ≡ Some x → next_of f x ≡ slice_get (children_of f p) (i + 1)
next_child f p i x s e =
    let up = parent_of-child f x p s (is_among-slice_get (children_of f p) x i e) in
    let j : suc i ≡ i + 1 = omega arith in
    ap (λ o. next_in (children_below f o) x) up ∙ next_in-slice_get (children_of f p) x i (kids_apart f p i x s e) e ∙ ap (slice_get (children_of f p)) j

pub previous_child : (f : Forest) (p i x : ℕ) → Sound f → slice_get (children_of f p) (i + 1) ≡ Some x → previous_of f x ≡ slice_get (children_of f p) i
previous_child f p i x s e =
    let up = parent_of-child f x p s (is_among-slice_get (children_of f p) x (i + 1) e) in
    let j : i + 1 ≡ suc i = omega arith in
    ap (λ o. previous_in (children_below f o) x) up
    ∙ previous_in-slice_get (children_of f p) x i (kids_apart f p (i + 1) x s e) (ap (slice_get (children_of f p)) (sym j) ∙ e)

-- ---- a walk through the children

last_at : (xs : List ℕ) (at : ℕ) → 0 + length xs ≡ at + 1 → last_of xs ≡ slice_get xs at
last_at [] at e = absurd (omega arith)
last_at (x ∷ xs) at e = last_of-slice_get x xs ∙ ap (slice_get (x ∷ xs)) (let h : length xs ≡ at = omega (arith, e) in h)

pub all_left : (f : Forest) (p size : ℕ) (front back : Option ℕ) → Sound f → size ≡ size_of f p → front ≡ first_child f p → back ≡ last_child f p
    → IsAmid f p 0 size front back
all_left f p size front back s size_is first last = record {
  sound = s;
  within = omega (arith, size_is);
  front_is = first ∙ first_of-slice_get (children_of f p);
  back_is = λ at e. last ∙ last_at (children_of f p) at (omega (arith, size_is, e));
}

pub front_gone : (f : Forest) (p passed left key : ℕ) (front back next : Option ℕ) → IsAmid f p passed left front back → 0 < left → front ≡ Some key
    → next ≡ next_of f key → IsAmid f p (passed + 1) (left - 1) next back
front_gone f p passed left key front back next h more first is = record {
  sound = h.sound;
  within = omega (arith, h.within, more);
  front_is = is ∙ next_child f p passed key h.sound (sym h.front_is ∙ first);
  back_is = λ at e. h.back_is at (omega (arith, more, e));
}

at_back : (f : Forest) (p passed left key : ℕ) (front back : Option ℕ) → IsAmid f p passed left front back → 0 < left → back ≡ Some key
    → slice_get (children_of f p) (passed + (left - 1)) ≡ Some key
at_back f p passed left key front back h more last = sym (h.back_is (passed + (left - 1)) (omega (arith, more))) ∙ last

pub back_gone : (f : Forest) (p passed left key : ℕ) (front back previous : Option ℕ) → IsAmid f p passed left front back → 0 < left → back ≡ Some key
    → previous ≡ previous_of f key → IsAmid f p passed (left - 1) front previous
back_gone f p passed left key front back previous h more last is = record {
  sound = h.sound;
  within = omega (arith, h.within, more);
  front_is = h.front_is;
  back_is = λ at e. is ∙ previous_child f p at key h.sound (ap (slice_get (children_of f p)) (sym e) ∙ at_back f p passed left key front back h more last);
}

pub back_step : (f : Forest) (p passed left key : ℕ) (front back : Option ℕ) → IsAmid f p passed left front back → 0 < left → back ≡ Some key
    → take left (drop passed (children_of f p)) ≡ take (left - 1) (drop passed (children_of f p)) ++ key ∷ []
back_step f p passed left key front back h more last = last_step (children_of f p) passed key left (at_back f p passed left key front back h more last) more

pub front_step : (f : Forest) (p passed left key : ℕ) (front back : Option ℕ) → IsAmid f p passed left front back → 0 < left → front ≡ Some key
    → take left (drop passed (children_of f p)) ≡ key ∷ take (left - 1) (drop (passed + 1) (children_of f p))
front_step f p passed left key front back h more first = first_step (children_of f p) passed key left (sym h.front_is ∙ first) more

inside : (xs : List ℕ) (i : ℕ) → i < length xs → slice_get xs i ≡ None → ⊥
inside [] i h e = omega (arith, h)
inside (x ∷ xs) zero h e = cc
inside (x ∷ xs) (suc i) h e = inside xs i (omega (arith, h)) e

pub back_there : (f : Forest) (p passed left : ℕ) (front back : Option ℕ) → IsAmid f p passed left front back → 0 < left → back ≡ None → ⊥
back_there f p passed left front back h more none =
    inside (children_of f p) (passed + (left - 1)) (omega (arith, h.within, more)) (sym (h.back_is (passed + (left - 1)) (omega (arith, more))) ∙ none)

pub few_passed : (f : Forest) (p passed left : ℕ) (front back : Option ℕ) → IsAmid f p passed left front back → 0 < left → passed + 1 < 2 ^ 32
few_passed f p passed left front back h more = omega (arith, h.within, more, size_of-le f p, h.sound.small)

-- ---- the way back among the siblings

among_siblings : (f : Forest) (key at p : ℕ) → Sound f → parent_of f key ≡ Some p → parent_of f at ≡ parent_of f key → is_among at (siblings f key) ≡ true
among_siblings f key at p s up same =
    ap (λ o. is_among at (children_below f o)) up ∙ is_among-children_of f at p (in_order f key p s up) ∙ ap (λ o. is_named o p) (same ∙ up)
    ∙ grind (arith, eqb_tells p p)

siblings_apart : (f : Forest) (key p : ℕ) → Sound f → parent_of f key ≡ Some p → NoRepeats (siblings f key)
siblings_apart f key p s up = subst (λ o. NoRepeats (children_below f o)) (sym up) (NoRepeats-children_of f p (in_order f key p s up))

pub step_back : (f : Forest) (key at previous p : ℕ) → Sound f → parent_of f key ≡ Some p → parent_of f at ≡ parent_of f key → previous_of f at ≡ Some previous
    → StepsBack (siblings f key) at previous
step_back f key at previous p s up same back =
    previous_in-place (siblings f key) at previous (siblings_apart f key p s up)
    (ap (λ o. previous_in (children_below f o) at) (sym same) ∙ back)

pub still_sibling : (f : Forest) (key at previous p : ℕ) → Sound f → parent_of f key ≡ Some p → parent_of f at ≡ parent_of f key
    → previous_of f at ≡ Some previous → parent_of f previous ≡ parent_of f key
still_sibling f key at previous p s up same back = parent_of-previous f at previous p (in_order f key p s up) (same ∙ up) back ∙ sym up

pub few_siblings : (f : Forest) (key p : ℕ) → Sound f → parent_of f key ≡ Some p → place_in (siblings f key) key < 2 ^ 32
few_siblings f key p s up =
    let at = slice_get-place_in (siblings f key) key (among_siblings f key key p s up refl) in
    omega (arith, slice_get_within (siblings f key) _ key at, ap (λ o. length (children_below f o)) up, size_of-le f p, s.small)

pub counted_back : (f : Forest) (key at p index : ℕ) → Sound f → parent_of f key ≡ Some p → parent_of f at ≡ parent_of f key → previous_of f at ≡ None
    → place_in (siblings f key) at + index ≡ place_in (siblings f key) key → Some index ≡ index_of f key
counted_back f key at p index s up same none sum =
    let zero_at : index_in (siblings f key) at ≡ Some 0 =
    index_in-first (siblings f key) at (among_siblings f key at p s up same) (ap (λ o. previous_in (children_below f o) at) (sym same) ∙ none) in
    let place : place_in (siblings f key) key ≡ index = grind (arith, sum, ap (λ o. unwrap_or o 0) zero_at) in
    sym (index_in-slice_get (siblings f key) key index (siblings_apart f key p s up)
    (ap (slice_get (siblings f key)) (sym place) ∙ slice_get-place_in (siblings f key) key (among_siblings f key key p s up refl)))
