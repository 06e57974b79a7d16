-- The children of a list from the first that is marked itself up to the last.
use Rattle.std.proofs.Common.{◌≡◌, ◌≢◌, ◌∙◌, ◌⊎◌, inl, inr, ℕ, zero, suc, ◌+◌, ◌-◌, ◌<◌, ◌≤◌, Bool, true, false, cond, eqb, ◌||◌, ◌&&◌, List, [], ◌∷◌, ◌++◌, length, get_or, take, drop, Option, None, Some, refl, sym, ap, subst, arith, append_assoc, length-append}
use Rattle.std.specs.Prelude.{slice_get, unwrap_or, is_some, MatchOption}
use Rattle.std.specs.List.{list_any}
use Rattle.std.proofs.lemmas.List.{take-append-drop}
use Rattle.std.proofs.lemmas.List.Folds.{list_any_more}
use Rattle.std.proofs.lemmas.Bool.{cases_Bool}
use Rattle.std.proofs.lemmas.Bool.Decides.{eqb_tells}
use Rattle.lx_trees.specs.Siblings.{is_named, is_among, next_in, previous_in, first_of, last_from, last_of, NoRepeats}
use Rattle.lx_trees.proofs.Positions.{place_in, is_among-slice_get, index_in-slice_get, index_in-lt, index_in-first, slice_get-place_in, next_in-slice_get, previous_in-place, last_of-slice_get}
use Rattle.lx_forest.specs.Forest.{Forest}
use Rattle.lx_forest.specs.Lookups.{parent_of, children_of, children_below, siblings, next_of, previous_of, IsForest}
use Rattle.lx_forest.proofs.Lookups.{is_among-children_of, NoRepeats-children_of}
use Rattle.lx_forest.proofs.Siblings.{parent_of-next, parent_of-previous}
use Rattle.lx_marks.specs.Marks.{Marked, flag_in, is_true_flag, is_touched}
use Rattle.lx_list.specs.Parts.{AreUntouched, IsMarkedWindow}
use Rattle.lx_list.proofs.Numbered.{parent_there}

-- ---- parts of a list, by index

in_front : (xs ys : List ℕ) (i q : ℕ) → slice_get (xs ++ ys) i ≡ Some q → i < length xs → is_among q xs ≡ true
in_front [] ys i q e less = absurd (omega (arith, less))
in_front (x ∷ xs) ys zero q e less = grind (arith, e, eqb_tells x q)
in_front (x ∷ xs) ys (suc i) q e less = grind (arith, in_front xs ys i q e (omega (arith, less)))

in_rest : (xs ys : List ℕ) (i q : ℕ) → slice_get (xs ++ ys) i ≡ Some q → length xs ≤ i → is_among q ys ≡ true
in_rest [] ys i q e less = is_among-slice_get ys q i e
in_rest (x ∷ xs) ys zero q e less = absurd (omega (arith, less))
in_rest (x ∷ xs) ys (suc i) q e less = in_rest xs ys i q e (omega (arith, less))

at_front : (xs ys : List ℕ) (i q : ℕ) → slice_get xs i ≡ Some q → slice_get (xs ++ ys) i ≡ Some q
at_front [] ys i q e = absurd (cc)
at_front (x ∷ xs) ys zero q e = e
at_front (x ∷ xs) ys (suc i) q e = at_front xs ys i q e

at_rest : (xs ys : List ℕ) (i q : ℕ) → slice_get ys i ≡ Some q → slice_get (xs ++ ys) (length xs + i) ≡ Some q
at_rest [] ys i q e = ap (slice_get ys) (let same : 0 + i ≡ i = omega arith in same) ∙ e
at_rest (x ∷ xs) ys i q e = ap (slice_get (x ∷ xs ++ ys)) (let same : suc (length xs) + i ≡ suc (length xs + i) = omega arith in same) ∙ at_rest xs ys i q e

taken : (xs : List ℕ) (n i q : ℕ) → slice_get (take n xs) i ≡ Some q → (slice_get xs i ≡ Some q) × (i < n)
taken [] zero i q e = absurd (cc)
taken [] (suc n) i q e = absurd (cc)
taken (x ∷ xs) zero i q e = absurd (cc)
taken (x ∷ xs) (suc n) zero q e = (e, omega arith)
taken (x ∷ xs) (suc n) (suc i) q e = let h = taken xs n i q e in (h.0, omega (arith, h.1))

dropped : (xs : List ℕ) (n i : ℕ) → slice_get (drop n xs) i ≡ slice_get xs (n + i)
dropped [] zero i = refl
dropped [] (suc n) i = refl
dropped (x ∷ xs) zero i = ap (slice_get (x ∷ xs)) (let same : i ≡ 0 + i = omega arith in same)
dropped (x ∷ xs) (suc n) i = dropped xs n i ∙ ap (slice_get (x ∷ xs)) (let same : suc (n + i) ≡ suc n + i = omega arith in same)

first_taken : (xs : List ℕ) (n q : ℕ) → slice_get xs 0 ≡ Some q → first_of (take (suc n) xs) ≡ Some q
first_taken [] n q e = absurd (cc)
first_taken (x ∷ xs) n q e = e

last_taken : (before : Option ℕ) (xs : List ℕ) (n q : ℕ) → slice_get xs n ≡ Some q → last_from before (take (suc n) xs) ≡ Some q
last_taken before [] n q e = absurd (cc)
last_taken before (x ∷ xs) zero q e = e
last_taken before (x ∷ xs) (suc n) q e = last_taken (Some x) xs n q e

past : (xs : List ℕ) (i : ℕ) → slice_get xs i ≡ None → length xs ≤ i
past [] i e = omega arith
past (x ∷ xs) zero e = absurd (cc)
past (x ∷ xs) (suc i) e = let h : length xs ≤ i = past xs i e in omega (arith, h)

-- ---- places

place_at : (xs : List ℕ) (q i : ℕ) → NoRepeats xs → slice_get xs i ≡ Some q → place_in xs q ≡ i
place_at xs q i once e = ap (λ o. unwrap_or o 0) (index_in-slice_get xs q i once e)

place_below : (xs : List ℕ) (q : ℕ) → NoRepeats xs → is_among q xs ≡ true → place_in xs q < length xs
place_below xs q once there = index_in-lt xs q (place_in xs q) (index_in-slice_get xs q (place_in xs q) once (slice_get-place_in xs q there))

-- those at one place are one
place_apart : (xs : List ℕ) (a b : ℕ) → is_among a xs ≡ true → is_among b xs ≡ true → place_in xs a ≡ place_in xs b → a ≡ b
place_apart xs a b a_there b_there same =
    let e : Some a ≡ Some b = sym (slice_get-place_in xs a a_there) ∙ ap (slice_get xs) same ∙ slice_get-place_in xs b b_there in cc

next_place : (xs : List ℕ) (k n : ℕ) → NoRepeats xs → is_among k xs ≡ true → next_in xs k ≡ Some n → slice_get xs (suc (place_in xs k)) ≡ Some n
next_place xs k n once there e = sym (next_in-slice_get xs k (place_in xs k) once (slice_get-place_in xs k there)) ∙ e

last_place : (xs : List ℕ) (k : ℕ) → NoRepeats xs → is_among k xs ≡ true → next_in xs k ≡ None → length xs ≤ suc (place_in xs k)
last_place xs k once there e = past xs (suc (place_in xs k)) (sym (next_in-slice_get xs k (place_in xs k) once (slice_get-place_in xs k there)) ∙ e)

first_place : (xs : List ℕ) (k : ℕ) → is_among k xs ≡ true → previous_in xs k ≡ None → place_in xs k ≡ 0
first_place xs k there e = ap (λ o. unwrap_or o 0) (index_in-first xs k there e)

-- those of the front have lower places, and those behind have higher ones
front_place : (xs : List ℕ) (n q : ℕ) → NoRepeats xs → is_among q (take n xs) ≡ true → (is_among q xs ≡ true) × (place_in xs q < n)
front_place xs n q once there =
    let p : ℕ = place_in (take n xs) q in
    let at = taken xs n p q (slice_get-place_in (take n xs) q there) in
    (is_among-slice_get xs q p at.0, omega (arith, place_at xs q p once at.0, at.1))

behind_place : (xs : List ℕ) (i n q : ℕ) → NoRepeats xs → is_among q (drop n (drop i xs)) ≡ true → (is_among q xs ≡ true) × (i + n ≤ place_in xs q)
behind_place xs i n q once there =
    let p : ℕ = place_in (drop n (drop i xs)) q in
    let at : slice_get xs (i + (n + p)) ≡ Some q =
    sym (dropped xs i (n + p)) ∙ sym (dropped (drop i xs) n p) ∙ slice_get-place_in (drop n (drop i xs)) q there in
    (is_among-slice_get xs q (i + (n + p)) at, omega (arith, place_at xs q (i + (n + p)) once at))

-- ---- steps among siblings

among_children : (f : Forest) (q list : ℕ) → IsForest f → parent_of f q ≡ Some list → is_among q (children_of f list) ≡ true
among_children f q list h up = is_among-children_of f q list h ∙ ap (λ o. is_named o list) up ∙ grind (arith, eqb_tells list list)

-- one of the siblings of another
pub record IsBeside (f : Forest) (first at : ℕ) : Type 0 where
  pub sibling : parent_of f at ≡ parent_of f first
  pub there : is_among at (siblings f first) ≡ true

-- a step to the next one
pub record StepsOn (f : Forest) (first at next : ℕ) : Type 0 where
  pub from : IsBeside f first at
  pub to : IsBeside f first next
  pub place : place_in (siblings f first) next ≡ place_in (siblings f first) at + 1
  pub within : place_in (siblings f first) next < length (siblings f first)

beside : (f : Forest) (first at list : ℕ) → IsForest f → parent_of f at ≡ parent_of f first → parent_of f at ≡ Some list → IsBeside f first at
beside f first at list h same up = record {
  sibling = same;
  there = ap (λ o. is_among at (children_below f o)) (sym same ∙ up) ∙ among_children f at list h up;
}

siblings_once : (f : Forest) (first list : ℕ) → IsForest f → parent_of f first ≡ Some list → NoRepeats (siblings f first)
siblings_once f first list h up = subst (λ o. NoRepeats (children_below f o)) (sym up) (NoRepeats-children_of f list h)

pub step_on : (f : Forest) (first at next : ℕ) → IsForest f → parent_of f at ≡ parent_of f first → next_of f at ≡ Some next → StepsOn f first at next
step_on f first at next h same on = by_parent (parent_of f at) refl where
  by_parent : (o : Option ℕ) → parent_of f at ≡ o → StepsOn f first at next
  by_parent None up = absurd (let e : next_in (children_below f None) at ≡ Some next = ap (λ o. next_in (children_below f o) at) (sym up) ∙ on in cc)
  by_parent (Some list) up =
      let from : IsBeside f first at = beside f first at list h same up in
      let next_up : parent_of f next ≡ Some list = parent_of-next f at next list h up on in
      let to : IsBeside f first next = beside f first next list h (next_up ∙ sym up ∙ same) next_up in
      let once : NoRepeats (siblings f first) = siblings_once f first list h (sym same ∙ up) in
      let behind : slice_get (siblings f first) (suc (place_in (siblings f first) at)) ≡ Some next =
      next_place (siblings f first) at next once from.there (ap (λ o. next_in (children_below f o) at) (sym same) ∙ on) in
      record {
        from = from;
        to = to;
        place = place_at (siblings f first) next (suc (place_in (siblings f first) at)) once behind ∙ omega arith;
        within = place_below (siblings f first) next once to.there;
      }

-- ... and to the one before
pub record StepsBack (f : Forest) (first at previous : ℕ) : Type 0 where
  pub to : IsBeside f first previous
  pub place : place_in (siblings f first) previous + 1 ≡ place_in (siblings f first) at

pub step_back : (f : Forest) (first at previous : ℕ) → IsForest f → parent_of f at ≡ parent_of f first → previous_of f at ≡ Some previous
    → StepsBack f first at previous
step_back f first at previous h same back = by_parent (parent_of f at) refl where
  by_parent : (o : Option ℕ) → parent_of f at ≡ o → StepsBack f first at previous
  by_parent None up =
      absurd (let e : previous_in (children_below f None) at ≡ Some previous = ap (λ o. previous_in (children_below f o) at) (sym up) ∙ back in cc)
  by_parent (Some list) up =
      let previous_up : parent_of f previous ≡ Some list = parent_of-previous f at previous list h up back in
      record {
        to = beside f first previous list h (previous_up ∙ sym up ∙ same) previous_up;
        place =
            (previous_in-place (siblings f first) at previous (siblings_once f first list h (sym same ∙ up))
            (ap (λ o. previous_in (children_below f o) at) (sym same) ∙ back)).place;
      }

-- a step where there is a sibling
abbrev pub steps : Option ℕ → ℕ
steps o = cond (is_some o) 1 0

pub stepped_on : (f : Forest) (first at : ℕ) (o : Option ℕ) → IsForest f → parent_of f at ≡ parent_of f first → next_of f at ≡ o
    → (parent_of f (unwrap_or o at) ≡ parent_of f first) × (place_in (siblings f first) (unwrap_or o at) ≡ place_in (siblings f first) at + steps o)
    × (is_some o ≡ true → place_in (siblings f first) at + 1 < length (siblings f first))
stepped_on f first at None h same on = (same, omega arith, λ some. absurd (cc))
stepped_on f first at (Some next) h same on =
    let s = step_on f first at next h same on in (s.to.sibling, s.place, λ some. omega (arith, s.place, s.within))

pub stepped_back : (f : Forest) (first at : ℕ) (o : Option ℕ) → IsForest f → parent_of f at ≡ parent_of f first → previous_of f at ≡ o
    → (parent_of f (unwrap_or o at) ≡ parent_of f first) × (place_in (siblings f first) (unwrap_or o at) + steps o ≡ place_in (siblings f first) at)
stepped_back f first at None h same back = (same, omega arith)
stepped_back f first at (Some previous) h same back = let s = step_back f first at previous h same back in (s.to.sibling, s.place)

-- the walk from both ends comes nearer to the ends of all siblings
pub nearer : (size before behind earlier later : ℕ) (o r : Option ℕ) → (o ≡ None → r ≡ None → ⊥) → earlier + steps o ≡ before → later ≡ behind + steps r
    → (is_some r ≡ true → behind + 1 < size) → earlier + (size - later) < before + (size - behind)
nearer size before behind earlier later None None one back on less = absurd (one refl refl)
nearer size before behind earlier later None (Some k) one back on less = omega (arith, back, on, less refl)
nearer size before behind earlier later (Some p) None one back on less = omega (arith, back, on)
nearer size before behind earlier later (Some p) (Some k) one back on less = omega (arith, back, on)

-- one that isn't the last comes before it
pub before_last : (f : Forest) (first at last next : ℕ) → StepsOn f first at next → at ≢ last → is_among last (siblings f first) ≡ true
    → place_in (siblings f first) at ≤ place_in (siblings f first) last → place_in (siblings f first) next ≤ place_in (siblings f first) last
before_last f first at last next s other there up_to = omega (arith, s.place, up_to, apart) where
  apart : place_in (siblings f first) at ≡ place_in (siblings f first) last → ⊥
  apart same = other (place_apart (siblings f first) at last s.from.there there same)

-- ---- windows by places

-- what is marked itself has a place from the first to the last
pub record Covers (xs : List ℕ) (m : Marked) (first last : ℕ) : Type 0 where
  pub first_there : is_among first xs ≡ true
  pub last_there : is_among last xs ≡ true
  pub in_order : place_in xs first ≤ place_in xs last
  pub each : (q : ℕ) → is_among q xs ≡ true → is_touched m q ≡ true → (place_in xs first ≤ place_in xs q) × (place_in xs q ≤ place_in xs last)

none_both : {b : Bool} → b ≡ true → b ≡ false → ⊥
none_both e g = cc

last_at : (xs : List ℕ) (last : ℕ) → last_of xs ≡ Some last → (at : ℕ) × (slice_get xs at ≡ Some last) × (length xs ≡ suc at)
last_at [] last e = absurd (cc)
last_at (x ∷ xs) last e = (length xs, sym (last_of-slice_get x xs) ∙ e, refl)

first_at : (xs : List ℕ) (first : ℕ) → first_of xs ≡ Some first → slice_get xs 0 ≡ Some first
first_at [] first e = absurd (cc)
first_at (x ∷ xs) first e = e

covers_within : (front within behind : List ℕ) (m : Marked) (first last : ℕ) → NoRepeats (front ++ within ++ behind) → first_of within ≡ Some first
    → last_of within ≡ Some last → AreUntouched m front → AreUntouched m behind → Covers (front ++ within ++ behind) m first last
covers_within front within behind m first last once first_is last_is before after =
    let all : List ℕ = front ++ within ++ behind in
    let last_in = last_at within last last_is in
    let at_first : slice_get all (length front + 0) ≡ Some first =
    at_front (front ++ within) behind (length front + 0) first (at_rest front within 0 first (first_at within first first_is)) in
    let at_last : slice_get all (length front + last_in.0) ≡ Some last =
    at_front (front ++ within) behind (length front + last_in.0) last (at_rest front within last_in.0 last last_in.1) in
    let first_place : place_in all first ≡ length front + 0 = place_at all first (length front + 0) once at_first in
    let last_place : place_in all last ≡ length front + last_in.0 = place_at all last (length front + last_in.0) once at_last in
    let in_two : length (front ++ within) ≡ length front + suc last_in.0 = length-append front within ∙ ap (λ n. length front + n) last_in.2 in
    record {
      first_there = is_among-slice_get all first (length front + 0) at_first;
      last_there = is_among-slice_get all last (length front + last_in.0) at_last;
      in_order = omega (arith, first_place, last_place);
      each = λ q there touched. (
        not_before (place_in all q) (length front) (place_in all first) (first_place ∙ omega arith) (λ less. none_both touched (before q (early q there less))),
        not_behind (place_in all q) (length (front ++ within)) (place_in all last) (omega (arith, in_two, last_place))
            (λ more. none_both touched (after q (late q there more))),
      );
    }
  where
    not_before : (at start first : ℕ) → first ≡ start → (at < start → ⊥) → first ≤ at
    not_before at start first is none = omega (arith, is, none)

    not_behind : (at end last : ℕ) → end ≡ suc last → (end ≤ at → ⊥) → at ≤ last
    not_behind at end last is none = omega (arith, is, none)

    early : (q : ℕ) → is_among q (front ++ within ++ behind) ≡ true → place_in (front ++ within ++ behind) q < length front → is_among q front ≡ true
    early q there less =
        in_front front (within ++ behind) (place_in (front ++ within ++ behind) q) q
        (ap (λ xs. slice_get xs (place_in (front ++ within ++ behind) q)) (sym (append_assoc front within behind))
        ∙ slice_get-place_in (front ++ within ++ behind) q there) less

    late : (q : ℕ) → is_among q (front ++ within ++ behind) ≡ true → length (front ++ within) ≤ place_in (front ++ within ++ behind) q
        → is_among q behind ≡ true
    late q there more =
        in_rest (front ++ within) behind (place_in (front ++ within ++ behind) q) q (slice_get-place_in (front ++ within ++ behind) q there) more

pub covers : (f : Forest) (m : Marked) (list first last : ℕ) → IsForest f → IsMarkedWindow f m list first last → Covers (children_of f list) m first last
covers f m list first last h w =
    subst (λ xs. Covers xs m first last) (sym w.children)
    (covers_within w.front w.within w.behind m first last (subst NoRepeats w.children (NoRepeats-children_of f list h)) w.first_is w.last_is w.front_untouched
    w.behind_untouched)

untouched_by : (m : Marked) (q : ℕ) → (is_touched m q ≡ true → ⊥) → is_touched m q ≡ false
untouched_by m q none = elim (cases_Bool (is_touched m q)) [ inl touched ↦ absurd (none touched) | inr other ↦ other ]

pub window : (f : Forest) (m : Marked) (list first last : ℕ) → IsForest f → Covers (children_of f list) m first last → IsMarkedWindow f m list first last
window f m list first last h c =
    let xs : List ℕ = children_of f list in
    let i : ℕ = place_in xs first in
    let n : ℕ = place_in xs last - i in
    let once : NoRepeats xs = NoRepeats-children_of f list h in
    let first_here : slice_get (drop i xs) 0 ≡ Some first =
    dropped xs i 0 ∙ ap (slice_get xs) (let same : i + 0 ≡ i = omega arith in same) ∙ slice_get-place_in xs first c.first_there in
    let last_here : slice_get (drop i xs) n ≡ Some last =
    dropped xs i n ∙ ap (slice_get xs) (let same : i + n ≡ place_in xs last = omega (arith, c.in_order) in same) ∙ slice_get-place_in xs last c.last_there in
    record {
      front = take i xs;
      within = take (suc n) (drop i xs);
      behind = drop (suc n) (drop i xs);
      children =
          sym (take-append-drop i xs) ∙ ap (λ ys. take i xs ++ ys) (sym (take-append-drop (suc n) (drop i xs)))
          ∙ sym (append_assoc (take i xs) (take (suc n) (drop i xs)) (drop (suc n) (drop i xs)));
      first_is = first_taken (drop i xs) n first first_here;
      last_is = last_taken None (drop i xs) n last last_here;
      front_untouched = λ q there. untouched_by m q (λ touched.
          let at = front_place xs i q once there in omega (arith, at.1, (c.each q at.0 touched).0));
      behind_untouched = λ q there. untouched_by m q (λ touched.
          let at = behind_place xs i (suc n) q once there in omega (arith, at.1, (c.each q at.0 touched).1));
    }

-- ---- what the window is after a key

-- these marks, and this leaf
abbrev pub with_key : ℕ → Marked → Marked
with_key key m = record m { leaves = key ∷ m.leaves }

-- the window, or that there is none
abbrev pub IsWindowOf : Forest → Marked → ℕ → Option (ℕ × ℕ) → Type 0
IsWindowOf f m list o = MatchOption o (AreUntouched m (children_of f list)) (λ ends. IsMarkedWindow f m list ends.0 ends.1)

widen : (xs : List ℕ) (m : Marked) (key a b first last : ℕ) → Covers xs m first last → is_among a xs ≡ true → is_among b xs ≡ true
    → place_in xs a ≤ place_in xs first → place_in xs last ≤ place_in xs b → place_in xs a ≤ place_in xs key → place_in xs key ≤ place_in xs b
    → Covers xs (with_key key m) a b
widen xs m key a b first last c a_there b_there back on from to = record {
  first_there = a_there;
  last_there = b_there;
  in_order = omega (arith, from, to);
  each = λ q there touched. by_test q there touched (eqb_tells key q);
} where
  by_test : (q : ℕ) → is_among q xs ≡ true → is_touched (with_key key m) q ≡ true → ((eqb key q ≡ true) × (key ≡ q)) ⊎ ((eqb key q ≡ false) × (key ≢ q))
      → (place_in xs a ≤ place_in xs q) × (place_in xs q ≤ place_in xs b)
  by_test q there touched (inl own) = subst (λ k. (place_in xs a ≤ place_in xs k) × (place_in xs k ≤ place_in xs b)) own.1 (from, to)
  by_test q there touched (inr other) =
      let old = c.each q there (grind (arith, touched, other.0)) in
      (omega (arith, old.0, back), omega (arith, old.1, on))

-- fewer marks have the same window
fewer : (xs : List ℕ) (m n : Marked) (first last : ℕ) → ((q : ℕ) → is_among q xs ≡ true → is_touched n q ≡ true → is_touched m q ≡ true)
    → Covers xs m first last → Covers xs n first last
fewer xs m n first last less c = record {
  first_there = c.first_there;
  last_there = c.last_there;
  in_order = c.in_order;
  each = λ q there touched. c.each q there (less q there touched);
}

pub still_window : (f : Forest) (m n : Marked) (list : ℕ) (o : Option (ℕ × ℕ)) → IsForest f
    → ((q : ℕ) → is_among q (children_of f list) ≡ true → is_touched n q ≡ true → is_touched m q ≡ true) → IsWindowOf f m list o → IsWindowOf f n list o
still_window f m n list None h less w = λ q there. untouched_by n q (λ touched. none_both (less q there touched) (w q there))
still_window f m n list (Some ends) h less w =
    window f n list ends.0 ends.1 h (fewer (children_of f list) m n ends.0 ends.1 less (covers f m list ends.0 ends.1 h w))

-- one that is no child of the list
pub no_child : (f : Forest) (m : Marked) (list key : ℕ) (o : Option (ℕ × ℕ)) → IsForest f → parent_of f key ≢ Some list → IsWindowOf f m list o
    → IsWindowOf f (with_key key m) list o
no_child f m list key o h other = still_window f m (with_key key m) list o h (λ q there touched. by_test q there touched (eqb_tells key q)) where
  by_test : (q : ℕ) → is_among q (children_of f list) ≡ true → is_touched (with_key key m) q ≡ true
      → ((eqb key q ≡ true) × (key ≡ q)) ⊎ ((eqb key q ≡ false) × (key ≢ q)) → is_touched m q ≡ true
  by_test q there touched (inl own) = absurd (other (ap (parent_of f) own.1 ∙ parent_there f list q h there))
  by_test q there touched (inr apart) = grind (arith, touched, apart.0)

-- the first one that is marked itself
pub begun : (f : Forest) (m : Marked) (list key : ℕ) → IsForest f → parent_of f key ≡ Some list → AreUntouched m (children_of f list)
    → IsMarkedWindow f (with_key key m) list key key
begun f m list key h up none = window f (with_key key m) list key key h (record {
  first_there = among_children f key list h up;
  last_there = among_children f key list h up;
  in_order = omega arith;
  each = λ q there touched. by_test q there touched (eqb_tells key q);
}) where
  by_test : (q : ℕ) → is_among q (children_of f list) ≡ true → is_touched (with_key key m) q ≡ true
      → ((eqb key q ≡ true) × (key ≡ q)) ⊎ ((eqb key q ≡ false) × (key ≢ q))
      → (place_in (children_of f list) key ≤ place_in (children_of f list) q) × (place_in (children_of f list) q ≤ place_in (children_of f list) key)
  by_test q there touched (inl own) = rw own.1 (omega arith, omega arith)
  by_test q there touched (inr apart) = absurd (none_both (let old : is_touched m q ≡ true = grind (arith, touched, apart.0) in old) (none q there))

-- ---- what is found

-- the list is above both ends of a window
up_of : (f : Forest) (m : Marked) (list first last : ℕ) → IsForest f → IsMarkedWindow f m list first last
    → (parent_of f first ≡ Some list) × (parent_of f last ≡ Some list)
up_of f m list first last h w =
    let c = covers f m list first last h w in (parent_there f list first h c.first_there, parent_there f list last h c.last_there)

-- it is between the ends
pub found_between : (f : Forest) (m : Marked) (list first last key : ℕ) → IsForest f → parent_of f key ≡ parent_of f first
    → place_in (siblings f first) first ≤ place_in (siblings f first) key
    → (is_among last (siblings f first) ≡ true → place_in (siblings f first) first ≤ place_in (siblings f first) last
    → place_in (siblings f first) key ≤ place_in (siblings f first) last)
    → IsMarkedWindow f m list first last → IsMarkedWindow f (with_key key m) list first last
found_between f m list first last key h same passed up_to w =
    let c = covers f m list first last h w in
    let is : siblings f first ≡ children_of f list = ap (children_below f) (up_of f m list first last h w).0 in
    let from : place_in (children_of f list) first ≤ place_in (children_of f list) key = subst (λ xs. place_in xs first ≤ place_in xs key) is passed in
    let to : place_in (children_of f list) key ≤ place_in (children_of f list) last =
    subst (λ xs. is_among last xs ≡ true → place_in xs first ≤ place_in xs last → place_in xs key ≤ place_in xs last) is up_to c.last_there c.in_order in
    window f (with_key key m) list first last h
    (widen (children_of f list) m key first last first last c c.first_there c.last_there (omega arith) (omega arith) from to)

-- siblings before the first, and behind the last, which a walk from both ends reached
pub record IsReached (f : Forest) (first last before behind : ℕ) : Type 0 where
  pub back : parent_of f before ≡ parent_of f first
  pub on : parent_of f behind ≡ parent_of f last
  pub first_behind : place_in (siblings f first) before ≤ place_in (siblings f first) first
  pub last_before : place_in (siblings f last) last ≤ place_in (siblings f last) behind

pub found_before : (f : Forest) (m : Marked) (list first last before behind key : ℕ) → IsForest f → IsReached f first last before behind
    → previous_of f before ≡ Some key → IsMarkedWindow f m list first last → IsMarkedWindow f (with_key key m) list key last
found_before f m list first last before behind key h r found w =
    let c = covers f m list first last h w in
    let is : siblings f first ≡ children_of f list = ap (children_below f) (up_of f m list first last h w).0 in
    let s = step_back f first before key h r.back found in
    let back : place_in (children_of f list) key ≤ place_in (children_of f list) first =
    subst (λ xs. place_in xs key ≤ place_in xs first) is (omega (arith, s.place, r.first_behind)) in
    window f (with_key key m) list key last h
    (widen (children_of f list) m key key last first last c (subst (λ xs. is_among key xs ≡ true) is s.to.there) c.last_there back (omega arith) (omega arith)
    (omega (arith, back, c.in_order)))

pub found_behind : (f : Forest) (m : Marked) (list first last before behind key : ℕ) → IsForest f → IsReached f first last before behind
    → next_of f behind ≡ Some key → IsMarkedWindow f m list first last → IsMarkedWindow f (with_key key m) list first key
found_behind f m list first last before behind key h r found w =
    let c = covers f m list first last h w in
    let is : siblings f last ≡ children_of f list = ap (children_below f) (up_of f m list first last h w).1 in
    let s = step_on f last behind key h r.on found in
    let on : place_in (children_of f list) last ≤ place_in (children_of f list) key =
    subst (λ xs. place_in xs last ≤ place_in xs key) is (omega (arith, s.place, r.last_before)) in
    window f (with_key key m) list first key h
    (widen (children_of f list) m key first key first last c c.first_there (subst (λ xs. is_among key xs ≡ true) is s.to.there) (omega arith) on
    (omega (arith, on, c.in_order)) (omega arith))

-- the ends of all siblings
pub found_ends : (f : Forest) (m : Marked) (list first last before behind key : ℕ) → IsForest f → IsReached f first last before behind
    → previous_of f before ≡ None → next_of f behind ≡ None → parent_of f key ≡ Some list → IsMarkedWindow f m list first last
    → IsMarkedWindow f (with_key key m) list before behind
found_ends f m list first last before behind key h r no_more_back no_more_on up w =
    let xs : List ℕ = children_of f list in
    let c = covers f m list first last h w in
    let ups = up_of f m list first last h w in
    let once : NoRepeats xs = NoRepeats-children_of f list h in
    let before_there : is_among before xs ≡ true = among_children f before list h (r.back ∙ ups.0) in
    let behind_there : is_among behind xs ≡ true = among_children f behind list h (r.on ∙ ups.1) in
    let start : place_in xs before ≡ 0 =
    first_place xs before before_there (ap (λ o. previous_in (children_below f o) before) (sym (r.back ∙ ups.0)) ∙ no_more_back) in
    let end : length xs ≤ suc (place_in xs behind) =
    last_place xs behind once behind_there (ap (λ o. next_in (children_below f o) behind) (sym (r.on ∙ ups.1)) ∙ no_more_on) in
    window f (with_key key m) list before behind h
    (widen xs m key before behind first last c before_there behind_there (omega (arith, start)) (omega (arith, end, place_below xs last once c.last_there))
    (omega (arith, start)) (omega (arith, end, place_below xs key once (among_children f key list h up))))

-- ---- over all that is marked

-- one leaf more
pub leaf_more : (leaves : List ℕ) (i key q : ℕ) → i < length leaves → key ≡ get_or leaves i key
    → is_touched (record { leaves = take (i + 1) leaves; elements = [] }) q ≡ true
    → is_touched (record { leaves = key ∷ take i leaves; elements = [] }) q ≡ true
leaf_more leaves i key q less is touched =
    let more : list_any (λ x. eqb x q) (take (i + 1) leaves) ≡ (list_any (λ x. eqb x q) (take i leaves) || eqb (get_or leaves i key) q) =
    list_any_more (λ x. eqb x q) leaves i key less in
    let here : eqb (get_or leaves i key) q ≡ eqb key q = ap (λ x. eqb x q) (sym is) in
    grind (arith, touched, more, here)

-- one element more
flag_more : (es : List (ℕ × Bool)) (key q : ℕ) (flag : Bool) → is_true_flag (flag_in (es ++ (key, flag) ∷ []) q) ≡ true
    → (is_true_flag (flag_in es q) || (eqb q key && flag)) ≡ true
flag_more [] key q flag e = grind (arith, e)
flag_more (e0 ∷ es) key q flag e = elim (cases_Bool (eqb q e0.0)) [
  | inl own ↦ grind (arith, own, e)
  | inr other ↦ grind (arith, other, e, flag_more es key q flag)
]

abbrev pub with_element : ℕ → Bool → Marked → Marked
with_element key flag m = record m { elements = m.elements ++ (key, flag) ∷ [] }

pub element_flagged : (m : Marked) (key q : ℕ) (flag : Bool) → is_touched (with_element key flag m) q ≡ true → is_touched (with_key key m) q ≡ true
element_flagged m key q flag touched = grind (arith, touched, flag_more m.elements key q flag, eqb_tells q key, eqb_tells key q)

pub element_below : (m : Marked) (key q : ℕ) (flag : Bool) → flag ≡ false → is_touched (with_element key flag m) q ≡ true → is_touched m q ≡ true
element_below m key q flag below touched = grind (arith, touched, below, flag_more m.elements key q flag)
