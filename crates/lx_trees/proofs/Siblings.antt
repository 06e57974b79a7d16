-- The laws of a list of names: what leaving and coming do to who is beside whom.
use Rattle.std.proofs.Common.{suc, ◌≡◌, ◌≢◌, ◌⊎◌, sym, ap, ℕ, ◌+◌, true, false, cond, eqb, ◌||◌, ◌&&◌, not, List, [], ◌∷◌, ◌++◌, length, Option, None, Some, refl, arith, subst, inl, inr}
use Rattle.std.specs.Prelude.{option_map, is_some, is_none}
use Rattle.std.proofs.lemmas.Bool.Decides.{eqb_tells}
use Rattle.lx_trees.specs.Siblings.{is_named, is_among, NoRepeats, first_of, last_from, last_of, next_in, previous_from, previous_in, index_in, names_without, names_with, is_place, place_behind}

-- whether this is the name, and what that says
pub is_named_tells : (o : Option ℕ) (q : ℕ) → ((is_named o q ≡ true) × (o ≡ Some q)) ⊎ ((is_named o q ≡ false) × (o ≢ Some q))
is_named_tells None q = inr (refl, λ e. grind arith)
is_named_tells (Some x) q =
    elim (eqb_tells q x) [
      | inl h ↦ inl (h.0, ap (λ y. Some y) (sym h.1))
      | inr h ↦ inr (h.0, λ e. h.1 (grind arith))
    ]

-- ---- membership

pub is_among-append : (q : ℕ) (xs ys : List ℕ) → is_among q (xs ++ ys) ≡ (is_among q xs || is_among q ys)
is_among-append q [] ys = refl
is_among-append q (x ∷ xs) ys = grind (arith, is_among-append q xs ys)

pub NoRepeats-append : (xs ys : List ℕ) → NoRepeats xs → NoRepeats ys → ((q : ℕ) → is_among q xs ≡ true → is_among q ys ≡ false) → NoRepeats (xs ++ ys)
NoRepeats-append [] ys u v apart = v
NoRepeats-append (x ∷ xs) ys u v apart =
    (grind (arith, u.0, apart x, eqb_tells x x, is_among-append x xs ys), NoRepeats-append xs ys u.1 v (λ q e. grind (arith, apart q, e)))

pub is_among-names_without : (k q : ℕ) (xs : List ℕ) → is_among q (names_without k xs) ≡ (is_among q xs && not (eqb q k))
is_among-names_without k q [] = refl
is_among-names_without k q (x ∷ xs) = grind (arith, is_among-names_without k q xs, eqb_tells x k, eqb_tells x q, eqb_tells q k)

pub is_among-names_with : (before : Option ℕ) (new xs : List ℕ) (q : ℕ) → is_among q (names_with before new xs) ≡ (is_among q new || is_among q xs)
is_among-names_with before new [] q = grind arith
is_among-names_with before new (x ∷ xs) q = grind (arith, is_among-names_with before new xs q, is_among-append q new (x ∷ xs))

pub names_without-absent_list : (k : ℕ) (xs : List ℕ) → is_among k xs ≡ false → names_without k xs ≡ xs
names_without-absent_list k [] e = refl
names_without-absent_list k (x ∷ xs) e = grind (arith, names_without-absent_list k xs)

pub is_some-index_in : (xs : List ℕ) (q : ℕ) → is_some (index_in xs q) ≡ is_among q xs
is_some-index_in [] q = refl
is_some-index_in (x ∷ xs) q = grind (arith, is_some-index_in xs q)

option_map-add : (n : ℕ) (o : Option ℕ) → ((i : ℕ) → n + i ≡ i) → option_map (λ i. n + i) o ≡ o
option_map-add n None same = refl
option_map-add n (Some i) same = ap (λ j. Some j) (same i)

option_map-suc : (n : ℕ) (o : Option ℕ) → option_map (λ i. i + 1) (option_map (λ i. n + i) o) ≡ option_map (λ i. suc n + i) o
option_map-suc n None = refl
option_map-suc n (Some i) = ap (λ j. Some j) (omega arith)

pub index_in-append : (xs ys : List ℕ) (q : ℕ) → index_in (xs ++ ys) q ≡ cond (is_among q xs) (index_in xs q) (option_map (λ i. length xs + i) (index_in ys q))
index_in-append [] ys q = sym (option_map-add 0 (index_in ys q) (λ i. omega arith))
index_in-append (x ∷ xs) ys q = grind (arith, index_in-append xs ys q, option_map-suc (length xs) (index_in ys q))

pub next_in-absent : (xs : List ℕ) (q : ℕ) → is_among q xs ≡ false → next_in xs q ≡ None
next_in-absent [] q e = refl
next_in-absent (x ∷ xs) q e = grind (arith, next_in-absent xs q)

-- the first name is in the list, and so is a neighbour
pub first_of-among : (xs : List ℕ) (n : ℕ) → first_of xs ≡ Some n → is_among n xs ≡ true
first_of-among [] n e = absurd (grind arith)
first_of-among (x ∷ xs) n e = grind (arith, eqb_tells x n)

pub next_in-among : (xs : List ℕ) (q n : ℕ) → next_in xs q ≡ Some n → is_among n xs ≡ true
next_in-among [] q n e = absurd (grind arith)
next_in-among (x ∷ []) q n e = absurd (grind arith)
next_in-among (x ∷ y ∷ xs) q n e = grind (arith, next_in-among (y ∷ xs) q n, eqb_tells y n)

pub previous_from-among : (b : Option ℕ) (xs : List ℕ) (q n : ℕ) → previous_from b xs q ≡ Some n → (is_named b n || is_among n xs) ≡ true
previous_from-among b [] q n e = absurd (grind arith)
previous_from-among b (x ∷ xs) q n e = grind (arith, previous_from-among (Some x) xs q n, eqb_tells x n, eqb_tells n x)

pub is_some-last_from : (x : ℕ) (xs : List ℕ) → is_some (last_from (Some x) xs) ≡ true
is_some-last_from x [] = refl
is_some-last_from x (y ∷ xs) = is_some-last_from y xs

pub is_some-previous_from : (x : ℕ) (xs : List ℕ) (q : ℕ) → is_among q xs ≡ true → is_some (previous_from (Some x) xs q) ≡ true
is_some-previous_from x [] q e = absurd (grind arith)
is_some-previous_from x (y ∷ xs) q e = grind (arith, is_some-previous_from y xs q)

pub last_from-apart : (b : Option ℕ) (xs : List ℕ) (q : ℕ) → is_named b q ≡ false → is_among q xs ≡ false → is_named (last_from b xs) q ≡ false
last_from-apart b [] q e f = e
last_from-apart b (x ∷ xs) q e f = last_from-apart (Some x) xs q (grind (arith, eqb_tells x q, eqb_tells q x)) (grind arith)

-- a name in the list has none before it where it is the first, and none after it where it is the last
pub is_none-previous_in : (xs : List ℕ) (k : ℕ) → NoRepeats xs → is_among k xs ≡ true → is_none (previous_in xs k) ≡ is_named (first_of xs) k
is_none-previous_in [] k u e = absurd (grind arith)
is_none-previous_in (x ∷ xs) k u e = grind (arith, eqb_tells x k, eqb_tells k x, is_some-previous_from x xs k)

pub is_none-next_in : (xs : List ℕ) (k : ℕ) → NoRepeats xs → is_among k xs ≡ true → is_none (next_in xs k) ≡ is_named (last_of xs) k
is_none-next_in [] k u e = absurd (grind arith)
is_none-next_in (x ∷ []) k u e = grind (arith, eqb_tells x k, eqb_tells k x)
is_none-next_in (x ∷ y ∷ xs) k u e =
    elim (eqb_tells x k) [
      | inl own ↦ grind (arith, own, last_from-apart (Some y) xs k, eqb_tells y k, eqb_tells k y)
      | inr other ↦ grind (arith, other, is_none-next_in (y ∷ xs) k)
    ]

-- lists that begin alike and go on alike are equal
pub same_names : (xs ys : List ℕ) → NoRepeats xs → NoRepeats ys → first_of xs ≡ first_of ys → ((q : ℕ) → is_among q xs ≡ true → next_in xs q ≡ next_in ys q)
    → xs ≡ ys
same_names [] [] u v e same = refl
same_names [] (y ∷ ys) u v e same = absurd (grind arith)
same_names (x ∷ xs) [] u v e same = absurd (grind arith)
same_names (x ∷ xs) (y ∷ ys) u v e same =
    let firsts : x ≡ y = grind arith in
    let rests : xs ≡ ys =
    same_names xs ys u.1 v.1 (grind (arith, same x, firsts, eqb_tells x x, eqb_tells y x))
    (λ q among. grind (arith, among, same q, firsts, u.0, eqb_tells x q, eqb_tells y q)) in
    cc

-- ---- k leaves

pub first_of-names_without : (k : ℕ) (xs : List ℕ) → NoRepeats xs → first_of (names_without k xs) ≡ cond (is_named (first_of xs) k) (next_in xs k) (first_of xs)
first_of-names_without k [] u = refl
first_of-names_without k (x ∷ xs) u = grind (arith, eqb_tells x k, eqb_tells k x, names_without-absent_list k xs)

pub length-names_without : (k : ℕ) (xs : List ℕ) → NoRepeats xs → length (names_without k xs) + cond (is_among k xs) 1 0 ≡ length xs
length-names_without k [] u = refl
length-names_without k (x ∷ xs) u = grind (arith, eqb_tells x k, length-names_without k xs, names_without-absent_list k xs)

-- the last name of a list that isn't empty
last_from-skip : (b : Option ℕ) (x k : ℕ) (xs : List ℕ) → is_named b k ≡ false → eqb x k ≡ true → is_among k xs ≡ false →
    (is_named (last_from (Some x) xs) k ≡ is_none (first_of xs)) × (cond (is_none (first_of xs)) b (last_from (Some x) xs) ≡ last_from b xs)
last_from-skip b x k [] e f n = grind (arith, eqb_tells x k, eqb_tells k x)
last_from-skip b x k (y ∷ xs) e f n = (last_from-apart (Some y) xs k (grind (arith, eqb_tells y k, eqb_tells k y)) (grind arith), refl)

pub last_from-names_without : (b : Option ℕ) (k : ℕ) (xs : List ℕ) → NoRepeats xs → is_named b k ≡ false →
    last_from b (names_without k xs) ≡ cond (is_named (last_from b xs) k) (previous_from b xs k) (last_from b xs)
last_from-names_without b k [] u e = grind arith
last_from-names_without b k (x ∷ xs) u e =
    grind (arith, eqb_tells x k, eqb_tells k x, last_from-names_without (Some x) k xs, names_without-absent_list k xs, last_from-skip b x k xs)

pub last_of-names_without : (k : ℕ) (xs : List ℕ) → NoRepeats xs →
    last_of (names_without k xs) ≡ cond (is_named (last_of xs) k) (previous_in xs k) (last_of xs)
last_of-names_without k xs u = last_from-names_without None k xs u refl

-- what isn't among the list, nor before it, is no neighbour in it
pub previous_from-apart : (b : Option ℕ) (xs : List ℕ) (k q : ℕ) → is_named b q ≡ false → is_among q xs ≡ false → is_named (previous_from b xs k) q ≡ false
previous_from-apart b [] k q e f = refl
previous_from-apart b (x ∷ xs) k q e f = grind (arith, previous_from-apart (Some x) xs k q, eqb_tells x q, eqb_tells q x)

pub next_in-apart : (xs : List ℕ) (k q : ℕ) → is_among q xs ≡ false → is_named (next_in xs k) q ≡ false
next_in-apart [] k q f = refl
next_in-apart (x ∷ []) k q f = grind arith
next_in-apart (x ∷ y ∷ xs) k q f = grind (arith, next_in-apart (y ∷ xs) k q, eqb_tells y q, eqb_tells q y)

-- a name before the list has no next one in it
no_next : (b o : Option ℕ) (xs : List ℕ) (q : ℕ) → (is_named b q ≡ true → is_among q xs ≡ false)
    → next_in xs q ≡ cond (is_named b q && is_among q xs) o (next_in xs q)
no_next b o xs q e = grind arith

next_from-first_without : (b : Option ℕ) (k q x : ℕ) (xs : List ℕ) → eqb x k ≡ true → eqb x q ≡ false → is_among k xs ≡ false
    → (is_named b q ≡ true → is_among q xs ≡ false) →
    next_in (names_without k (x ∷ xs)) q ≡ cond (is_named (previous_from b (x ∷ xs) k) q && is_among q (x ∷ xs)) (next_in (x ∷ xs) k) (next_in (x ∷ xs) q)
next_from-first_without b k q x xs h g n e = rw (h, g, names_without-absent_list k xs n) (no_next b (first_of xs) xs q e)

next_from-own_without : (b : Option ℕ) (k x : ℕ) (xs : List ℕ) → eqb x k ≡ false → NoRepeats (x ∷ xs) →
    next_in (names_without k (x ∷ xs)) x ≡ cond (is_named (previous_from b (x ∷ xs) k) x) (next_in xs k) (first_of xs)
next_from-own_without b k x [] h u = grind (arith, eqb_tells x x)
next_from-own_without b k x (y ∷ xs) h u =
    grind (arith, eqb_tells x x, eqb_tells y k, eqb_tells y x, names_without-absent_list k xs, previous_from-apart (Some y) xs k x, eqb_tells x y)

next_from-names_without : (b : Option ℕ) (k q : ℕ) (xs : List ℕ) → NoRepeats xs → eqb q k ≡ false → (is_named b q ≡ true → is_among q xs ≡ false) →
    next_in (names_without k xs) q ≡ cond (is_named (previous_from b xs k) q && is_among q xs) (next_in xs k) (next_in xs q)
next_from-names_without b k q [] u d e = grind arith
next_from-names_without b k q (x ∷ []) u d e = grind (arith, eqb_tells x k, eqb_tells x q, eqb_tells q x, eqb_tells q k)
next_from-names_without b k q (x ∷ y ∷ xs) u d e =
    elim (eqb_tells x k) [
      | inl h ↦ next_from-first_without b k q x (y ∷ xs) h.0 (grind (arith, h, eqb_tells x q, eqb_tells q k)) (grind (arith, h)) (grind arith)
      | inr h ↦ elim (eqb_tells x q) [
        | inl g ↦
            subst (λ z. next_in (names_without k (x ∷ y ∷ xs)) z
            ≡ cond (is_named (previous_from b (x ∷ y ∷ xs) k) z && is_among z (x ∷ y ∷ xs)) (next_in (x ∷ y ∷ xs) k) (next_in (x ∷ y ∷ xs) z)) g.1
            (grind (arith, h, eqb_tells x x, next_from-own_without b k x (y ∷ xs)))
        | inr g ↦ grind (arith, h, g, next_from-names_without (Some x) k q (y ∷ xs), eqb_tells q x)
      ]
    ]

pub next_in-names_without : (k q : ℕ) (xs : List ℕ) → NoRepeats xs → eqb q k ≡ false →
    next_in (names_without k xs) q ≡ cond (is_named (previous_in xs k) q) (next_in xs k) (next_in xs q)
next_in-names_without k q xs u d = grind (arith, next_from-names_without None k q xs, previous_from-apart None xs k q)

pub previous_from-names_without : (b : Option ℕ) (k q : ℕ) (xs : List ℕ) → NoRepeats xs → eqb q k ≡ false →
    previous_from b (names_without k xs) q ≡ cond (is_named (next_in xs k) q) (previous_from b xs k) (previous_from b xs q)
previous_from-names_without b k q [] u d = grind arith
previous_from-names_without b k q (x ∷ []) u d = grind (arith, eqb_tells x k, eqb_tells x q, eqb_tells q x, eqb_tells q k)
previous_from-names_without b k q (x ∷ y ∷ xs) u d =
    grind (arith, eqb_tells x k, eqb_tells x q, eqb_tells q x, eqb_tells q k, names_without-absent_list k (y ∷ xs), previous_from-names_without (Some x) k q (y ∷ xs), next_in-apart (y ∷ xs) k q, eqb_tells y q, eqb_tells q y)

-- ---- k comes

pub length-names_with : (before : Option ℕ) (k : ℕ) (xs : List ℕ) → length (names_with before (k ∷ []) xs) ≡ length xs + 1
length-names_with before k [] = refl
length-names_with before k (x ∷ xs) = grind (arith, length-names_with before k xs)

pub first_of-names_with : (before : Option ℕ) (k : ℕ) (xs : List ℕ) → is_place before xs ≡ true →
    first_of (names_with before (k ∷ []) xs) ≡ cond (is_some (place_behind before xs)) (first_of xs) (Some k)
first_of-names_with None k [] e = refl
first_of-names_with None k (x ∷ xs) e = grind (arith, is_some-last_from x xs)
first_of-names_with (Some c) k [] e = absurd (grind arith)
first_of-names_with (Some c) k (x ∷ xs) e = grind (arith, is_some-previous_from x xs c)

last_from-names_with : (before b : Option ℕ) (k : ℕ) (xs : List ℕ) → is_place before xs ≡ true →
    last_from b (names_with before (k ∷ []) xs) ≡ cond (is_some before) (last_from b xs) (Some k)
last_from-names_with None b k [] e = refl
last_from-names_with None b k (x ∷ xs) e = last_from-names_with None (Some x) k xs refl
last_from-names_with (Some c) b k [] e = absurd (grind arith)
last_from-names_with (Some c) b k (x ∷ xs) e = grind (arith, last_from-names_with (Some c) (Some x) k xs)

pub last_of-names_with : (before : Option ℕ) (k : ℕ) (xs : List ℕ) → is_place before xs ≡ true →
    last_of (names_with before (k ∷ []) xs) ≡ cond (is_some before) (last_of xs) (Some k)
last_of-names_with before k xs e = last_from-names_with before None k xs e

-- beside another
next_in-names_with_last : (k q : ℕ) (xs : List ℕ) → NoRepeats xs → eqb q k ≡ false →
    next_in (names_with None (k ∷ []) xs) q ≡ cond (is_named (last_of xs) q) (Some k) (next_in xs q)
next_in-names_with_last k q [] u d = grind (arith, eqb_tells k q, eqb_tells q k)
next_in-names_with_last k q (x ∷ []) u d = grind (arith, eqb_tells x q, eqb_tells q x, eqb_tells k q, eqb_tells q k)
next_in-names_with_last k q (x ∷ y ∷ xs) u d =
    elim (eqb_tells x q) [
      | inl g ↦ grind (arith, g, last_from-apart (Some y) xs q, eqb_tells q y)
      | inr g ↦ grind (arith, g, next_in-names_with_last k q (y ∷ xs))
    ]

next_from-first_with : (c : ℕ) (b : Option ℕ) (k q x : ℕ) (xs : List ℕ) → eqb x c ≡ true → eqb k q ≡ false → (is_named b q ≡ true → is_among q (x ∷ xs) ≡ false)
    →
    next_in (names_with (Some c) (k ∷ []) (x ∷ xs)) q ≡ cond (is_named (previous_from b (x ∷ xs) c) q && is_among q (x ∷ xs)) (Some k) (next_in (x ∷ xs) q)
next_from-first_with c b k q x xs h g e = rw (h, g) (no_next b (Some k) (x ∷ xs) q e)

next_in-names_with_before : (c : ℕ) (b : Option ℕ) (k q : ℕ) (xs : List ℕ) → NoRepeats xs → is_among c xs ≡ true → eqb q k ≡ false
    → (is_named b q ≡ true → is_among q xs ≡ false) →
    next_in (names_with (Some c) (k ∷ []) xs) q ≡ cond (is_named (previous_from b xs c) q && is_among q xs) (Some k) (next_in xs q)
next_in-names_with_before c b k q [] u n d e = absurd (grind arith)
next_in-names_with_before c b k q (x ∷ []) u n d e = grind (arith, eqb_tells x c, eqb_tells x q, eqb_tells k q, eqb_tells q k)
next_in-names_with_before c b k q (x ∷ y ∷ xs) u n d e =
    elim (eqb_tells x c) [
      | inl h ↦ next_from-first_with c b k q x (y ∷ xs) h.0 (grind (arith, eqb_tells k q, eqb_tells q k)) e
      | inr h ↦ elim (eqb_tells x q) [
        | inl g ↦ grind (arith, h, g, previous_from-apart (Some y) xs c q, eqb_tells q y, eqb_tells q x)
        | inr g ↦ grind (arith, h, g, next_in-names_with_before c (Some x) k q (y ∷ xs), eqb_tells q x)
      ]
    ]

pub next_in-names_with : (before : Option ℕ) (k q : ℕ) (xs : List ℕ) → NoRepeats xs → is_place before xs ≡ true → eqb q k ≡ false →
    next_in (names_with before (k ∷ []) xs) q ≡ cond (is_named (place_behind before xs) q) (Some k) (next_in xs q)
next_in-names_with None k q xs u e d = next_in-names_with_last k q xs u d
next_in-names_with (Some c) k q xs u e d = grind (arith, next_in-names_with_before c None k q xs, previous_from-apart None xs c q)

previous_from-names_with : (before b : Option ℕ) (k q : ℕ) (xs : List ℕ) → is_place before xs ≡ true → eqb q k ≡ false →
    previous_from b (names_with before (k ∷ []) xs) q ≡ cond (is_named before q) (Some k) (previous_from b xs q)
previous_from-names_with None b k q [] e d = grind (arith, eqb_tells k q, eqb_tells q k)
previous_from-names_with None b k q (x ∷ xs) e d = grind (arith, previous_from-names_with None (Some x) k q xs)
previous_from-names_with (Some c) b k q [] e d = absurd (grind arith)
previous_from-names_with (Some c) b k q (x ∷ xs) e d =
    grind (arith, eqb_tells x c, eqb_tells x q, eqb_tells q c, eqb_tells k q, eqb_tells q k, previous_from-names_with (Some c) (Some x) k q xs)

pub previous_in-names_with : (before : Option ℕ) (k q : ℕ) (xs : List ℕ) → is_place before xs ≡ true → eqb q k ≡ false →
    previous_in (names_with before (k ∷ []) xs) q ≡ cond (is_named before q) (Some k) (previous_in xs q)
previous_in-names_with before k q xs e d = previous_from-names_with before None k q xs e d

-- beside k itself
pub next_in-names_with_self : (before : Option ℕ) (k : ℕ) (xs : List ℕ) → is_among k xs ≡ false → is_place before xs ≡ true →
    next_in (names_with before (k ∷ []) xs) k ≡ before
next_in-names_with_self None k [] n e = grind (arith, eqb_tells k k)
next_in-names_with_self None k (x ∷ xs) n e = grind (arith, next_in-names_with_self None k xs)
next_in-names_with_self (Some c) k [] n e = absurd (grind arith)
next_in-names_with_self (Some c) k (x ∷ xs) n e = grind (arith, eqb_tells x c, eqb_tells k k, next_in-names_with_self (Some c) k xs)

previous_from-names_with_last : (b : Option ℕ) (k : ℕ) (xs : List ℕ) → is_among k xs ≡ false →
    previous_from b (names_with None (k ∷ []) xs) k ≡ last_from b xs
previous_from-names_with_last b k [] n = grind (arith, eqb_tells k k)
previous_from-names_with_last b k (x ∷ xs) n = grind (arith, previous_from-names_with_last (Some x) k xs)

previous_from-names_with_before : (c : ℕ) (b : Option ℕ) (k : ℕ) (xs : List ℕ) → is_among k xs ≡ false → is_among c xs ≡ true →
    previous_from b (names_with (Some c) (k ∷ []) xs) k ≡ previous_from b xs c
previous_from-names_with_before c b k [] n e = absurd (grind arith)
previous_from-names_with_before c b k (x ∷ xs) n e = grind (arith, eqb_tells k k, previous_from-names_with_before c (Some x) k xs)

pub previous_in-names_with_self : (before : Option ℕ) (k : ℕ) (xs : List ℕ) → is_among k xs ≡ false → is_place before xs ≡ true →
    previous_in (names_with before (k ∷ []) xs) k ≡ place_behind before xs
previous_in-names_with_self None k xs n e = previous_from-names_with_last None k xs n
previous_in-names_with_self (Some c) k xs n e = previous_from-names_with_before c None k xs n e
