-- The children of a block, parted at one of them: what is read before that place and after it.
use Rattle.lx_caret_laws.proofs.InPlace.{place-behind, place-here}
use Rattle.lx_caret_laws.specs.Reading.{place_along, place_in, read_in, reads_in}
use Rattle.lx_edit_laws.proofs.Reading.{spread}
use Rattle.lx_edit_laws.proofs.WrapLists.{filter-gone}
use Rattle.lx_edit_laws.specs.Reading.{in_place_of}
use Rattle.lx_forest.specs.Forest.{Forest}
use Rattle.lx_forest.specs.Lookups.{is_within, keys_within}
use Rattle.lx_node.specs.declared.cause.Point.{Point}
use Rattle.lx_text.proofs.Places.{length-append, length-none}
use Rattle.lx_text.specs.Texts.{text_length}
use Rattle.lx_trees.specs.Siblings.{NoRepeats, index_in, is_among}
use Rattle.std.proofs.Common.{List, Some, [], ap, append-nil, append_assoc, arith, cond, eqb, false, inl, inr, not, refl, suc, sym, true, zero, ℕ, ◌++◌, ◌+◌, ◌∙◌, ◌∷◌, ◌≡◌, ◌≢◌}
use Rattle.std.proofs.lemmas.Bool.Decides.{eqb_tells}
use Rattle.std.proofs.lemmas.Bool.{cases_Bool}
use Rattle.std.specs.List.{filter}
use Rattle.std.specs.Prelude.{drop, take}

-- ---- parts of a list

pub among_drop : (i : ℕ) (xs : List ℕ) (q : ℕ) → is_among q (drop i xs) ≡ true → is_among q xs ≡ true
among_drop zero xs q e = e
among_drop (suc i) [] q e = e
among_drop (suc i) (x ∷ xs) q e = grind (arith, among_drop i xs q e)

pub among_take : (i : ℕ) (xs : List ℕ) (q : ℕ) → is_among q (take i xs) ≡ true → is_among q xs ≡ true
among_take zero xs q e = absurd (cc)
among_take (suc i) [] q e = e
among_take (suc i) (x ∷ xs) q e = elim (eqb_tells x q) [
  | inl own ↦ grind (arith, own)
  | inr other ↦ grind (arith, among_take i xs q (grind (arith, e, other.0)))
]

pub once_drop : (i : ℕ) (xs : List ℕ) → NoRepeats xs → NoRepeats (drop i xs)
once_drop zero xs once = once
once_drop (suc i) [] once = once
once_drop (suc i) (x ∷ xs) once = once_drop i xs once.1

-- those that don't go are those before
pub kept_take : (i : ℕ) (xs : List ℕ) → NoRepeats xs → filter (λ q. not (is_among q (drop i xs))) xs ≡ take i xs
kept_take zero xs once = filter-gone (λ q. not (is_among q xs)) xs (λ q among. ap not among)
kept_take (suc i) [] once = refl
kept_take (suc i) (x ∷ xs) once =
    let stays : is_among x (drop i xs) ≡ false = elim (cases_Bool (is_among x (drop i xs))) [
      | inl there ↦ absurd (grind (arith, once.0, among_drop i xs x there))
      | inr out ↦ out
    ] in
    ap (λ t. cond (not t) (x ∷ filter (λ q. not (is_among q (drop i xs))) xs) (filter (λ q. not (is_among q (drop i xs))) xs)) stays
    ∙ ap (λ ys. x ∷ ys) (kept_take i xs once.1)

-- one more of a list is read
pub read_more : (f : Forest) (k i : ℕ) (xs : List ℕ) → index_in xs k ≡ Some i → reads_in f (take (suc i) xs) ≡ reads_in f (take i xs) ++ read_in f k
read_more f k i [] at = absurd (grind (arith, at))
read_more f k zero (x ∷ xs) at =
    let own : x ≡ k = grind (arith, at, eqb_tells x k) in append-nil (read_in f x) ∙ ap (read_in f) own
read_more f k (suc i) (x ∷ xs) at =
    let later : index_in xs k ≡ Some i = grind (arith, at, eqb_tells x k) in
    ap (λ t. read_in f x ++ t) (read_more f k i xs later) ∙ sym (append_assoc (read_in f x) (reads_in f (take i xs)) (read_in f k))

-- ---- how much is read before a child

module _ (f g : Forest) (p : Point) (k at : ℕ) (rest : List ℕ) (on : p.key ≡ k) (own : is_within f k k ≡ true) (place : place_in f k p ≡ at) where
  pub read_ahead : (xs : List ℕ) (i : ℕ) → NoRepeats xs → is_among k xs ≡ true
      → ((x : ℕ) → is_among x xs ≡ true → x ≢ k → (read_in g x ≡ read_in f x) × (is_within f x k ≡ false))
      → index_in (in_place_of k (k ∷ rest) xs) k ≡ Some i
      → text_length (reads_in g (take i (in_place_of k (k ∷ rest) xs))) + at ≡ place_along f p (spread (keys_within f) xs)
  read_ahead [] i once there each e = absurd (cc)
  read_ahead (x ∷ xs) i once there each e = elim (eqb_tells x k) [
    | inl same ↦
        let first : is_within f x p.key ≡ true = ap (is_within f x) on ∙ ap (λ y. is_within f y k) same.1 ∙ own in
        let here : place_along f p (spread (keys_within f) (x ∷ xs)) ≡ at =
        place-here f p x (spread (keys_within f) xs) first ∙ ap (λ y. place_in f y p) same.1 ∙ place in
        let list : in_place_of k (k ∷ rest) (x ∷ xs) ≡ k ∷ (rest ++ xs) =
        ap (λ t. cond t ((k ∷ rest) ++ xs) (x ∷ in_place_of k (k ∷ rest) xs)) same.0 in
        let start : i ≡ 0 = first_index k i (rest ++ xs) (ap (λ ys. index_in ys k) (sym list) ∙ e) in
        let none : text_length (reads_in g (take i (in_place_of k (k ∷ rest) (x ∷ xs)))) ≡ 0 =
        ap (λ j. text_length (reads_in g (take j (in_place_of k (k ∷ rest) (x ∷ xs))))) start ∙ length-none in
        omega (arith, here, none)
    | inr other ↦
        let list : in_place_of k (k ∷ rest) (x ∷ xs) ≡ x ∷ in_place_of k (k ∷ rest) xs =
        ap (λ t. cond t ((k ∷ rest) ++ xs) (x ∷ in_place_of k (k ∷ rest) xs)) other.0 in
        let told = each x (grind (arith, eqb_tells x x)) other.1 in
        let far : is_within f x p.key ≡ false = ap (is_within f x) on ∙ told.1 in
        let later : is_among k xs ≡ true = grind (arith, there, other.0) in
        by_index x xs other.0 told.0 far list (read_ahead xs) once.1 later (λ y among ne. each y (grind (arith, among)) ne) i
        (ap (λ ys. index_in ys k) (sym list) ∙ e)
  ] where
    first_index : (k i : ℕ) (ys : List ℕ) → index_in (k ∷ ys) k ≡ Some i → i ≡ 0
    first_index k i ys e = grind (arith, e, eqb_tells k k)

    by_index : (x : ℕ) (xs : List ℕ) → eqb x k ≡ false → read_in g x ≡ read_in f x → is_within f x p.key ≡ false
        → in_place_of k (k ∷ rest) (x ∷ xs) ≡ x ∷ in_place_of k (k ∷ rest) xs
        → ((i : ℕ) → NoRepeats xs → is_among k xs ≡ true
        → ((y : ℕ) → is_among y xs ≡ true → y ≢ k → (read_in g y ≡ read_in f y) × (is_within f y k ≡ false))
        → index_in (in_place_of k (k ∷ rest) xs) k ≡ Some i
        → text_length (reads_in g (take i (in_place_of k (k ∷ rest) xs))) + at ≡ place_along f p (spread (keys_within f) xs))
        → NoRepeats xs → is_among k xs ≡ true
        → ((y : ℕ) → is_among y xs ≡ true → y ≢ k → (read_in g y ≡ read_in f y) × (is_within f y k ≡ false))
        → (i : ℕ) → index_in (x ∷ in_place_of k (k ∷ rest) xs) k ≡ Some i
        → text_length (reads_in g (take i (in_place_of k (k ∷ rest) (x ∷ xs)))) + at ≡ place_along f p (spread (keys_within f) (x ∷ xs))
    by_index x xs other same far list again once later each zero e = absurd (grind (arith, e, other))
    by_index x xs other same far list again once later each (suc i) e =
        let inner = again i once later each (grind (arith, e, other)) in
        let here = place-behind f p x (spread (keys_within f) xs) far in
        let read : text_length (reads_in g (take (suc i) (in_place_of k (k ∷ rest) (x ∷ xs))))
        ≡ text_length (read_in f x) + text_length (reads_in g (take i (in_place_of k (k ∷ rest) xs))) =
        ap (λ ys. text_length (reads_in g (take (suc i) ys))) list
        ∙ length-append (read_in g x) (reads_in g (take i (in_place_of k (k ∷ rest) xs)))
        ∙ ap (λ t. text_length t + text_length (reads_in g (take i (in_place_of k (k ∷ rest) xs)))) same in
        omega (arith, inner, here, read)
