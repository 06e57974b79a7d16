-- The slots of pages that come one after another: where a slot is, and what a write to one page does.
use Rattle.std.proofs.Common.{◌≡◌, ℕ, zero, suc, ◌<◌, ◌≤◌, ◌+◌, ◌-◌, ◌*◌, ◌/◌, ◌%◌, nat_lt, true, false, take, replicate, List, [], ◌∷◌, ◌++◌, length, get_or, set, Option, None, refl, sym, ap, ◌∙◌, arith}
use Rattle.std.proofs.lemmas.List.{get_or_past, get_or-take, get_or_append_left, get_or-append_right, get_or-replicate, length-append, length-take-le, length-replicate, length-set, replicate-append-replicate, set-get_or, get_or_read_under, set-append_left, set-append_right, take-append-le, take_all}
use Rattle.lx_store.specs.Pages.{fitted, joined, page_at}

zero-add : (i : ℕ) → 0 + i ≡ i
zero-add i = omega arith

module _ {X : Type 0} where
  long : (xs : List (Option X)) → length (xs ++ replicate 32 None) ≡ length xs + 32
  long xs = length-append xs (replicate 32 None) ∙ ap (λ n. length xs + n) (length-replicate {A = Option X} 32 None)

  pub length-fitted : (xs : List (Option X)) → length (fitted xs) ≡ 32
  length-fitted xs = length-take-le 32 (xs ++ replicate 32 None) (omega (arith, long xs))

  pub fitted_whole : (xs : List (Option X)) → length xs ≡ 32 → fitted xs ≡ xs
  fitted_whole xs size =
      take-append-le 32 xs (replicate 32 None) (omega (arith, size)) ∙ ap (λ n. take n xs) (sym size)
      ∙ take_all (length xs) xs (omega arith)

  -- past its slots a page has no items
  slot_padded : (xs : List (Option X)) (i : ℕ) → i < 32 → get_or (xs ++ replicate 32 None) i None ≡ get_or xs i None
  slot_padded [] i lt = get_or-replicate 32 i None None lt ∙ sym (get_or_past [] i None (omega arith))
  slot_padded (x ∷ xs) zero lt = refl
  slot_padded (x ∷ xs) (suc i) lt = slot_padded xs i (omega (arith, lt))

  pub slot_fitted : (xs : List (Option X)) (i : ℕ) → i < 32 → get_or (fitted xs) i None ≡ get_or xs i None
  slot_fitted xs i lt = get_or-take 32 (xs ++ replicate 32 None) i None lt ∙ slot_padded xs i lt

  -- a page of 32 slots that was written
  pub fitted_written : (xs : List (Option X)) (i : ℕ) (u : Option X) → length xs ≡ 32 → fitted (set xs i u) ≡ set (fitted xs) i u
  fitted_written xs i u size = fitted_whole (set xs i u) (length-set xs i u ∙ size) ∙ ap (λ ys. set ys i u) (sym (fitted_whole xs size))

  no_page : fitted {X = X} [] ≡ replicate 32 None
  no_page = take_all 32 (replicate 32 None) (omega (arith, length-replicate {A = Option X} 32 None))

  -- a new page with one item, where there was no page
  pub fitted_new : (i : ℕ) (u : Option X) → fitted (set (replicate 32 None) i u) ≡ set (fitted []) i u
  fitted_new i u =
      let size : length (replicate {A = Option X} 32 None) ≡ 32 = length-replicate {A = Option X} 32 None in
      fitted_written (replicate 32 None) i u size ∙ ap (λ xs. set xs i u) (fitted_whole (replicate 32 None) size ∙ sym no_page)

  -- a slot that is empty already
  pub fitted_none : (i : ℕ) → i < 32 → fitted {X = X} [] ≡ set (fitted []) i None
  fitted_none i lt = sym (ap (set (fitted []) i) (sym (slot_fitted [] i lt)) ∙ set-get_or (fitted []) i None)

  all_empty : (xs : List (Option X)) → ((i : ℕ) → get_or xs i None ≡ None) → xs ≡ replicate (length xs) None
  all_empty [] free = refl
  all_empty (x ∷ xs) free = ap (λ y. y ∷ xs) (free 0) ∙ ap (λ ys. None ∷ ys) (all_empty xs (λ i. free (suc i)))

  -- a page without items, and none
  pub fitted_free : (xs : List (Option X)) → ((i : ℕ) → get_or xs i None ≡ None) → length xs ≡ 32 → fitted [] ≡ fitted xs
  fitted_free xs free size = no_page ∙ sym (fitted_whole xs size ∙ all_empty xs free ∙ ap (λ n. replicate n None) size)

  pub length-joined : (ps : List (List (Option X))) → length (joined ps) ≡ length ps * 32
  length-joined [] = refl
  length-joined (p ∷ ps) =
      let rest : length (joined ps) ≡ length ps * 32 = length-joined ps in
      let first : length (fitted p) ≡ 32 = length-fitted p in
      length-append (fitted p) (joined ps) ∙ omega (arith, rest, first)

  pub chapter_size : (ps : List (List (Option X))) → length ps ≡ 32 → length (joined ps) ≡ 1024
  chapter_size ps size = length-joined ps ∙ ap (λ n. n * 32) size

  -- slot 32 n + i is slot i of page n
  pub slot_joined : (ps : List (List (Option X))) (n i : ℕ) → i < 32
      → get_or (joined ps) (n * 32 + i) None ≡ get_or (page_at ps n) i None
  slot_joined [] n i lt =
      get_or_past [] (n * 32 + i) None (omega arith)
      ∙ sym (ap (λ p. get_or p i None) (get_or_past [] n [] (omega arith)) ∙ get_or_past [] i None (omega arith))
  slot_joined (p ∷ ps) zero i lt =
      ap (λ s. get_or (fitted p ++ joined ps) s None) (zero-add i)
      ∙ get_or_append_left (fitted p) (joined ps) None i (omega (arith, lt, length-fitted p)) ∙ slot_fitted p i lt
  slot_joined (p ∷ ps) (suc n) i lt =
      let back : suc n * 32 + i - 32 ≡ n * 32 + i = omega arith in
      get_or-append_right (fitted p) (joined ps) 32 (suc n * 32 + i) None (length-fitted p) (omega arith)
      ∙ ap (λ s. get_or (joined ps) s None) back ∙ slot_joined ps n i lt

  -- a write to slot i of page n
  pub written_joined : (ps : List (List (Option X))) (n i : ℕ) (p : List (Option X)) (u : Option X) → n < length ps → i < 32
      → fitted p ≡ set (fitted (page_at ps n)) i u → joined (set ps n p) ≡ set (joined ps) (n * 32 + i) u
  written_joined [] n i p u fits lt new = absurd (omega (arith, fits))
  written_joined (q ∷ ps) zero i p u fits lt new =
      ap (λ xs. xs ++ joined ps) new ∙ sym (set-append_left (fitted q) (joined ps) i u (omega (arith, lt, length-fitted q)))
      ∙ ap (λ s. set (fitted q ++ joined ps) s u) (sym (zero-add i))
  written_joined (q ∷ ps) (suc n) i p u fits lt new =
      let back : suc n * 32 + i - 32 ≡ n * 32 + i = omega arith in
      ap (λ xs. fitted q ++ xs) (written_joined ps n i p u (omega (arith, fits)) lt new ∙ ap (λ s. set (joined ps) s u) (sym back))
      ∙ sym (set-append_right (fitted q) (joined ps) 32 (suc n * 32 + i) u (length-fitted q) (omega arith))

  pub joined_empty : (n : ℕ) → joined {X = X} (replicate n []) ≡ replicate (n * 32) None
  joined_empty zero = refl
  joined_empty (suc n) =
      let count : 32 + n * 32 ≡ suc n * 32 = omega arith in
      ap (λ xs. xs ++ joined {X = X} (replicate n [])) no_page ∙ ap (λ xs. replicate 32 None ++ xs) (joined_empty n)
      ∙ replicate-append-replicate 32 (n * 32) None ∙ ap (λ m. replicate m None) count

  -- pages of which none is there
  pub joined_free : (ps : List (List (Option X))) (m : ℕ) → length ps ≤ m → ((n : ℕ) → n < m → page_at ps n ≡ [])
      → (s : ℕ) → get_or (joined ps) s None ≡ None
  joined_free ps m all free s =
      let place : s / 32 * 32 + s % 32 ≡ s = omega arith in
      let none : page_at ps (s / 32) ≡ [] =
      elim (nat_lt (s / 32) m) as (λ b. nat_lt (s / 32) m ≡ b → page_at ps (s / 32) ≡ []) [
        | true ↦ λ e. free (s / 32) (grind (arith, e))
        | false ↦ λ e. get_or_past ps (s / 32) [] (grind (arith, e, all))
      ] refl in
      ap (λ j. get_or (joined ps) j None) (sym place) ∙ slot_joined ps (s / 32) (s % 32) (omega arith)
      ∙ ap (λ p. get_or p (s % 32) None) none ∙ get_or_past [] (s % 32) None (omega arith)

-- what a call does to a chapter whose slot s is in the page that it reads
module _ {X : Type 0} (ps : List (List (Option X))) (s : ℕ) (page : List (Option X))
    (size : length ps ≡ 32) (low : s < 1024) (read : page ≡ get_or ps (s / 32) page) where
  place : s / 32 * 32 + s % 32 ≡ s
  place = omega arith

  page_read : page ≡ page_at ps (s / 32)
  page_read = get_or_read_under ps (s / 32) 32 page [] read (omega (arith, low)) (sym size)

  pub slot_read : get_or page (s % 32) None ≡ get_or (joined ps) s None
  slot_read =
      ap (λ p. get_or p (s % 32) None) page_read ∙ sym (slot_joined ps (s / 32) (s % 32) (omega arith))
      ∙ ap (λ j. get_or (joined ps) j None) place

  pub slot_set : (new : List (Option X)) (u : Option X) → fitted new ≡ set (fitted page) (s % 32) u
      → joined (set ps (s / 32) new) ≡ set (joined ps) s u
  slot_set new u is =
      written_joined ps (s / 32) (s % 32) new u (omega (arith, low, size)) (omega arith)
      (is ∙ ap (λ p. set (fitted p) (s % 32) u) page_read)
      ∙ ap (λ j. set (joined ps) j u) place
