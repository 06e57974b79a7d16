-- Chapters in a vector that is sorted by their numbers: what is at a place, and what an edit at a place does.
use Rattle.std.proofs.Common.{◌≡◌, ℕ, zero, suc, ◌/◌, ◌%◌, replicate, ◌<◌, ◌≤◌, true, false, cond, List, [], ◌∷◌, length, get_or, set, Option, Some, None, option_map, Result, Ok, Err, IfOk, IfErr, refl, sym, ap, ◌∙◌, subst, arith}
use Rattle.std.specs.declared.cmp.Ordering.TheVariants.{Less}
use Rattle.std.specs.Ordering.{nat_cmp, ordering_index}
use Rattle.std.specs.BTreeMap.{is_at}
use Rattle.std.specs.Map.{keys_of}
use Rattle.std.specs.List.{AllByRecursion, insert, remove}
use Rattle.std.specs.List.Sorted.{IsStrictlySortedBy, IsSearchInRange, IsBinarySearchResult, IsNonDecreasingBy}
use Rattle.std.proofs.lemmas.Map.Keys.{sorted_head, sorted_tail}
use Rattle.std.proofs.lemmas.Cmp.{ranked}
use Rattle.std.proofs.lemmas.List.{set-get_or}
use Rattle.std.proofs.lemmas.List.Sorted.{IsNonDecreasingBy-from_default}
use Rattle.std.proofs.lemmas.Bool.Decides.{nat_tests}
use Rattle.lx_store.specs.Edits.{with_item, with_edit}
use Rattle.lx_store.specs.Pages.{slot_at, written}
use Rattle.lx_store.specs.Tables.{number_at, StandsAt, GoesAt, IsTable}
use Rattle.std.specs.declared.rc.Rc.{Rc}
use Rattle.std.specs.FinMap.{get, insert as with_key, remove as without_key}
use Rattle.lx_store.proofs.Held.{at}
use Rattle.lx_store.proofs.Chapters.{mapped, get_chapter, get_none, put_mapped, take_mapped, kept_mapped, give_up_mapped, add_mapped, table_alike, same_key, other_key, is_key, no_key, less_is, is_less, not_after}

turned : (n m : ℕ) → is_at (nat_cmp m) n ≡ is_at (nat_cmp n) m
turned n m = elim (is_at (nat_cmp n) m) as (λ b. is_at (nat_cmp n) m ≡ b → is_at (nat_cmp m) n ≡ b) [
  | true ↦ λ e. same_key m n (sym (is_key n m e))
  | false ↦ λ e. other_key m n (λ f. no_key n m e (sym f))
] refl

module _ {P : Type 0} where
  pub all_at : (Q : ℕ → Type 0) (es : List (ℕ × P)) (i : ℕ) (d : ℕ × P) → AllByRecursion Q (keys_of es) → i < length es → Q (number_at es i d)
  all_at Q [] i d h lt = absurd (omega (arith, lt))
  all_at Q (e ∷ es) zero d h lt = h.0
  all_at Q (e ∷ es) (suc i) d h lt = all_at Q es i d h.1 (omega (arith, lt))

  pub later : (e : ℕ × P) (es : List (ℕ × P)) (i : ℕ) (d : ℕ × P) → IsStrictlySortedBy nat_cmp (keys_of (e ∷ es)) → i < length es → e.0 < number_at es i d
  later e es i d sorted lt = less_is e.0 (number_at es i d) (all_at (λ y. nat_cmp e.0 y ≡ Less) es i d (sorted_head nat_cmp e.0 (keys_of es) sorted) lt)

  pub rises : (es : List (ℕ × P)) (i j : ℕ) (d : ℕ × P) → IsStrictlySortedBy nat_cmp (keys_of es) → i < j → j < length es → number_at es i d < number_at es j d
  rises [] i j d sorted lt fits = absurd (omega (arith, fits))
  rises (e ∷ es) i zero d sorted lt fits = absurd (omega (arith, lt))
  rises (e ∷ es) zero (suc j) d sorted lt fits = later e es j d sorted (omega (arith, fits))
  rises (e ∷ es) (suc i) (suc j) d sorted lt fits = rises es i j d (sorted_tail nat_cmp e.0 (keys_of es) sorted) (omega (arith, lt)) (omega (arith, fits))

  -- the chapter at a place is the one under its number
  pub found_at : (es : List (ℕ × P)) (i : ℕ) (d : ℕ × P) → IsStrictlySortedBy nat_cmp (keys_of es) → i < length es
      → at es (number_at es i d) ≡ Some (get_or es i d).1
  found_at [] i d sorted lt = absurd (omega (arith, lt))
  found_at (e ∷ es) zero d sorted lt = rw (same_key e.0 e.0 refl) refl
  found_at (e ∷ es) (suc i) d sorted lt =
      let less : e.0 < number_at es i d = later e es i d sorted (omega (arith, lt)) in
      rw (other_key (number_at es i d) e.0 (λ f. omega (arith, less, f))) (found_at es i d (sorted_tail nat_cmp e.0 (keys_of es) sorted) (omega (arith, lt)))

  -- a number that no place has
  pub absent_at : (es : List (ℕ × P)) (n : ℕ) (d : ℕ × P) → ((i : ℕ) → i < length es → number_at es i d ≡ n → ⊥) → at es n ≡ None
  absent_at [] n d h = refl
  absent_at (e ∷ es) n d h = rw (other_key n e.0 (λ f. h 0 (omega arith) (sym f))) (absent_at es n d (λ i lt. h (suc i) (omega (arith, lt))))

  -- two tests, of which one at most holds
  swapped : (n m k : ℕ) (v : P) (w o : Option P) → (n ≡ k → ⊥)
      → cond (is_at (nat_cmp m) k) (Some v) (cond (is_at (nat_cmp n) m) w o) ≡ cond (is_at (nat_cmp n) m) w (cond (is_at (nat_cmp m) k) (Some v) o)
  swapped n m k v w o apart =
      elim (is_at (nat_cmp m) k) as
      (λ b. is_at (nat_cmp m) k ≡ b → cond b (Some v) (cond (is_at (nat_cmp n) m) w o) ≡ cond (is_at (nat_cmp n) m) w (cond b (Some v) o)) [
        | true ↦ λ e. let one : m ≡ k = is_key m k e in rw (other_key n m (λ f. apart (f ∙ one))) refl
        | false ↦ λ e. refl
      ] refl

  covers : (n m : ℕ) (v w : P) (o : Option P)
      → cond (is_at (nat_cmp m) n) (Some w) o ≡ cond (is_at (nat_cmp n) m) (Some w) (cond (is_at (nat_cmp m) n) (Some v) o)
  covers n m v w o =
      rw (turned n m) (elim (is_at (nat_cmp n) m) as (λ b. cond b (Some w) o ≡ cond b (Some w) (cond b (Some v) o)) [ true ↦ refl | false ↦ refl ])

  -- a chapter that is changed at its place
  pub set_at : (es : List (ℕ × P)) (i n : ℕ) (d : ℕ × P) (w : P) → IsStrictlySortedBy nat_cmp (keys_of es) → i < length es → number_at es i d ≡ n → (m : ℕ)
      → at (set es i (n, w)) m ≡ cond (is_at (nat_cmp n) m) (Some w) (at es m)
  set_at [] i n d w sorted lt is m = absurd (omega (arith, lt))
  set_at (e ∷ es) zero n d w sorted lt is m =
      subst (λ k. cond (is_at (nat_cmp m) n) (Some w) (at es m) ≡ cond (is_at (nat_cmp n) m) (Some w) (cond (is_at (nat_cmp m) k) (Some e.1) (at es m)))
      (sym is) (covers n m e.1 w (at es m))
  set_at (e ∷ es) (suc i) n d w sorted lt is m =
      let less : e.0 < number_at es i d = later e es i d sorted (omega (arith, lt)) in
      ap (cond (is_at (nat_cmp m) e.0) (Some e.1)) (set_at es i n d w (sorted_tail nat_cmp e.0 (keys_of es) sorted) (omega (arith, lt)) is m)
      ∙ swapped n m e.0 e.1 (Some w) (at es m) (λ f. omega (arith, less, f, is))

  pub set_keys : (es : List (ℕ × P)) (i n : ℕ) (d : ℕ × P) (w : P) → i < length es → number_at es i d ≡ n → keys_of (set es i (n, w)) ≡ keys_of es
  set_keys [] i n d w lt is = absurd (omega (arith, lt))
  set_keys (e ∷ es) zero n d w lt is = ap (λ k. k ∷ keys_of es) (sym is)
  set_keys (e ∷ es) (suc i) n d w lt is = ap (λ ks. e.0 ∷ ks) (set_keys es i n d w (omega (arith, lt)) is)

  -- a chapter that comes to its place
  pub insert_at : (es : List (ℕ × P)) (i n : ℕ) (d : ℕ × P) (w : P) → i ≤ length es → ((j : ℕ) → j < i → number_at es j d < n) → (m : ℕ)
      → at (insert es i (n, w)) m ≡ cond (is_at (nat_cmp n) m) (Some w) (at es m)
  insert_at es zero n d w fits below m = ap (λ b. cond b (Some w) (at es m)) (turned n m)
  insert_at [] (suc i) n d w fits below m = absurd (omega (arith, fits))
  insert_at (e ∷ es) (suc i) n d w fits below m =
      let less : e.0 < n = below 0 (omega arith) in
      ap (cond (is_at (nat_cmp m) e.0) (Some e.1)) (insert_at es i n d w (omega (arith, fits)) (λ j lt. below (suc j) (omega (arith, lt))) m)
      ∙ swapped n m e.0 e.1 (Some w) (at es m) (λ f. omega (arith, less, f))

  all_inserted : (Q : ℕ → Type 0) (es : List (ℕ × P)) (i n : ℕ) (w : P) → AllByRecursion Q (keys_of es) → Q n → AllByRecursion Q (keys_of (insert es i (n, w)))
  all_inserted Q es zero n w all one = (one, all)
  all_inserted Q [] (suc i) n w all one = (one, tt)
  all_inserted Q (e ∷ es) (suc i) n w all one = (all.0, all_inserted Q es i n w all.1 one)

  all_removed : (Q : ℕ → Type 0) (es : List (ℕ × P)) (i : ℕ) → AllByRecursion Q (keys_of es) → AllByRecursion Q (keys_of (remove es i))
  all_removed Q [] zero all = tt
  all_removed Q [] (suc i) all = tt
  all_removed Q (e ∷ es) zero all = all.1
  all_removed Q (e ∷ es) (suc i) all = (all.0, all_removed Q es i all.1)

  all_above : (n : ℕ) (es : List (ℕ × P)) (d : ℕ × P) → ((j : ℕ) → j < length es → n < number_at es j d) → AllByRecursion (λ y. nat_cmp n y ≡ Less) (keys_of es)
  all_above n [] d h = tt
  all_above n (e ∷ es) d h = (is_less n e.0 (h 0 (omega arith)), all_above n es d (λ j lt. h (suc j) (omega (arith, lt))))

  pub insert_sorted : (es : List (ℕ × P)) (i n : ℕ) (d : ℕ × P) (w : P) → IsStrictlySortedBy nat_cmp (keys_of es) → i ≤ length es
      → ((j : ℕ) → j < i → number_at es j d < n) → ((j : ℕ) → i ≤ j → j < length es → n < number_at es j d)
      → IsStrictlySortedBy nat_cmp (keys_of (insert es i (n, w)))
  unfolding IsStrictlySortedBy
  insert_sorted es zero n d w sorted fits below above = (all_above n es d (λ j lt. above j (omega arith) lt), sorted)
  insert_sorted [] (suc i) n d w sorted fits below above = absurd (omega (arith, fits))
  insert_sorted (e ∷ es) (suc i) n d w sorted fits below above = (
    all_inserted (λ y. nat_cmp e.0 y ≡ Less) es i n w sorted.0 (is_less e.0 n (below 0 (omega arith))),
    insert_sorted es i n d w sorted.1 (omega (arith, fits)) (λ j lt. below (suc j) (omega (arith, lt))) (λ j le lt. above (suc j) (omega (arith, le))
        (omega (arith, lt))),
  )

  -- a chapter that goes from its place
  pub remove_at : (es : List (ℕ × P)) (i n : ℕ) (d : ℕ × P) → IsStrictlySortedBy nat_cmp (keys_of es) → i < length es → number_at es i d ≡ n → (m : ℕ)
      → at (remove es i) m ≡ cond (is_at (nat_cmp n) m) None (at es m)
  remove_at [] i n d sorted lt is m = absurd (omega (arith, lt))
  remove_at (e ∷ es) zero n d sorted lt is m =
      elim (is_at (nat_cmp n) m) as (λ b. is_at (nat_cmp n) m ≡ b → at es m ≡ cond b None (cond (is_at (nat_cmp m) e.0) (Some e.1) (at es m))) [
        | true ↦ λ f. let one : e.0 ≡ m = is ∙ is_key n m f in subst (λ k. at es k ≡ None) one (not_after e.0 es (sorted_head nat_cmp e.0 (keys_of es) sorted))
        | false ↦ λ f. let two : n ≡ m → ⊥ = no_key n m f in rw (other_key m e.0 (λ g. two (sym (g ∙ is)))) refl
      ] refl
  remove_at (e ∷ es) (suc i) n d sorted lt is m =
      let less : e.0 < number_at es i d = later e es i d sorted (omega (arith, lt)) in
      ap (cond (is_at (nat_cmp m) e.0) (Some e.1)) (remove_at es i n d (sorted_tail nat_cmp e.0 (keys_of es) sorted) (omega (arith, lt)) is m)
      ∙ swapped n m e.0 e.1 None (at es m) (λ f. omega (arith, less, f, is))

  pub remove_sorted : (es : List (ℕ × P)) (i : ℕ) → IsStrictlySortedBy nat_cmp (keys_of es) → IsStrictlySortedBy nat_cmp (keys_of (remove es i))
  unfolding IsStrictlySortedBy
  remove_sorted [] zero sorted = tt
  remove_sorted [] (suc i) sorted = tt
  remove_sorted (e ∷ es) zero sorted = sorted.1
  remove_sorted (e ∷ es) (suc i) sorted = (all_removed (λ y. nat_cmp e.0 y ≡ Less) es i sorted.0, remove_sorted es i sorted.1)

module _ {P : Type 0} (es : List (ℕ × P)) (sorted : IsStrictlySortedBy nat_cmp (keys_of es)) (n : ℕ) where
  -- the comparisons with a number rise along the chapters
  comparisons_rise : ℕ × P → IsNonDecreasingBy (λ chapter. ordering_index (nat_cmp chapter.0 n)) es
  comparisons_rise d = IsNonDecreasingBy-from_default (λ chapter. ordering_index (nat_cmp chapter.0 n)) es d (λ i j le lt.
      let keys_rise : number_at es i d ≤ number_at es j d = grind (arith, rises es i j d sorted, λ (same : i ≡ j). ap (λ i. number_at es i d) same) in
      grind (arith, nat_tests))

  -- a binary search ends at the chapter, or where it would go
  pub searched : (r : Result ℕ ℕ) → IsSearchInRange r (length es) → IsBinarySearchResult (λ chapter. nat_cmp chapter.0 n) es r
      → IfOk r (λ place. StandsAt es n place) × IfErr r (λ place. GoesAt es n place)
  searched (Ok place) fits equal = (record { fits = fits; same = λ d. ranked _ n _ (sym (equal d)) }, tt)
  searched (Err place) fits parted = (
    tt,
    record {
      fits = fits;
      below = λ d i lt. ranked _ n _ (sym ((parted (comparisons_rise d)).0 i d (omega arith) lt));
      above = λ d i le lt. ranked _ n _ (sym ((parted (comparisons_rise d)).1 i d le lt));
    },
  )

module _ {X Z : Type 0} where
  goes_absent : (es : List (ℕ × Rc (List (Option X)) Z)) (n place : ℕ) → GoesAt es n place → at es n ≡ None
  goes_absent [] n place goes = refl
  goes_absent (e ∷ es) n place goes = absent_at (e ∷ es) n e (λ i lt same. grind (arith, goes.below e i, goes.above e i, lt, same))

  module _ (es : List (ℕ × Rc (List (Option X)) Z)) (n place : ℕ) (e : ℕ × Rc (List (Option X)) Z) (table : IsTable es) (stands : StandsAt es n place)
      (read : e ≡ get_or es place e) where
    own : number_at es place e ≡ e.0
    own = ap (λ x. x.0) (sym read)

    number_is : e.0 ≡ n
    number_is = sym own ∙ stands.same e

    pub stands_found : at es n ≡ Some e.1
    stands_found = ap (at es) (sym (stands.same e)) ∙ found_at es place e table.0 stands.fits ∙ ap (λ x. Some x.1) (sym read)

    pub read_stands : (q i : ℕ) (slots : List (Option X)) → n ≡ q / 1024 → i ≡ q % 1024 → slots ≡ e.1.value → get (mapped es) q ≡ slot_at slots i
    read_stands q i slots number slot value = get_chapter es q n i e.1 slots table.0 number slot stands_found value

    -- the chapters with another at the place
    pub table_set : (w : Rc (List (Option X)) Z) → IsTable (set es place (e.0, w))
    table_set w = table_alike es (set es place (e.0, w)) table (set_keys es place e.0 e w stands.fits own)

    after_set : (w : Rc (List (Option X)) Z) (m : ℕ) → at (set es place (e.0, w)) m ≡ cond (is_at (nat_cmp n) m) (Some w) (at es m)
    after_set w m = set_at es place e.0 e w table.0 stands.fits own m ∙ ap (λ k. cond (is_at (nat_cmp k) m) (Some w) (at es m)) number_is

    pub put_stands : (k i : ℕ) (w : Rc (List (Option X)) Z) (v : X) → n ≡ k / 1024 → i ≡ k % 1024 → w.value ≡ written e.1.value i (Some v)
        → length e.1.value ≡ 1024 → mapped (set es place (e.0, w)) ≡ with_key (mapped es) k v
    put_stands k i w v number slot new size =
        put_mapped es (set es place (e.0, w)) k n i e.1 w v table.0 (table_set w).0 number slot stands_found (after_set w) new size

    pub take_stands : (k i : ℕ) (w : Rc (List (Option X)) Z) → n ≡ k / 1024 → i ≡ k % 1024 → w.value ≡ written e.1.value i None → length e.1.value ≡ 1024
        → mapped (set es place (e.0, w)) ≡ without_key (mapped es) k
    take_stands k i w number slot new size =
        take_mapped es (set es place (e.0, w)) k n i e.1 w table.0 (table_set w).0 number slot stands_found (after_set w) new size

    pub kept_stands : (w : Rc (List (Option X)) Z) → w.value ≡ e.1.value → mapped (set es place (e.0, w)) ≡ mapped es
    kept_stands w same = kept_mapped es (set es place (e.0, w)) n e.1 w table.0 (table_set w).0 stands_found (after_set w) same

    pub edit_stands : (k i : ℕ) (w : Rc (List (Option X)) Z) (edited : X → X) → n ≡ k / 1024 → i ≡ k % 1024
        → w.value ≡ written e.1.value i (option_map edited (slot_at e.1.value i)) → length e.1.value ≡ 1024
        → mapped (set es place (e.0, w)) ≡ with_edit edited k (mapped es)
    edit_stands k i w edited number slot new size =
        (elim (slot_at e.1.value i) as (λ o. slot_at e.1.value i ≡ o → mapped (set es place (e.0, w)) ≡ with_item (mapped es) k (option_map edited o)) [
          | None ↦
              λ none. kept_stands w
              (new ∙ ap (λ o. written e.1.value i (option_map edited o)) none ∙ ap (written e.1.value i) (sym none) ∙ set-get_or e.1.value i None)
          | Some item ↦ λ some. put_stands k i w (edited item) number slot (new ∙ ap (λ o. written e.1.value i (option_map edited o)) some) size
        ] refl)
        ∙ ap (λ o. with_item (mapped es) k (option_map edited o)) (sym (read_stands k i e.1.value number slot refl))

    -- the chapters without the one at the place
    pub table_remove : IsTable (remove es place)
    table_remove = (remove_sorted es place table.0, all_removed (λ n. n < 4194304) es place table.1)

    pub give_up_stands : ((j : ℕ) → slot_at e.1.value j ≡ None) → mapped (remove es place) ≡ mapped es
    give_up_stands free =
        give_up_mapped es (remove es place) n e.1 table.0 (remove_sorted es place table.0) stands_found
        (remove_at es place n e table.0 stands.fits (stands.same e)) free

  module _ (es : List (ℕ × Rc (List (Option X)) Z)) (n place : ℕ) (table : IsTable es) (goes : GoesAt es n place) where
    pub read_goes : (q : ℕ) → n ≡ q / 1024 → get (mapped es) q ≡ None
    read_goes q number = get_none es q n table.0 number (goes_absent es n place goes)

    -- the chapters with a new one
    pub table_insert : (w : Rc (List (Option X)) Z) → n < 4194304 → IsTable (insert es place (n, w))
    table_insert w low =
        (insert_sorted es place n (n, w) w table.0 goes.fits (goes.below (n, w)) (goes.above (n, w)), all_inserted (λ n. n < 4194304) es place n w table.1 low)

    pub add_goes : (k i : ℕ) (w : Rc (List (Option X)) Z) (v : X) → n < 4194304 → n ≡ k / 1024 → i ≡ k % 1024
        → w.value ≡ written (replicate 1024 None) i (Some v) → mapped (insert es place (n, w)) ≡ with_key (mapped es) k v
    add_goes k i w v low number slot new =
        add_mapped es (insert es place (n, w)) k n i w v table.0 (table_insert w low).0 number slot (goes_absent es n place goes)
        (insert_at es place n (n, w) w goes.fits (goes.below (n, w))) new

pub no_chapters : {P : Type 0} (es : List (ℕ × P)) → es ≡ [] → IsTable es
unfolding IsStrictlySortedBy
no_chapters es none = subst IsTable (sym none) (tt, tt)
