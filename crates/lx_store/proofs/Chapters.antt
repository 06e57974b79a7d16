-- Items in chapters: where a key's item is, and the order of the keys.
use Rattle.std.proofs.Common.{◌≡◌, ℕ, zero, suc, ◌<◌, ◌≤◌, ◌+◌, ◌*◌, ◌/◌, ◌%◌, true, false, cond, nat_lt, take, min, Result, Ok, Err, OnErr, append_assoc, add-one, add-zero, replicate, List, [], ◌∷◌, ◌++◌, length, Option, Some, None, refl, sym, ap, ◌∙◌, subst, arith}
use Rattle.std.specs.declared.rc.Rc.{Rc}
use Rattle.std.specs.declared.cmp.Ordering.TheVariants.{Less}
use Rattle.std.specs.Ordering.{nat_cmp, eq_by_cmp}
use Rattle.std.specs.Cmp.{nat_cmp_total, unsigned_tied}
use Rattle.std.specs.BTreeMap.{is_at}
use Rattle.std.specs.Map.{keys_of}
use Rattle.std.specs.List.{AllByRecursion, AllZip}
use Rattle.std.specs.List.Sorted.{IsStrictlySortedBy}
use Rattle.std.specs.FinMap.{FinMap, from_entries, keys, get, get-remove, insert, remove, same_map, nat_cmp-IsAntisymmetric}
use Rattle.std.proofs.lemmas.Map.Keys.{sorted_head, sorted_tail}
use Rattle.std.proofs.lemmas.List.{get_or_past, get_or-take, length-take, get_or-set_same, get_or-set_other, get_or-replicate, length-replicate}
use Rattle.lx_store.specs.Pages.{slot_at, written}
use Rattle.lx_store.specs.Tables.{keyed, slots_of, items_of, IsTable}
use Rattle.lx_store.proofs.Held.{at, get-from_held, keys-from_held, put_from_held, take_from_held}

pub same_key : (k q : ℕ) → k ≡ q → is_at (nat_cmp k) q ≡ true
same_key k q e = grind (arith, e, unsigned_tied k q)

pub other_key : (k q : ℕ) → (k ≡ q → ⊥) → is_at (nat_cmp k) q ≡ false
other_key k q h = grind (arith, h, unsigned_tied k q)

pub is_key : (k q : ℕ) → is_at (nat_cmp k) q ≡ true → k ≡ q
is_key k q h = grind (arith, h, unsigned_tied k q)

pub no_key : (k q : ℕ) → is_at (nat_cmp k) q ≡ false → k ≡ q → ⊥
no_key k q h e = grind (arith, h, e, unsigned_tied k q)

pub less_is : (x y : ℕ) → nat_cmp x y ≡ Less → x < y
less_is x y h = grind (arith, h)

pub is_less : (x y : ℕ) → x < y → nat_cmp x y ≡ Less
is_less x y h = grind (arith, h)

pub all_weaker : {A : Type 0} (P Q : A → Type 0) (xs : List A) → ((x : A) → P x → Q x) → AllByRecursion P xs → AllByRecursion Q xs
all_weaker P Q [] f h = tt
all_weaker P Q (x ∷ xs) f h = (f x h.0, all_weaker P Q xs f h.1)

chapter_above : (n q size : ℕ) → size ≤ 1024 → (q / 1024 ≡ n → ⊥) → n * 1024 ≤ q → n * 1024 + size ≤ q
chapter_above n q size fits other from = elim (nat_lt q (n * 1024 + size)) as (λ b. nat_lt q (n * 1024 + size) ≡ b → n * 1024 + size ≤ q) [
  | true ↦ λ e. let below : q < n * 1024 + size = grind (arith, e) in absurd (other (omega (arith, fits, from, below)))
  | false ↦ λ e. grind (arith, e)
] refl

pub not_after : {P : Type 0} (n : ℕ) (ps : List (ℕ × P)) → AllByRecursion (λ y. nat_cmp n y ≡ Less) (keys_of ps) → at ps n ≡ None
not_after n [] h = refl
not_after n (p ∷ ps) h = let first : nat_cmp n p.0 ≡ Less = h.0 in rw first (not_after n ps h.1)

module _ {X : Type 0} where
  at_first : (es fs : List (ℕ × X)) (q : ℕ) → at fs q ≡ None → at (es ++ fs) q ≡ at es q
  at_first [] fs q h = h
  at_first (e ∷ es) fs q h = ap (cond (is_at (nat_cmp q) e.0) (Some e.1)) (at_first es fs q h)

  at_behind : (es fs : List (ℕ × X)) (q : ℕ) → at es q ≡ None → at (es ++ fs) q ≡ at fs q
  at_behind [] fs q h = refl
  at_behind (e ∷ es) fs q h =
      elim (is_at (nat_cmp q) e.0) as (λ b. cond b (Some e.1) (at es q) ≡ None → cond b (Some e.1) (at (es ++ fs) q) ≡ at fs q)
      [ true ↦ λ none. absurd (grind (arith, none)) | false ↦ λ none. at_behind es fs q none ] h

  keyed_below : (b q : ℕ) (xs : List (Option X)) → q < b → at (keyed b xs) q ≡ None
  keyed_below b q [] h = refl
  keyed_below b q (None ∷ xs) h = keyed_below (b + 1) q xs (omega (arith, h))
  keyed_below b q (Some x ∷ xs) h = rw (other_key q b (λ e. omega (arith, h, e))) (keyed_below (b + 1) q xs (omega (arith, h)))

  keyed_above : (b q : ℕ) (xs : List (Option X)) → b + length xs ≤ q → at (keyed b xs) q ≡ None
  keyed_above b q [] h = refl
  keyed_above b q (None ∷ xs) h = keyed_above (b + 1) q xs (omega (arith, h))
  keyed_above b q (Some x ∷ xs) h = rw (other_key q b (λ e. omega (arith, h, e))) (keyed_above (b + 1) q xs (omega (arith, h)))

  keyed_hit : (b q i : ℕ) (xs : List (Option X)) → q ≡ b + i → at (keyed b xs) q ≡ slot_at xs i
  keyed_hit b q i [] e = sym (get_or_past [] i None (omega arith))
  keyed_hit b q zero (None ∷ xs) e = keyed_below (b + 1) q xs (omega (arith, e))
  keyed_hit b q zero (Some x ∷ xs) e = rw (same_key q b (omega (arith, e))) refl
  keyed_hit b q (suc i) (None ∷ xs) e = keyed_hit (b + 1) q i xs (omega (arith, e))
  keyed_hit b q (suc i) (Some x ∷ xs) e = rw (other_key q b (λ f. omega (arith, e, f))) (keyed_hit (b + 1) q i xs (omega (arith, e)))

  keyed_other : (n q : ℕ) (xs : List (Option X)) → length xs ≤ 1024 → (q / 1024 ≡ n → ⊥) → at (keyed (n * 1024) xs) q ≡ None
  keyed_other n q xs fits other = elim (nat_lt q (n * 1024)) as (λ b. nat_lt q (n * 1024) ≡ b → at (keyed (n * 1024) xs) q ≡ None) [
    | true ↦ λ e. keyed_below (n * 1024) q xs (grind (arith, e))
    | false ↦ λ e. keyed_above (n * 1024) q xs (chapter_above n q (length xs) fits other (grind (arith, e)))
  ] refl

  sorted_keyed : (b : ℕ) (xs : List (Option X)) (rest : List (ℕ × X)) → AllByRecursion (λ y. b + length xs ≤ y) (keys_of rest)
      → IsStrictlySortedBy nat_cmp (keys_of rest)
      → IsStrictlySortedBy nat_cmp (keys_of (keyed b xs ++ rest)) × AllByRecursion (λ y. b ≤ y) (keys_of (keyed b xs ++ rest))
  unfolding IsStrictlySortedBy
  sorted_keyed b [] rest above sorted = (sorted, all_weaker _ _ (keys_of rest) (λ y h. omega (arith, h)) above)
  sorted_keyed b (None ∷ xs) rest above sorted =
      let more = sorted_keyed (b + 1) xs rest (all_weaker _ _ (keys_of rest) (λ y h. omega (arith, h)) above) sorted in
      (more.0, all_weaker _ _ (keys_of (keyed (b + 1) xs ++ rest)) (λ y h. omega (arith, h)) more.1)
  sorted_keyed b (Some x ∷ xs) rest above sorted =
      let more = sorted_keyed (b + 1) xs rest (all_weaker _ _ (keys_of rest) (λ y h. omega (arith, h)) above) sorted in
      ((all_weaker _ _ (keys_of (keyed (b + 1) xs ++ rest)) (λ y h. is_less b y (omega (arith, h))) more.1, more.0), (omega arith, all_weaker _ _ (keys_of (keyed (b + 1) xs ++ rest)) (λ y h. omega (arith, h)) more.1))

-- the item in a slot of a chapter that may be there
abbrev pub chapter_item : {X P : Type 0} → (P → List (Option X)) → Option P → ℕ → Option X
chapter_item slots None i = None
chapter_item slots (Some p) i = slot_at (slots p) i

-- two keys of one chapter are alike where their slots are
same_place : (k q n i : ℕ) → n ≡ k / 1024 → i ≡ k % 1024 → n ≡ q / 1024 → is_at (nat_cmp i) (q % 1024) ≡ is_at (nat_cmp k) q
same_place k q n i number slot same = elim (is_at (nat_cmp k) q) as (λ b. is_at (nat_cmp k) q ≡ b → is_at (nat_cmp i) (q % 1024) ≡ b) [
  | true ↦ λ e. let one : k ≡ q = is_key k q e in same_key i (q % 1024) (slot ∙ ap (λ x. x % 1024) one)
  | false ↦ λ e. let two : k ≡ q → ⊥ = no_key k q e in other_key i (q % 1024) (λ f. two (omega (arith, number, slot, same, f)))
] refl

slot_written : {X : Type 0} (xs : List (Option X)) (i : ℕ) (u : Option X) (j : ℕ) → i < length xs
    → slot_at (written xs i u) j ≡ cond (is_at (nat_cmp i) j) u (slot_at xs j)
slot_written xs i u j h = elim (is_at (nat_cmp i) j) as (λ b. is_at (nat_cmp i) j ≡ b → slot_at (written xs i u) j ≡ cond b u (slot_at xs j)) [
  | true ↦ λ e. ap (slot_at (written xs i u)) (sym (is_key i j e)) ∙ get_or-set_same xs i u None h
  | false ↦ λ e. get_or-set_other xs i j u None (λ f. no_key i j e (sym f))
] refl

module _ {X P : Type 0} (slots : P → List (Option X)) (short : (p : P) → length (slots p) ≤ 1024) where
  pub items_at : (ps : List (ℕ × P)) (q : ℕ) → IsStrictlySortedBy nat_cmp (keys_of ps)
      → at (items_of slots ps) q ≡ chapter_item slots (at ps (q / 1024)) (q % 1024)
  items_at [] q h = refl
  items_at (p ∷ ps) q h =
      let rest : at (items_of slots ps) q ≡ chapter_item slots (at ps (q / 1024)) (q % 1024) = items_at ps q (sorted_tail nat_cmp p.0 (keys_of ps) h) in
      let fits : length (slots p.1) ≤ 1024 = short p.1 in
      elim (is_at (nat_cmp (q / 1024)) p.0) as
      (λ b. is_at (nat_cmp (q / 1024)) p.0 ≡ b
      → at (keyed (p.0 * 1024) (slots p.1) ++ items_of slots ps) q ≡ chapter_item slots (cond b (Some p.1) (at ps (q / 1024))) (q % 1024)) [
        | true ↦ λ e. let same : q / 1024 ≡ p.0 = is_key (q / 1024) p.0 e in
            let none : at ps (q / 1024) ≡ None = subst (λ n. at ps n ≡ None) (sym same) (not_after p.0 ps (sorted_head nat_cmp p.0 (keys_of ps) h)) in
            at_first (keyed (p.0 * 1024) (slots p.1)) (items_of slots ps) q (rest ∙ ap (λ o. chapter_item slots o (q % 1024)) none)
            ∙ keyed_hit (p.0 * 1024) q (q % 1024) (slots p.1) (omega (arith, same))
        | false ↦ λ e. let other : q / 1024 ≡ p.0 → ⊥ = no_key (q / 1024) p.0 e in
            at_behind (keyed (p.0 * 1024) (slots p.1)) (items_of slots ps) q (keyed_other p.0 q (slots p.1) fits other) ∙ rest
      ] refl

  sorted_items : (n : ℕ) (ps : List (ℕ × P)) → IsStrictlySortedBy nat_cmp (keys_of ps) → AllByRecursion (λ y. n ≤ y) (keys_of ps)
      → IsStrictlySortedBy nat_cmp (keys_of (items_of slots ps)) × AllByRecursion (λ y. n * 1024 ≤ y) (keys_of (items_of slots ps))
  unfolding IsStrictlySortedBy
  sorted_items n [] h above = (tt, tt)
  sorted_items n (p ∷ ps) h above =
      let fits : length (slots p.1) ≤ 1024 = short p.1 in
      let first : n ≤ p.0 = above.0 in
      let more =
      sorted_items (p.0 + 1) ps (sorted_tail nat_cmp p.0 (keys_of ps) h)
      (all_weaker _ _ (keys_of ps) (λ y less. omega (arith, less_is p.0 y less)) (sorted_head nat_cmp p.0 (keys_of ps) h)) in
      let all =
      sorted_keyed (p.0 * 1024) (slots p.1) (items_of slots ps) (all_weaker _ _ (keys_of (items_of slots ps)) (λ y low. omega (arith, low, fits)) more.1)
      more.0 in
      (all.0, all_weaker _ _ (keys_of (items_of slots (p ∷ ps))) (λ y low. omega (arith, low, first)) all.1)

module _ {X Z : Type 0} where
  at_most_1024 : (p : Rc (List (Option X)) Z) → length (slots_of p) ≤ 1024
  at_most_1024 p =
      let size : length (take 1024 p.value) ≡ min 1024 (length p.value) = length-take 1024 p.value in
      omega (arith, size)

  whole : (p : Rc (List (Option X)) Z) (i : ℕ) → i < 1024 → slot_at (slots_of p) i ≡ slot_at p.value i
  whole p i h = get_or-take 1024 p.value i None h

  -- the map of what is in the chapters
  abbrev pub mapped : List (ℕ × Rc (List (Option X)) Z) → FinMap nat_cmp X
  mapped ps = from_entries {R = nat_cmp} (items_of slots_of ps)

  pub get_none : (ps : List (ℕ × Rc (List (Option X)) Z)) (q n : ℕ) → IsStrictlySortedBy nat_cmp (keys_of ps) → n ≡ q / 1024 → at ps n ≡ None
      → get (mapped ps) q ≡ None
  get_none ps q n sorted number none =
      get-from_held (items_of slots_of ps) q ∙ items_at slots_of at_most_1024 ps q sorted
      ∙ ap (λ o. chapter_item slots_of o (q % 1024)) (ap (at ps) (sym number) ∙ none)

  pub get_chapter : (ps : List (ℕ × Rc (List (Option X)) Z)) (q n i : ℕ) (p : Rc (List (Option X)) Z) (slots : List (Option X))
      → IsStrictlySortedBy nat_cmp (keys_of ps) → n ≡ q / 1024 → i ≡ q % 1024 → at ps n ≡ Some p → slots ≡ p.value → get (mapped ps) q ≡ slot_at slots i
  get_chapter ps q n i p slots sorted number slot some value =
      get-from_held (items_of slots_of ps) q ∙ items_at slots_of at_most_1024 ps q sorted
      ∙ ap (λ o. chapter_item slots_of o (q % 1024)) (ap (at ps) (sym number) ∙ some)
      ∙ whole p (q % 1024) (omega arith)
      ∙ ap (slot_at p.value) (sym slot) ∙ ap (λ xs. slot_at xs i) (sym value)

  -- chapters that have the same in each slot make one map
  pub same_mapped : (es fs : List (ℕ × Rc (List (Option X)) Z)) → IsStrictlySortedBy nat_cmp (keys_of es) → IsStrictlySortedBy nat_cmp (keys_of fs)
      → ((m j : ℕ) → j < 1024 → chapter_item slots_of (at fs m) j ≡ chapter_item slots_of (at es m) j) → mapped fs ≡ mapped es
  same_mapped es fs was is h = same_map nat_cmp_total nat_cmp-IsAntisymmetric _ _ (λ q.
      get-from_held (items_of slots_of fs) q ∙ items_at slots_of at_most_1024 fs q is
      ∙ h (q / 1024) (q % 1024) (omega arith)
      ∙ sym (get-from_held (items_of slots_of es) q ∙ items_at slots_of at_most_1024 es q was))

  -- a chapter that changed in one slot, among others that stay
  changed : (es fs : List (ℕ × Rc (List (Option X)) Z)) (k n i : ℕ) (w : Option (Rc (List (Option X)) Z)) (u : Option X)
      → IsStrictlySortedBy nat_cmp (keys_of es) → IsStrictlySortedBy nat_cmp (keys_of fs) → n ≡ k / 1024 → i ≡ k % 1024
      → ((m : ℕ) → at fs m ≡ cond (is_at (nat_cmp n) m) w (at es m))
      → ((j : ℕ) → j < 1024 → chapter_item slots_of w j ≡ cond (is_at (nat_cmp i) j) u (chapter_item slots_of (at es n) j))
      → (q : ℕ) → at (items_of slots_of fs) q ≡ cond (is_at (nat_cmp k) q) u (at (items_of slots_of es) q)
  changed es fs k n i w u was is number slot chapters slots q =
      items_at slots_of at_most_1024 fs q is
      ∙ elim (is_at (nat_cmp n) (q / 1024)) as
      (λ b. is_at (nat_cmp n) (q / 1024) ≡ b
      → chapter_item slots_of (at fs (q / 1024)) (q % 1024) ≡ cond (is_at (nat_cmp k) q) u (chapter_item slots_of (at es (q / 1024)) (q % 1024))) [
        | true ↦ λ e. let same : n ≡ q / 1024 = is_key n (q / 1024) e in
            ap (λ o. chapter_item slots_of o (q % 1024)) (chapters (q / 1024) ∙ ap (λ b. cond b w (at es (q / 1024))) e)
            ∙ slots (q % 1024) (omega arith)
            ∙ ap (λ b. cond b u (chapter_item slots_of (at es n) (q % 1024))) (same_place k q n i number slot same)
            ∙ ap (λ m. cond (is_at (nat_cmp k) q) u (chapter_item slots_of (at es m) (q % 1024))) same
        | false ↦ λ e. let other : n ≡ q / 1024 → ⊥ = no_key n (q / 1024) e in
            ap (λ o. chapter_item slots_of o (q % 1024)) (chapters (q / 1024) ∙ ap (λ b. cond b w (at es (q / 1024))) e)
            ∙ ap (λ b. cond b u (chapter_item slots_of (at es (q / 1024)) (q % 1024))) (sym (other_key k q (λ f. other (omega (arith, number, f)))))
      ] refl
      ∙ ap (cond (is_at (nat_cmp k) q) u) (sym (items_at slots_of at_most_1024 es q was))

  -- the slots of a chapter after one was written
  slots_written : (p n : Rc (List (Option X)) Z) (i : ℕ) (u : Option X) → n.value ≡ written p.value i u → length p.value ≡ 1024 → i < 1024 → (j : ℕ) → j < 1024
      → slot_at (slots_of n) j ≡ cond (is_at (nat_cmp i) j) u (slot_at (slots_of p) j)
  slots_written p n i u new size fits j h =
      whole n j h ∙ ap (λ xs. slot_at xs j) new ∙ slot_written p.value i u j (omega (arith, size, fits))
      ∙ ap (cond (is_at (nat_cmp i) j) u) (sym (whole p j h))

  -- chapters where the one of the key was changed in the key's slot
  pub put_mapped : (es fs : List (ℕ × Rc (List (Option X)) Z)) (k n i : ℕ) (p w : Rc (List (Option X)) Z) (v : X) → IsStrictlySortedBy nat_cmp (keys_of es)
      → IsStrictlySortedBy nat_cmp (keys_of fs) → n ≡ k / 1024 → i ≡ k % 1024
      → at es n ≡ Some p → ((m : ℕ) → at fs m ≡ cond (is_at (nat_cmp n) m) (Some w) (at es m)) → w.value ≡ written p.value i (Some v) → length p.value ≡ 1024
      → mapped fs ≡ insert (mapped es) k v
  put_mapped es fs k n i p w v was is number slot there chapters new size =
      put_from_held (items_of slots_of es) (items_of slots_of fs) k v (changed es fs k n i (Some w) (Some v) was is number slot chapters (λ j h.
      slots_written p w i (Some v) new size (omega (arith, slot)) j h ∙ ap (λ o. cond (is_at (nat_cmp i) j) (Some v) (chapter_item slots_of o j)) (sym there)))

  pub take_mapped : (es fs : List (ℕ × Rc (List (Option X)) Z)) (k n i : ℕ) (p w : Rc (List (Option X)) Z) → IsStrictlySortedBy nat_cmp (keys_of es)
      → IsStrictlySortedBy nat_cmp (keys_of fs) → n ≡ k / 1024 → i ≡ k % 1024
      → at es n ≡ Some p → ((m : ℕ) → at fs m ≡ cond (is_at (nat_cmp n) m) (Some w) (at es m)) → w.value ≡ written p.value i None → length p.value ≡ 1024
      → mapped fs ≡ remove (mapped es) k
  take_mapped es fs k n i p w was is number slot there chapters new size =
      take_from_held (items_of slots_of es) (items_of slots_of fs) k (changed es fs k n i (Some w) None was is number slot chapters (λ j h.
      slots_written p w i None new size (omega (arith, slot)) j h ∙ ap (λ o. cond (is_at (nat_cmp i) j) None (chapter_item slots_of o j)) (sym there)))

  -- chapters with a new one, where there was none
  pub add_mapped : (es fs : List (ℕ × Rc (List (Option X)) Z)) (k n i : ℕ) (w : Rc (List (Option X)) Z) (v : X) → IsStrictlySortedBy nat_cmp (keys_of es)
      → IsStrictlySortedBy nat_cmp (keys_of fs) → n ≡ k / 1024 → i ≡ k % 1024
      → at es n ≡ None → ((m : ℕ) → at fs m ≡ cond (is_at (nat_cmp n) m) (Some w) (at es m)) → w.value ≡ written (replicate 1024 None) i (Some v)
      → mapped fs ≡ insert (mapped es) k v
  add_mapped es fs k n i w v was is number slot none chapters new =
      put_from_held (items_of slots_of es) (items_of slots_of fs) k v (changed es fs k n i (Some w) (Some v) was is number slot chapters (λ j h.
      whole w j h ∙ ap (λ xs. slot_at xs j) new
      ∙ slot_written (replicate 1024 None) i (Some v) j (omega (arith, slot, length-replicate {A = Option X} 1024 None))
      ∙ ap (cond (is_at (nat_cmp i) j) (Some v)) (get_or-replicate 1024 j None None h)
      ∙ ap (λ o. cond (is_at (nat_cmp i) j) (Some v) (chapter_item slots_of o j)) (sym none)))

  -- a chapter that was copied and not changed
  pub kept_mapped : (es fs : List (ℕ × Rc (List (Option X)) Z)) (n : ℕ) (p w : Rc (List (Option X)) Z) → IsStrictlySortedBy nat_cmp (keys_of es)
      → IsStrictlySortedBy nat_cmp (keys_of fs)
      → at es n ≡ Some p → ((m : ℕ) → at fs m ≡ cond (is_at (nat_cmp n) m) (Some w) (at es m)) → w.value ≡ p.value → mapped fs ≡ mapped es
  kept_mapped es fs n p w was is there chapters same = same_mapped es fs was is (λ m j h.
      elim (is_at (nat_cmp n) m) as (λ b. is_at (nat_cmp n) m ≡ b → chapter_item slots_of (at fs m) j ≡ chapter_item slots_of (at es m) j) [
        | true ↦ λ e. ap (λ o. chapter_item slots_of o j) (chapters m ∙ ap (λ b. cond b (Some w) (at es m)) e)
            ∙ ap (λ xs. slot_at (take 1024 xs) j) same ∙ ap (λ o. chapter_item slots_of o j) (sym there)
            ∙ ap (λ x. chapter_item slots_of (at es x) j) (is_key n m e)
        | false ↦ λ e. ap (λ o. chapter_item slots_of o j) (chapters m ∙ ap (λ b. cond b (Some w) (at es m)) e)
      ] refl)

  -- a chapter without items that is given up
  pub give_up_mapped : (es fs : List (ℕ × Rc (List (Option X)) Z)) (n : ℕ) (p : Rc (List (Option X)) Z) → IsStrictlySortedBy nat_cmp (keys_of es)
      → IsStrictlySortedBy nat_cmp (keys_of fs)
      → at es n ≡ Some p → ((m : ℕ) → at fs m ≡ cond (is_at (nat_cmp n) m) None (at es m)) → ((j : ℕ) → slot_at p.value j ≡ None) → mapped fs ≡ mapped es
  give_up_mapped es fs n p was is there chapters free = same_mapped es fs was is (λ m j h.
      elim (is_at (nat_cmp n) m) as (λ b. is_at (nat_cmp n) m ≡ b → chapter_item slots_of (at fs m) j ≡ chapter_item slots_of (at es m) j) [
        | true ↦ λ e. ap (λ o. chapter_item slots_of o j) (chapters m ∙ ap (λ b. cond b None (at es m)) e)
            ∙ sym (whole p j h ∙ free j) ∙ ap (λ o. chapter_item slots_of o j) (sym there)
            ∙ ap (λ x. chapter_item slots_of (at es x) j) (is_key n m e)
        | false ↦ λ e. ap (λ o. chapter_item slots_of o j) (chapters m ∙ ap (λ b. cond b None (at es m)) e)
      ] refl)

-- what takes out nothing
pub absent : {X : Type 0} (m : FinMap nat_cmp X) (k : ℕ) → get m k ≡ None → m ≡ remove m k
absent m k none = same_map nat_cmp_total nat_cmp-IsAntisymmetric _ _ (λ q.
    elim (eq_by_cmp nat_cmp q k) as (λ b. eq_by_cmp nat_cmp q k ≡ b → get m q ≡ cond b None (get m q)) [
      | true ↦ λ e. ap (get m) (is_key q k e) ∙ none
      | false ↦ λ e. refl
    ] refl ∙ sym (get-remove nat_cmp_total m k q))

module _ {X Z : Type 0} where
  -- the chapters of a copy of the table
  pub copied_items : (es fs : List (ℕ × Rc (List (Option X)) Z)) → AllZip (λ p q. (q.0 ≡ p.0) × (q.1.value ≡ p.1.value)) es fs
      → items_of slots_of fs ≡ items_of slots_of es
  copied_items [] [] h = refl
  copied_items [] (f ∷ fs) h = absurd h
  copied_items (e ∷ es) [] h = absurd h
  copied_items (e ∷ es) (f ∷ fs) h =
      ap (λ n. keyed (n * 1024) (slots_of f.1) ++ items_of slots_of fs) h.0.0 ∙ ap (λ xs. keyed (e.0 * 1024) (take 1024 xs) ++ items_of slots_of fs) h.0.1
      ∙ ap (λ rest. keyed (e.0 * 1024) (slots_of e.1) ++ rest) (copied_items es fs h.1)

  pub copied_keys : (es fs : List (ℕ × Rc (List (Option X)) Z)) → AllZip (λ p q. (q.0 ≡ p.0) × (q.1.value ≡ p.1.value)) es fs → keys_of fs ≡ keys_of es
  copied_keys [] [] h = refl
  copied_keys [] (f ∷ fs) h = absurd h
  copied_keys (e ∷ es) [] h = absurd h
  copied_keys (e ∷ es) (f ∷ fs) h = ap (λ n. n ∷ keys_of fs) h.0.0 ∙ ap (λ rest. e.0 ∷ rest) (copied_keys es fs h.1)

pub table_alike : {P : Type 0} (es fs : List (ℕ × P)) → IsTable es → keys_of fs ≡ keys_of es → IsTable fs
table_alike es fs was same = (subst (IsStrictlySortedBy nat_cmp) (sym same) was.0, subst (AllByRecursion (λ n. n < 4194304)) (sym same) was.1)

pub on_err : {A E P : Type 0} (r : Result A E) → P → OnErr r P
on_err (Ok a) p = tt
on_err (Err e) p = p

module _ {X : Type 0} where
  next_slot : (b s : ℕ) (xs : List (Option X)) → keyed b (take (suc s) xs) ≡ keyed b (take s xs) ++ keyed (b + s) (slot_at xs s ∷ [])
  next_slot b zero [] = refl
  next_slot b (suc s) [] = refl
  next_slot b zero (None ∷ xs) = refl
  next_slot b zero (Some x ∷ xs) = ap (λ n. (n, x) ∷ []) (sym (add-zero b))
  next_slot b (suc s) (None ∷ xs) = next_slot (b + 1) s xs ∙ ap (λ n. keyed (b + 1) (take s xs) ++ keyed n (slot_at xs s ∷ [])) (omega arith)
  next_slot b (suc s) (Some x ∷ xs) =
      ap (λ es. (b, x) ∷ es) (next_slot (b + 1) s xs ∙ ap (λ n. keyed (b + 1) (take s xs) ++ keyed n (slot_at xs s ∷ [])) (omega arith))

  keys_append : (es fs : List (ℕ × X)) → keys_of (es ++ fs) ≡ keys_of es ++ keys_of fs
  keys_append [] fs = refl
  keys_append (e ∷ es) fs = ap (λ ks. e.0 ∷ ks) (keys_append es fs)

  -- the keys so far, and that of one more slot
  pub one_slot : (b s : ℕ) (xs : List (Option X)) (before so_far more : List ℕ) (item : Option X) → so_far ≡ before ++ keys_of (keyed b (take s xs))
      → more ≡ so_far ++ keys_of (keyed (b + s) (item ∷ [])) → item ≡ slot_at xs s
      → more ≡ before ++ keys_of (keyed b (take (s + 1) xs))
  one_slot b s xs before so_far more item was new is =
      new ∙ ap (λ ks. ks ++ keys_of (keyed (b + s) (item ∷ []))) was
      ∙ append_assoc before (keys_of (keyed b (take s xs))) (keys_of (keyed (b + s) (item ∷ [])))
      ∙ ap (λ o. before ++ (keys_of (keyed b (take s xs)) ++ keys_of (keyed (b + s) (o ∷ [])))) is
      ∙ ap (λ ks. before ++ ks)
      (sym (keys_append (keyed b (take s xs)) (keyed (b + s) (slot_at xs s ∷ []))) ∙ ap keys_of (sym (next_slot b s xs))
      ∙ ap (λ n. keys_of (keyed b (take n xs))) (sym (add-one s)))

all_from_zero : (ks : List ℕ) → AllByRecursion (λ y. 0 ≤ y) ks
all_from_zero [] = tt
all_from_zero (k ∷ ks) = (omega arith, all_from_zero ks)

module _ {X Z : Type 0} where
  pub keys_mapped : (es : List (ℕ × Rc (List (Option X)) Z)) → IsStrictlySortedBy nat_cmp (keys_of es) → keys (mapped es) ≡ keys_of (items_of slots_of es)
  keys_mapped es sorted = keys-from_held (items_of slots_of es) (sorted_items slots_of at_most_1024 0 es sorted (all_from_zero (keys_of es))).0

  -- the keys so far and those of the chapters that are left
  pub one_chapter : (all : List ℕ) (left next : List (ℕ × Rc (List (Option X)) Z)) (n : ℕ) (p : Rc (List (Option X)) Z) (xs : List (Option X))
      (before after : List ℕ) → before ++ keys_of (items_of slots_of left) ≡ all → left ≡ (n, p) ∷ next
      → after ≡ before ++ keys_of (keyed (n * 1024) (take 1024 xs)) → xs ≡ p.value → after ++ keys_of (items_of slots_of next) ≡ all
  one_chapter all left next n p xs before after so_far first new is =
      ap (λ ks. ks ++ keys_of (items_of slots_of next)) new
      ∙ append_assoc before (keys_of (keyed (n * 1024) (take 1024 xs))) (keys_of (items_of slots_of next))
      ∙ ap (λ ks. before ++ ks)
      (ap (λ ys. keys_of (keyed (n * 1024) (take 1024 ys)) ++ keys_of (items_of slots_of next)) is
      ∙ sym (keys_append (keyed (n * 1024) (slots_of p)) (items_of slots_of next)) ∙ ap (λ ps. keys_of (items_of slots_of ps)) (sym first))
      ∙ so_far
