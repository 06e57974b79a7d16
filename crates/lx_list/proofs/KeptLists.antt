-- Keys of lists, kept in preorder.
use Rattle.std.proofs.Common.{◌≡◌, ◌≢◌, ◌∙◌, ◌⊎◌, ℕ, zero, suc, ◌+◌, ◌<◌, ◌≤◌, Bool, true, false, cond, eqb, ◌||◌, ◌&&◌, List, [], ◌∷◌, ◌++◌, length, get_or, take, Option, None, Some, refl, sym, ap, subst, arith, inl, inr}
use Rattle.std.specs.Prelude.{filter, insert, option_map, is_some, slice_get}
use Rattle.std.specs.List.{list_any}
use Rattle.std.proofs.Math.Seq.{take-suc}
use Rattle.std.proofs.lemmas.List.Folds.{list_any_more, list_any-append}
use Rattle.std.proofs.lemmas.Bool.{cases_Bool}
use Rattle.std.proofs.lemmas.Bool.Decides.{eqb_tells, nat_tests}
use Rattle.std.specs.declared.cmp.Ordering.{Ordering}
use Rattle.std.specs.declared.cmp.Ordering.TheVariants.{Less, Equal, Greater}
use Rattle.lx_trees.specs.Siblings.{is_named, is_among, index_in, NoRepeats}
use Rattle.lx_trees.proofs.Siblings.{is_some-index_in}
use Rattle.lx_forest.specs.Forest.{Forest}
use Rattle.lx_forest.specs.Lookups.{parent_of, is_attached, preorder, order_between, order_of, IsForest}
use Rattle.lx_forest.proofs.Walks.{is_among-preorder_of, NoRepeats-preorder_of}
use Rattle.lx_node.specs.Kinds.{is_list}
use Rattle.lx_blocks.specs.Blocks.{is_at}
use Rattle.lx_list.specs.Touched.{is_of_list, is_touched_list, touched_lists}
use Rattle.lx_marks.specs.Marks.{Marked}

-- ---- what tests keep

-- tests that agree on all members keep the same ones
filter_agree : (p r : ℕ → Bool) (xs : List ℕ) → ((q : ℕ) → is_among q xs ≡ true → p q ≡ r q) → filter p xs ≡ filter r xs
filter_agree p r [] same = refl
filter_agree p r (x ∷ xs) same =
    let rest : filter p xs ≡ filter r xs = filter_agree p r xs (λ q among. same q (grind (arith, among))) in
    let here : p x ≡ r x = same x (grind (arith, eqb_tells x x)) in
    rw (here, rest)

-- what two tests keep, one after the other
filter_twice : (p r : ℕ → Bool) (xs : List ℕ) → filter p (filter r xs) ≡ filter (λ q. r q && p q) xs
filter_twice p r [] = refl
filter_twice p r (x ∷ xs) = elim (cases_Bool (r x)) [
  | inl passes ↦ rw (passes, filter_twice p r xs)
  | inr fails ↦ rw (fails, filter_twice p r xs)
]

-- what is kept is a member
among_step : (b : Bool) (x : ℕ) (xs kept : List ℕ) (at y : ℕ) → slice_get (cond b (x ∷ kept) kept) at ≡ Some y
    → ((i : ℕ) → slice_get kept i ≡ Some y → is_among y xs ≡ true) → is_among y (x ∷ xs) ≡ true
among_step true x xs kept zero y e later = grind (arith, e, eqb_tells x y)
among_step true x xs kept (suc at) y e later = grind (arith, later at e)
among_step false x xs kept at y e later = grind (arith, later at e)

among_kept : (p : ℕ → Bool) (xs : List ℕ) (at y : ℕ) → slice_get (filter p xs) at ≡ Some y → is_among y xs ≡ true
among_kept p [] at y e = absurd (grind arith)
among_kept p (x ∷ xs) at y e = among_step (p x) x xs (filter p xs) at y e (λ i h. among_kept p xs i y h)

-- ---- a place among what is kept

-- how many of those that are kept come before k
pub place : (ℕ → Bool) → ℕ → List ℕ → ℕ
place p k [] = 0
place p k (x ∷ xs) = cond (eqb x k) 0 (cond (p x) (suc (place p k xs)) (place p k xs))

place_within : (p : ℕ → Bool) (k : ℕ) (xs : List ℕ) → place p k xs ≤ length (filter p xs)
unfolding place
place_within p k [] = omega arith
place_within p k (x ∷ xs) = grind (arith, place_within p k xs)

place_below : (p : ℕ → Bool) (k : ℕ) (xs : List ℕ) → is_among k xs ≡ true → p k ≡ true → place p k xs < length (filter p xs)
unfolding place
place_below p k [] among own = absurd (cc)
place_below p k (x ∷ xs) among own = grind (arith, eqb_tells x k, place_below p k xs)

-- a new one comes to its place
insert_place : (p : ℕ → Bool) (k : ℕ) (xs : List ℕ) → NoRepeats xs → is_among k xs ≡ true → p k ≡ false
    → insert (filter p xs) (place p k xs) k ≡ filter (λ q. p q || eqb q k) xs
unfolding place
insert_place p k [] once among new = absurd (cc)
insert_place p k (x ∷ xs) once among new = elim (eqb_tells x k) [
  | inl own ↦
      let fails : p x ≡ false = ap p own.1 ∙ new in
      let rest : filter p xs ≡ filter (λ q. p q || eqb q k) xs =
      filter_agree p (λ q. p q || eqb q k) xs (λ q there. grind (arith, once.0, there, own.1, eqb_tells q k)) in
      rw (own.0, fails, rest, own.1)
  | inr other ↦
      let later : insert (filter p xs) (place p k xs) k ≡ filter (λ q. p q || eqb q k) xs = insert_place p k xs once.1 (grind (arith, among, other.0)) new in
      elim (cases_Bool (p x)) [
        | inl passes ↦ rw (other.0, passes) (ap (λ ys. x ∷ ys) later)
        | inr fails ↦ rw (other.0, fails) later
      ]
]

-- one that is kept stays
kept_stays : (p : ℕ → Bool) (k : ℕ) (xs : List ℕ) → p k ≡ true → filter p xs ≡ filter (λ q. p q || eqb q k) xs
kept_stays p k xs own = filter_agree p (λ q. p q || eqb q k) xs (λ q among. by_test q (eqb_tells q k)) where
  by_test : (q : ℕ) → ((eqb q k ≡ true) × (q ≡ k)) ⊎ ((eqb q k ≡ false) × (q ≢ k)) → p q ≡ (p q || eqb q k)
  by_test q (inl is) = let passes : p q ≡ true = ap p is.1 ∙ own in rw passes
  by_test q (inr other) = grind (arith, other.0)

-- ---- what the order of two names says

order_after : (o r : Option ℕ) → order_between (option_map (λ i. i + 1) o) (option_map (λ i. i + 1) r) ≡ order_between o r
order_after None r = refl
order_after (Some i) None = refl
order_after (Some i) (Some j) = grind (arith, nat_tests)

order_first : (o : Option ℕ) → is_some o ≡ true
    → (order_between (Some 0) (option_map (λ i. i + 1) o) ≡ Some Less) × (order_between (option_map (λ i. i + 1) o) (Some 0) ≡ Some Greater)
order_first None e = absurd (cc)
order_first (Some i) e = (grind (arith, nat_tests), grind (arith, nat_tests))

order_later : (x y k : ℕ) (xs : List ℕ) → eqb x y ≡ false → eqb x k ≡ false
    → order_between (index_in xs y) (index_in xs k) ≡ order_between (index_in (x ∷ xs) y) (index_in (x ∷ xs) k)
order_later x y k xs other apart = rw (other, apart) (sym (order_after (index_in xs y) (index_in xs k)))

-- one that is kept, no later than at the place of k: it comes before k, is k, or comes after it
abbrev Told : Bool → ℕ → ℕ → Option Ordering → Type 0
Told own at behind o = ((o ≡ Some Less) × (at < behind)) ⊎ (((o ≡ Some Equal) × (own ≡ true)) ⊎ ((o ≡ Some Greater) × (at ≡ behind) × (own ≡ false)))

told_later : (own : Bool) (at behind : ℕ) (o : Option Ordering) → Told own at behind o → Told own (suc at) (suc behind) o
told_later own at behind o (inl less) = inl (less.0, omega (arith, less.1))
told_later own at behind o (inr (inl same)) = inr (inl same)
told_later own at behind o (inr (inr more)) = inr (inr (more.0, ap suc more.1, more.2))

told_own : (p : ℕ → Bool) (k x : ℕ) (xs : List ℕ) (at y : ℕ) (b : Bool) → p k ≡ b → x ≡ k → is_among x xs ≡ false
    → slice_get (cond b (x ∷ filter p xs) (filter p xs)) at ≡ Some y → at ≡ 0 → Told (p k) at 0 (order_between (index_in (x ∷ xs) y) (index_in (x ∷ xs) k))
told_own p k x xs at y true passes own once e start =
    let first : x ≡ y = grind (arith, rw start at e) in
    inr (inl (grind (arith, own, first, eqb_tells x k, eqb_tells x y, nat_tests), passes))
told_own p k x xs at y false fails own once e start =
    let there : is_among y xs ≡ true = among_kept p xs at y e in
    let other : eqb x y ≡ false = grind (arith, there, once, eqb_tells x y) in
    let is : eqb x k ≡ true = grind (arith, own, eqb_tells x k) in
    inr (inr (rw (other, is) (order_first (index_in xs y) (is_some-index_in xs y ∙ there)).1, start, fails))

told_other : (p : ℕ → Bool) (k x : ℕ) (xs : List ℕ) (at y : ℕ) (b : Bool) → eqb x k ≡ false → is_among x xs ≡ false → is_among k xs ≡ true
    → slice_get (cond b (x ∷ filter p xs) (filter p xs)) at ≡ Some y → at ≤ cond b (suc (place p k xs)) (place p k xs)
    → ((i : ℕ) → slice_get (filter p xs) i ≡ Some y → i ≤ place p k xs → Told (p k) i (place p k xs) (order_between (index_in xs y) (index_in xs k)))
    → Told (p k) at (cond b (suc (place p k xs)) (place p k xs)) (order_between (index_in (x ∷ xs) y) (index_in (x ∷ xs) k))
told_other p k x xs zero y true apart once among e up_to later =
    let first : x ≡ y = grind (arith, e) in
    let is : eqb x y ≡ true = grind (arith, first, eqb_tells x y) in
    inl (rw (is, apart) (order_first (index_in xs k) (is_some-index_in xs k ∙ among)).0, omega arith)
told_other p k x xs (suc at) y true apart once among e up_to later =
    let other : eqb x y ≡ false = grind (arith, among_kept p xs at y e, once, eqb_tells x y) in
    subst (Told (p k) (suc at) (suc (place p k xs))) (order_later x y k xs other apart) (told_later (p k) at (place p k xs) _ (later at e (omega arith)))
told_other p k x xs at y false apart once among e up_to later =
    let other : eqb x y ≡ false = grind (arith, among_kept p xs at y e, once, eqb_tells x y) in
    subst (Told (p k) at (place p k xs)) (order_later x y k xs other apart) (later at e up_to)

order_told : (p : ℕ → Bool) (k : ℕ) (xs : List ℕ) (at y : ℕ) → NoRepeats xs → is_among k xs ≡ true → slice_get (filter p xs) at ≡ Some y → at ≤ place p k xs
    → Told (p k) at (place p k xs) (order_between (index_in xs y) (index_in xs k))
unfolding place
order_told p k [] at y once among e up_to = absurd (cc)
order_told p k (x ∷ xs) at y once among e up_to = elim (eqb_tells x k) [
  | inl own ↦
      let none : place p k (x ∷ xs) ≡ 0 = rw own.0 in
      subst (λ n. Told (p k) at n (order_between (index_in (x ∷ xs) y) (index_in (x ∷ xs) k))) (sym none)
      (told_own p k x xs at y (p x) (sym (ap p own.1)) own.1 once.0 e (omega (arith, none)))
  | inr other ↦
      let more : place p k (x ∷ xs) ≡ cond (p x) (suc (place p k xs)) (place p k xs) = rw other.0 in
      subst (λ n. Told (p k) at n (order_between (index_in (x ∷ xs) y) (index_in (x ∷ xs) k))) (sym more)
      (told_other p k x xs at y (p x) other.0 once.0 (grind (arith, among, other.0)) e (subst (λ n. at ≤ n) more up_to)
      (λ i h le. order_told p k xs i y once.1 (grind (arith, among, other.0)) h le))
]

-- ---- a list of the root's tree among keys that are kept

-- what is known of a key that is kept, and of the list that comes no earlier
pub record IsTold (f : Forest) (keys : List ℕ) (list at y : ℕ) : Type 0 where
  pub in_order : IsForest f
  pub attached : is_attached f list ≡ true
  pub before : (p : ℕ → Bool) → keys ≡ filter p (preorder f) → at ≤ place p list (preorder f)
  pub here : slice_get keys at ≡ Some y

told : (f : Forest) (keys : List ℕ) (list at y : ℕ) → IsTold f keys list at y → (p : ℕ → Bool) → keys ≡ filter p (preorder f)
    → Told (p list) at (place p list (preorder f)) (order_of f y list)
told f keys list at y t p kept =
    order_told p list (preorder f) at y (NoRepeats-preorder_of f t.in_order) (is_among-preorder_of f list ∙ t.attached)
    (subst (λ ks. slice_get ks at ≡ Some y) kept t.here) (t.before p kept)

-- the key comes before the list
pub told_before : (f : Forest) (keys : List ℕ) (list at y : ℕ) → IsTold f keys list at y → Some Less ≡ order_of f y list
    → (p : ℕ → Bool) → keys ≡ filter p (preorder f) → at + 1 ≤ place p list (preorder f)
told_before f keys list at y t e p kept =
    elim (told f keys list at y t p kept) [
      | inl less ↦ omega (arith, less.1)
      | inr (inl same) ↦ let clash : Some Less ≡ Some Equal = e ∙ same.0 in absurd (cc)
      | inr (inr more) ↦ let clash : Some Less ≡ Some Greater = e ∙ more.0 in absurd (cc)
    ]

-- the key is the list's
pub told_kept : (f : Forest) (keys : List ℕ) (list at y : ℕ) → IsTold f keys list at y → Some Equal ≡ order_of f y list
    → (p : ℕ → Bool) → keys ≡ filter p (preorder f) → keys ≡ filter (λ q. p q || eqb q list) (preorder f)
told_kept f keys list at y t e p kept =
    elim (told f keys list at y t p kept) [
      | inl less ↦ let clash : Some Equal ≡ Some Less = e ∙ less.0 in absurd (cc)
      | inr (inl same) ↦ kept ∙ kept_stays p list (preorder f) same.1
      | inr (inr more) ↦ let clash : Some Equal ≡ Some Greater = e ∙ more.0 in absurd (cc)
    ]

-- the list comes to the end, or before a key
inserted : (f : Forest) (keys : List ℕ) (list at : ℕ) (p : ℕ → Bool) → IsForest f → is_attached f list ≡ true → keys ≡ filter p (preorder f)
    → at ≡ place p list (preorder f) → p list ≡ false → insert keys at list ≡ filter (λ q. p q || eqb q list) (preorder f)
inserted f keys list at p h attached kept is new =
    rw (kept, is) (insert_place p list (preorder f) (NoRepeats-preorder_of f h) (is_among-preorder_of f list ∙ attached) new)

pub told_behind : (f : Forest) (keys : List ℕ) (list at y : ℕ) → IsTold f keys list at y → order_of f y list ≢ Some Less → order_of f y list ≢ Some Equal
    → (p : ℕ → Bool) → keys ≡ filter p (preorder f) → insert keys at list ≡ filter (λ q. p q || eqb q list) (preorder f)
told_behind f keys list at y t not_less not_equal p kept =
    elim (told f keys list at y t p kept) [
      | inl less ↦ absurd (not_less less.0)
      | inr (inl same) ↦ absurd (not_equal same.0)
      | inr (inr more) ↦ inserted f keys list at p t.in_order t.attached kept more.1 more.2
    ]

pub told_last : (f : Forest) (keys : List ℕ) (list at : ℕ) → IsForest f → is_attached f list ≡ true → length keys ≤ at
    → ((p : ℕ → Bool) → keys ≡ filter p (preorder f) → at ≤ place p list (preorder f))
    → (p : ℕ → Bool) → keys ≡ filter p (preorder f) → insert keys at list ≡ filter (λ q. p q || eqb q list) (preorder f)
told_last f keys list at h attached past before p kept =
    let long : length keys ≡ length (filter p (preorder f)) = ap length kept in
    let within : place p list (preorder f) ≤ length (filter p (preorder f)) = place_within p list (preorder f) in
    let up_to : at ≤ place p list (preorder f) = before p kept in
    elim (cases_Bool (p list)) [
      | inl own ↦ absurd (omega (arith, place_below p list (preorder f) (is_among-preorder_of f list ∙ attached) own))
      | inr new ↦ inserted f keys list at p h attached kept (omega arith) new
    ]

-- ---- what is kept of a key

-- nothing more of a key that is no list's, or not in the root's tree
pub none_kept : (f : Forest) (key : ℕ) (p : ℕ → Bool) → (is_at is_list f key && is_attached f key) ≡ false
    → filter p (preorder f) ≡ filter (λ q. p q || (is_at is_list f q && eqb q key)) (preorder f)
none_kept f key p not_it = filter_agree p _ (preorder f) (λ q among. by_test q (sym (is_among-preorder_of f q) ∙ among) (eqb_tells q key)) where
  first : (a b : Bool) → (a && b) ≡ false → b ≡ true → a ≡ false
  first true b e h = sym h ∙ e
  first false b e h = refl

  by_test : (q : ℕ) → is_attached f q ≡ true → ((eqb q key ≡ true) × (q ≡ key)) ⊎ ((eqb q key ≡ false) × (q ≢ key))
      → p q ≡ (p q || (is_at is_list f q && eqb q key))
  by_test q attached (inl own) =
      let other : is_at is_list f q ≡ false =
      ap (is_at is_list f) own.1 ∙ first (is_at is_list f key) (is_attached f key) not_it (sym (ap (is_attached f) own.1) ∙ attached) in
      rw other (grind arith)
  by_test q attached (inr other) = rw other.0 (grind arith)

-- those of one test and those of another are those of either
kept_either : (p l t u : ℕ → Bool) (xs : List ℕ) → filter (λ q. (p q || (l q && t q)) || (l q && u q)) xs ≡ filter (λ q. p q || (l q && (t q || u q))) xs
kept_either p l t u xs = filter_agree _ _ xs (λ q among. either (p q) (l q) (t q) (u q)) where
  either : (a b c d : Bool) → ((a || (b && c)) || (b && d)) ≡ (a || (b && (c || d)))
  either true b c d = refl
  either false true c d = refl
  either false false c d = refl

kept_alike : (p l t u : ℕ → Bool) (xs : List ℕ) → ((q : ℕ) → t q ≡ u q) → filter (λ q. p q || (l q && t q)) xs ≡ filter (λ q. p q || (l q && u q)) xs
kept_alike p l t u xs same = filter_agree _ _ xs (λ q among. ap (λ b. p q || (l q && b)) (same q))

pub kept_no_more : (p l : ℕ → Bool) (xs : List ℕ) → filter p xs ≡ filter (λ q. p q || (l q && false)) xs
kept_no_more p l xs = filter_agree p _ xs (λ q among. nothing (p q) (l q)) where
  nothing : (a b : Bool) → a ≡ (a || (b && false))
  nothing true b = refl
  nothing false true = refl
  nothing false false = refl

-- as its own, and as that of one of its children
pub kept_of : (f : Forest) (key : ℕ) (p : ℕ → Bool) (o : Option ℕ) → o ≡ parent_of f key
    → filter (λ q. (p q || (is_at is_list f q && eqb q key)) || (is_at is_list f q && is_named o q)) (preorder f)
    ≡ filter (λ q. p q || (is_at is_list f q && is_of_list f q key)) (preorder f)
kept_of f key p o up =
    kept_either p (is_at is_list f) (λ q. eqb q key) (is_named o) (preorder f)
    ∙ ap (λ r. filter (λ q. p q || (is_at is_list f q && (eqb q key || is_named r q))) (preorder f)) up

-- ---- what is kept of all that is marked

pub kept_leaf : (f : Forest) (leaves : List ℕ) (i key : ℕ) (p : ℕ → Bool) → i < length leaves → key ≡ get_or leaves i key
    → filter (λ q. (p q || (is_at is_list f q && list_any (is_of_list f q) (take i leaves))) || (is_at is_list f q && is_of_list f q key)) (preorder f)
    ≡ filter (λ q. p q || (is_at is_list f q && list_any (is_of_list f q) (take (i + 1) leaves))) (preorder f)
kept_leaf f leaves i key p less is =
    kept_either p (is_at is_list f) (λ q. list_any (is_of_list f q) (take i leaves)) (λ q. is_of_list f q key) (preorder f)
    ∙ kept_alike p (is_at is_list f) _ _ (preorder f)
    (λ q. ap (λ k. list_any (is_of_list f q) (take i leaves) || is_of_list f q k) is ∙ sym (list_any_more (is_of_list f q) leaves i key less))

-- whether a list is of an element that is marked itself
abbrev pub is_of_marked : Forest → ℕ → ℕ × Bool → Bool
is_of_marked f list e = e.1 && is_of_list f list e.0

-- those that were kept, and the lists of these elements
abbrev pub elements_kept : Forest → (ℕ → Bool) → List (ℕ × Bool) → List ℕ
elements_kept f p es = filter (λ q. p q || (is_at is_list f q && list_any (is_of_marked f q) es)) (preorder f)

any_last : (test : ℕ × Bool → Bool) (passed : List (ℕ × Bool)) (e : ℕ × Bool) → (list_any test passed || test e) ≡ list_any test (passed ++ e ∷ [])
any_last test passed e = grind (arith, list_any-append test passed (e ∷ []))

pub kept_element : (f : Forest) (passed : List (ℕ × Bool)) (e : ℕ × Bool) (p : ℕ → Bool)
    → filter (λ q. (p q || (is_at is_list f q && list_any (is_of_marked f q) passed)) || (is_at is_list f q && is_of_marked f q e)) (preorder f)
    ≡ elements_kept f p (passed ++ e ∷ [])
kept_element f passed e p =
    kept_either p (is_at is_list f) (λ q. list_any (is_of_marked f q) passed) (λ q. is_of_marked f q e) (preorder f)
    ∙ kept_alike p (is_at is_list f) _ _ (preorder f) (λ q. any_last (is_of_marked f q) passed e)

-- the elements that were passed, and one more
pub element_more : (es : List (ℕ × Bool)) (i : ℕ) (e : ℕ × Bool) → i < length es → e ≡ get_or es i e → take (i + 1) es ≡ take i es ++ e ∷ []
element_more es i e less is =
    let one : suc i ≡ i + 1 = omega arith in
    ap (λ n. take n es) (sym one) ∙ take-suc es i e less ∙ ap (λ (x : ℕ × Bool). take i es ++ x ∷ []) (sym is)

pub nothing_kept : (xs : List ℕ) → filter (λ q. false) xs ≡ []
nothing_kept [] = refl
nothing_kept (x ∷ xs) = nothing_kept xs

-- the lists of these leaves
abbrev pub leaves_kept : Forest → List ℕ → ℕ → Bool
leaves_kept f leaves q = false || (is_at is_list f q && list_any (is_of_list f q) leaves)

-- those of leaves and of elements are all that are touched
pub all_kept : (f : Forest) (m : Marked) → elements_kept f (leaves_kept f m.leaves) m.elements ≡ touched_lists f m
all_kept f m =
    kept_either (λ q. false) (is_at is_list f) (λ q. list_any (is_of_list f q) m.leaves) (λ q. list_any (is_of_marked f q) m.elements) (preorder f)
    ∙ sym (filter_twice (is_touched_list f m) (is_at is_list f) (preorder f))
