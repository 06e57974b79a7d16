-- How many items a map has after one comes or goes.
use Rattle.std.proofs.Common.{◌≡◌, ℕ, ◌+◌, ◌-◌, ◌≤◌, Bool, Option, Some, None, option_map, is_some, Result, Ok, Err, OnOk, OnErr, true, false, cond, ◌==◌, refl, sym, ap, ◌∙◌, arith}
use Rattle.std.specs.Ordering.{nat_cmp}
use Rattle.std.specs.Cmp.{nat_cmp_total}
use Rattle.std.specs.FinMap.{FinMap, get, insert, remove, len, empty_of_len, get-empty, len-insert, len-remove}
use Rattle.lx_store.specs.Edits.{with_item, with_edit}

module _ {X : Type 0} where
  pub one_more : (m n : FinMap nat_cmp X) (k : ℕ) (v : X) (old : Option X) (count : ℕ) → old ≡ get m k → n ≡ insert m k v → count ≡ len m → is_some old ≡ false
      → count + 1 ≡ len n
  one_more m n k v None count was is counted none =
      ap (λ c. c + 1) counted ∙ sym (ap len is ∙ len-insert nat_cmp_total m k v ∙ ap (λ o. cond (is_some o) (len m) (len m + 1)) (sym was))
  one_more m n k v (Some x) count was is counted none = absurd (grind (arith, none))

  pub as_many : (m n : FinMap nat_cmp X) (k : ℕ) (v : X) (old : Option X) (count : ℕ) → old ≡ get m k → n ≡ insert m k v → count ≡ len m → is_some old ≡ true
      → count ≡ len n
  as_many m n k v None count was is counted some = absurd (grind (arith, some))
  as_many m n k v (Some x) count was is counted some =
      counted ∙ sym (ap len is ∙ len-insert nat_cmp_total m k v ∙ ap (λ o. cond (is_some o) (len m) (len m + 1)) (sym was))

  pub not_empty : (m : FinMap nat_cmp X) (k : ℕ) (old : Option X) (count : ℕ) → old ≡ get m k → count ≡ len m → is_some old ≡ true → 1 ≤ count
  not_empty m k None count was counted some = absurd (grind (arith, some))
  not_empty m k (Some x) count was counted some = elim (count == 0) as (λ b. (count == 0) ≡ b → 1 ≤ count) [
    | true ↦ λ e. let none : len m ≡ 0 = sym counted ∙ grind (arith, e) in
        absurd (grind (arith, was ∙ ap (λ n. get n k) (empty_of_len m none) ∙ get-empty nat_cmp k))
    | false ↦ λ e. grind (arith, e)
  ] refl

  pub one_less : (m n : FinMap nat_cmp X) (k : ℕ) (old : Option X) (count : ℕ) → old ≡ get m k → n ≡ remove m k → count ≡ len m → is_some old ≡ true
      → count - 1 ≡ len n
  one_less m n k None count was is counted some = absurd (grind (arith, some))
  one_less m n k (Some x) count was is counted some =
      ap (λ c. c - 1) counted ∙ sym (ap len is ∙ len-remove nat_cmp_total m k ∙ ap (λ o. cond (is_some o) (len m - 1) (len m)) (sym was))

  pub none_less : (m n : FinMap nat_cmp X) (k : ℕ) (old : Option X) (count : ℕ) → old ≡ get m k → n ≡ remove m k → count ≡ len m → is_some old ≡ false
      → count ≡ len n
  none_less m n k None count was is counted none =
      counted ∙ sym (ap len is ∙ len-remove nat_cmp_total m k ∙ ap (λ o. cond (is_some o) (len m - 1) (len m)) (sym was))
  none_less m n k (Some x) count was is counted none = absurd (grind (arith, none))

  with_as_many : (m : FinMap nat_cmp X) (k : ℕ) (edited : X → X) (old : Option X) → old ≡ get m k → len (with_item m k (option_map edited old)) ≡ len m
  with_as_many m k edited None was = refl
  with_as_many m k edited (Some x) was = len-insert nat_cmp_total m k (edited x) ∙ ap (λ o. cond (is_some o) (len m) (len m + 1)) (sym was)

  pub edited_as_many : {E : Type 0} (r : Result Bool E) (m n : FinMap nat_cmp X) (k : ℕ) (edited : X → X) (count : ℕ) → OnOk r (n ≡ with_edit edited k m)
      → OnErr r (n ≡ m) → count ≡ len m → count ≡ len n
  edited_as_many (Ok found) m n k edited count is _ counted = counted ∙ sym (ap len is ∙ with_as_many m k edited (get m k) refl)
  edited_as_many (Err e) m n k edited count _ same counted = counted ∙ sym (ap len same)
