-- Entries in the order of their keys, and the finite map that they make.
use Rattle.std.proofs.Common.{◌≡◌, ℕ, cond, List, [], ◌∷◌, length, Option, Some, None, refl, sym, ap, ◌∙◌, arith}
use Rattle.std.specs.declared.cmp.Ordering.TheVariants.{Less}
use Rattle.std.specs.Ordering.{nat_cmp}
use Rattle.std.specs.Cmp.{nat_cmp_total, eq_by_cmp_equiv}
use Rattle.std.specs.BTreeMap.{is_at}
use Rattle.std.specs.Map.{keys_of, lookup}
use Rattle.std.specs.List.Sorted.{IsStrictlySortedBy}
use Rattle.std.specs.FinMap.{find, put, entries, get, insert, remove, keys, from_entries, empty, get-from_entries, get-insert, get-remove, entries-insert, len-entries, len-empty, same_map, nat_cmp-IsAntisymmetric}
use Rattle.std.proofs.lemmas.Map.Keys.{sorted_head, sorted_tail}

same_test : (k q : ℕ) → is_at (nat_cmp k) q ≡ is_at (nat_cmp q) k
same_test k q = (eq_by_cmp_equiv nat_cmp_total).symm k q

no_length : {A : Type 0} (xs : List A) → length xs ≡ 0 → xs ≡ []
no_length [] e = refl
no_length (x ∷ xs) e = absurd (omega arith)

module _ {X : Type 0} where
  -- what the entries have at a key
  abbrev pub at : List (ℕ × X) → ℕ → Option X
  at es q = lookup (is_at (nat_cmp q)) es

  find_at : (es : List (ℕ × X)) (q : ℕ) → find nat_cmp q es ≡ at es q
  find_at [] q = refl
  find_at (e ∷ es) q = ap (cond (is_at (nat_cmp q) e.0) (Some e.1)) (find_at es q)

  pub get-from_held : (es : List (ℕ × X)) (q : ℕ) → get (from_entries {R = nat_cmp} es) q ≡ at es q
  get-from_held es q = get-from_entries nat_cmp_total es q ∙ find_at es q

  -- entries that differ at one key make maps that differ there
  pub put_from_held : (es fs : List (ℕ × X)) (k : ℕ) (v : X) → ((q : ℕ) → at fs q ≡ cond (is_at (nat_cmp k) q) (Some v) (at es q))
      → from_entries {R = nat_cmp} fs ≡ insert (from_entries es) k v
  put_from_held es fs k v h = same_map nat_cmp_total nat_cmp-IsAntisymmetric _ _ (λ q.
      get-from_held fs q ∙ h q ∙ ap (λ b. cond b (Some v) (at es q)) (same_test k q)
      ∙ sym (get-insert nat_cmp_total (from_entries es) k v q ∙ ap (cond (is_at (nat_cmp q) k) (Some v)) (get-from_held es q)))

  pub take_from_held : (es fs : List (ℕ × X)) (k : ℕ) → ((q : ℕ) → at fs q ≡ cond (is_at (nat_cmp k) q) None (at es q))
      → from_entries {R = nat_cmp} fs ≡ remove (from_entries es) k
  take_from_held es fs k h = same_map nat_cmp_total nat_cmp-IsAntisymmetric _ _ (λ q.
      get-from_held fs q ∙ h q ∙ ap (λ b. cond b None (at es q)) (same_test k q)
      ∙ sym (get-remove nat_cmp_total (from_entries es) k q ∙ ap (cond (is_at (nat_cmp q) k) None) (get-from_held es q)))

  -- a first key comes before one that is greater
  put_first : (e : ℕ × X) (es : List (ℕ × X)) → IsStrictlySortedBy nat_cmp (keys_of (e ∷ es)) → put nat_cmp e.0 e.1 es ≡ e ∷ es
  put_first e [] h = refl
  put_first e (f ∷ es) h = let first : nat_cmp e.0 f.0 ≡ Less = (sorted_head nat_cmp e.0 (keys_of (f ∷ es)) h).0 in rw first refl

  pub entries-from_held : (es : List (ℕ × X)) → IsStrictlySortedBy nat_cmp (keys_of es) → entries (from_entries {R = nat_cmp} es) ≡ es
  entries-from_held [] h = no_length _ (sym (len-entries empty) ∙ len-empty nat_cmp X)
  entries-from_held (e ∷ es) h =
      entries-insert nat_cmp_total (from_entries es) e.0 e.1
      ∙ ap (put nat_cmp e.0 e.1) (entries-from_held es (sorted_tail nat_cmp e.0 (keys_of es) h))
      ∙ put_first e es h

  pub keys-from_held : (es : List (ℕ × X)) → IsStrictlySortedBy nat_cmp (keys_of es) → keys (from_entries {R = nat_cmp} es) ≡ keys_of es
  keys-from_held es h = ap keys_of (entries-from_held es h)
