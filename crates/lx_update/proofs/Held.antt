-- The entries of an ordered map from names, and the finite map that they make.
use Rattle.std.proofs.Common.{◌≡◌, ◌∙◌, ℕ, Bool, true, false, cond, List, [], ◌∷◌, String, string_bytes, Option, Some, refl, sym, ap, arith, inl, inr}
use Rattle.std.specs.declared.cmp.Ordering.{Ordering}
use Rattle.std.specs.declared.cmp.Ordering.TheVariants.{Less, Equal, Greater}
use Rattle.std.specs.Ordering.{nat_cmp, is_eq, match_ordering}
use Rattle.std.specs.Cmp.Lexicographic.{slice_cmp, nat_list_cmp_total, bytes_decides}
use Rattle.std.specs.BTreeMap.{is_at, insert_entry}
use Rattle.std.specs.Map.{lookup}
use Rattle.std.specs.Str.{chars, IsUtf8, bytes_eq, encode_utf8_all}
use Rattle.std.specs.String.{string_cmp}
use Rattle.std.specs.FinMap.{find, get, insert, from_entries, get-from_entries, get-insert, same_map, nat_cmp-IsAntisymmetric, slice_cmp-IsAntisymmetric}
use Rattle.std.proofs.lemmas.Bool.{cases_Bool}
use Rattle.std.proofs.lemmas.Str.{encodes-chars, IsUtf8-string_bytes}
use Rattle.std.proofs.lemmas.Map.Text.{is_eq-slice_cmp}
use Rattle.lx_update.specs.Naming.{as_texts}

-- ---- names are equal where their bytes are

same_bytes : (bs ds : List ℕ) → IsUtf8 bs → IsUtf8 ds → chars bs ≡ chars ds → bs ≡ ds
same_bytes bs ds u v e = sym (encodes-chars bs u) ∙ ap encode_utf8_all e ∙ encodes-chars ds v

same_test : (a b c d : List ℕ) → (a ≡ b → c ≡ d) → (c ≡ d → a ≡ b) → bytes_eq a b ≡ bytes_eq c d
same_test a b c d on back = elim (cases_Bool (bytes_eq a b)) [
  | inl so ↦ so ∙ sym ((bytes_decides c d).1 (on ((bytes_decides a b).0 so)))
  | inr other ↦ elim (cases_Bool (bytes_eq c d)) [
    | inl so ↦ absurd (grind (arith, other, (bytes_decides a b).1 (back ((bytes_decides c d).0 so))))
    | inr none ↦ other ∙ sym none
  ]
]

-- a test of two names, and of their bytes
text_test : (bs ds : List ℕ) → IsUtf8 bs → IsUtf8 ds → is_eq (slice_cmp nat_cmp (chars bs) (chars ds)) ≡ is_eq (slice_cmp nat_cmp bs ds)
text_test bs ds u v =
    is_eq-slice_cmp (chars bs) (chars ds) ∙ same_test (chars bs) (chars ds) bs ds (same_bytes bs ds u v) (ap chars) ∙ sym (is_eq-slice_cmp bs ds)

module _ {Y : Type 0} where
  -- what the entries have at a name
  pub found_text : (bs : List ℕ) (es : List (String Y × ℕ)) → IsUtf8 bs
      → get (from_entries {R = slice_cmp nat_cmp} (as_texts es)) (chars bs) ≡ lookup (is_at (λ k. slice_cmp nat_cmp bs (string_bytes k))) es
  found_text bs es u = get-from_entries nat_list_cmp_total (as_texts es) (chars bs) ∙ found es
    where
      found : (es : List (String Y × ℕ)) → find (slice_cmp nat_cmp) (chars bs) (as_texts es) ≡ lookup (is_at (λ k. slice_cmp nat_cmp bs (string_bytes k))) es
      found [] = refl
      found (e ∷ es) =
          ap (λ t. cond t (Some e.1) (find (slice_cmp nat_cmp) (chars bs) (as_texts es))) (text_test bs (string_bytes e.0) u (IsUtf8-string_bytes e.0))
          ∙ ap (cond (is_eq (slice_cmp nat_cmp bs (string_bytes e.0))) (Some e.1)) (found es)

-- tests that don't both hold
other_test : (t s : Bool) (a b : ℕ) (c : Option ℕ) → (t ≡ true → s ≡ true → ⊥) → cond t (Some a) (cond s (Some b) c) ≡ cond s (Some b) (cond t (Some a) c)
other_test true true a b c apart = absurd (apart refl refl)
other_test true false a b c apart = refl
other_test false true a b c apart = refl
other_test false false a b c apart = refl

-- the second of two tests of equal names
twice_test : (t : Bool) (a b : ℕ) (c : Option ℕ) → cond t (Some a) c ≡ cond t (Some a) (cond t (Some b) c)
twice_test true a b c = refl
twice_test false a b c = refl

is_equal : (o : Ordering) → is_eq o ≡ true → o ≡ Equal
is_equal Less e = cc
is_equal Equal e = refl
is_equal Greater e = cc

same_texts : (xs ys : List ℕ) → is_eq (slice_cmp nat_cmp xs ys) ≡ true → xs ≡ ys
same_texts xs ys e = slice_cmp-IsAntisymmetric nat_cmp-IsAntisymmetric xs ys (is_equal _ e)

module _ {Y : Type 0} where
  -- what is found at a name, where another was set
  abbrev SetAt : List ℕ → String Y → ℕ → List (String Y × ℕ) → List (String Y × ℕ) → Type 0
  SetAt q k v es new =
      find (slice_cmp nat_cmp) q (as_texts new)
      ≡ cond (is_eq (slice_cmp nat_cmp q (chars (string_bytes k)))) (Some v) (find (slice_cmp nat_cmp) q (as_texts es))

  -- by how the name compares to the first
  set_here : (q : List ℕ) (k : String Y) (v : ℕ) (e : String Y × ℕ) (es : List (String Y × ℕ)) (o : Ordering) → string_cmp k e.0 ≡ o
      → SetAt q k v es (insert_entry string_cmp es k v)
      → SetAt q k v (e ∷ es) (match_ordering o ((k, v) ∷ e ∷ es) ((e.0, v) ∷ es) (e ∷ insert_entry string_cmp es k v))
  set_here q k v e es Less cmp rest = refl
  set_here q k v e es Equal cmp rest =
      let same : string_bytes k ≡ string_bytes e.0 = slice_cmp-IsAntisymmetric nat_cmp-IsAntisymmetric (string_bytes k) (string_bytes e.0) cmp in
      let test : is_eq (slice_cmp nat_cmp q (chars (string_bytes e.0))) ≡ is_eq (slice_cmp nat_cmp q (chars (string_bytes k))) =
      ap (λ bs. is_eq (slice_cmp nat_cmp q (chars bs))) (sym same) in
      let found : Option ℕ = find (slice_cmp nat_cmp) q (as_texts es) in
      ap (λ t. cond t (Some v) found) test ∙ twice_test (is_eq (slice_cmp nat_cmp q (chars (string_bytes k)))) v e.1 found
      ∙ ap (λ t. cond (is_eq (slice_cmp nat_cmp q (chars (string_bytes k)))) (Some v) (cond t (Some e.1) found)) (sym test)
  set_here q k v e es Greater cmp rest =
      let t : Bool = is_eq (slice_cmp nat_cmp q (chars (string_bytes e.0))) in
      let s : Bool = is_eq (slice_cmp nat_cmp q (chars (string_bytes k))) in
      let apart : t ≡ true → s ≡ true → ⊥ = (λ here there.
      let names : chars (string_bytes k) ≡ chars (string_bytes e.0) =
      sym (same_texts q (chars (string_bytes k)) there) ∙ same_texts q (chars (string_bytes e.0)) here in
      let bytes : string_bytes k ≡ string_bytes e.0 = same_bytes (string_bytes k) (string_bytes e.0) (IsUtf8-string_bytes k) (IsUtf8-string_bytes e.0) names in
      let tie : is_eq (slice_cmp nat_cmp (string_bytes k) (string_bytes e.0)) ≡ true =
      is_eq-slice_cmp (string_bytes k) (string_bytes e.0) ∙ (bytes_decides (string_bytes k) (string_bytes e.0)).1 bytes in
      absurd (grind (arith, ap is_eq cmp, tie)))
      in
      ap (cond t (Some e.1)) rest ∙ other_test t s e.1 v (find (slice_cmp nat_cmp) q (as_texts es)) apart

  set_among : (q : List ℕ) (k : String Y) (v : ℕ) (es : List (String Y × ℕ)) → SetAt q k v es (insert_entry string_cmp es k v)
  set_among q k v [] = refl
  set_among q k v (e ∷ es) = set_here q k v e es (string_cmp k e.0) refl (set_among q k v es)

  -- an entry that is set makes the map in which the name is set
  pub set_text : (k : String Y) (v : ℕ) (es : List (String Y × ℕ))
      → from_entries {R = slice_cmp nat_cmp} (as_texts (insert_entry string_cmp es k v)) ≡ insert (from_entries (as_texts es)) (chars (string_bytes k)) v
  set_text k v es = same_map nat_list_cmp_total (slice_cmp-IsAntisymmetric nat_cmp-IsAntisymmetric) _ _ (λ q.
      get-from_entries nat_list_cmp_total (as_texts (insert_entry string_cmp es k v)) q ∙ set_among q k v es
      ∙ sym (get-insert nat_list_cmp_total (from_entries (as_texts es)) (chars (string_bytes k)) v q
      ∙ ap (cond (is_eq (slice_cmp nat_cmp q (chars (string_bytes k)))) (Some v)) (get-from_entries nat_list_cmp_total (as_texts es) q)))
