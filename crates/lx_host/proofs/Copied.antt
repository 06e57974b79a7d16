-- Entries that are inserted one after another, of which no two have the same key, are all entries in their order.
use Rattle.std.proofs.Common.{◌≡◌, ◌∙◌, ℕ, false, cond, eqb, ◌||◌, List, [], ◌∷◌, ◌++◌, nat_eq, option_map, refl, sym, ap, subst, append-nil, append_assoc, arith}
use Rattle.std.specs.List.{IsDistinct, AllByRecursion}
use Rattle.std.specs.Map.{keys_of}
use Rattle.std.proofs.lemmas.Bool.Decides.{eqb_tells}
use Rattle.std.proofs.lemmas.Map.Keys.{IsDistinct-head, IsDistinct-tail}
use Rattle.std.specs.HashMap.{HashMap}
use Rattle.std.specs.Map.{lookup}
use Rattle.indexmap.specs.IndexMap.{insert_entry, insert_all}
use Rattle.lx_trees.specs.Records.{StandsFor}
use Rattle.lx_host.specs.Hosts.{id_of}
use Rattle.lx_host.specs.Stands.{Stands, Standing, hosts_in, hosts_in-stands, hosts_in-is, record_of}
use Rattle.lx_host.specs.declared.linked.Linked.{Linked}

module _ {X : Type 0} where
  -- none of these entries has the key
  abbrev pub IsFree : ℕ → List (ℕ × X) → Type 0
  IsFree k [] = Unit {0}
  IsFree k (e ∷ es) = (eqb k e.0 ≡ false) × IsFree k es

  -- a new key goes last
  pub insert_new : (k : ℕ) (v : X) (es : List (ℕ × X)) → IsFree k es → insert_entry eqb es k v ≡ es ++ (k, v) ∷ []
  insert_new k v [] free = refl
  insert_new k v (e ∷ es) free = ap (λ b. cond b ((e.0, v) ∷ es) (e ∷ insert_entry eqb es k v)) free.0 ∙ ap (λ l. e ∷ l) (insert_new k v es free.1)

  free_behind : (k : ℕ) (e : ℕ × X) (es : List (ℕ × X)) → IsFree k es → eqb k e.0 ≡ false → IsFree k (es ++ e ∷ [])
  free_behind k e [] free other = (other, tt)
  free_behind k e (f ∷ fs) free other = (free.0, free_behind k e fs free.1 other)

  -- each of these entries has a key that none of the others has
  abbrev pub AreFree : List (ℕ × X) → List (ℕ × X) → Type 0
  AreFree [] es = Unit {0}
  AreFree (x ∷ xs) es = IsFree x.0 es × AreFree xs es

  other_keys : (k : ℕ) (xs : List (ℕ × X)) (e : ℕ × X) (es : List (ℕ × X)) → e.0 ≡ k → AllByRecursion (λ y. eqb k y ≡ false) (keys_of xs) → AreFree xs es
      → AreFree xs (es ++ e ∷ [])
  other_keys k [] e es is apart free = tt
  other_keys k (x ∷ xs) e es is apart free =
      (free_behind x.0 e es free.0 (grind (arith, apart.0, is, eqb_tells k x.0, eqb_tells x.0 e.0)), other_keys k xs e es is apart.1 free.1)

  pub inserted : (xs es : List (ℕ × X)) → IsDistinct eqb (keys_of xs) → AreFree xs es → insert_all eqb es xs ≡ es ++ xs
  inserted [] es distinct free = sym (append-nil es)
  inserted (x ∷ xs) es distinct free =
      ap (λ l. insert_all eqb l xs) (insert_new x.0 x.1 es free.0)
      ∙ inserted xs (es ++ x ∷ []) (IsDistinct-tail eqb x.0 (keys_of xs) distinct)
      (other_keys x.0 xs x es refl (IsDistinct-head eqb x.0 (keys_of xs) distinct) free.1)
      ∙ append_assoc es (x ∷ []) xs

  none_free : (xs : List (ℕ × X)) → AreFree xs []
  none_free [] = tt
  none_free (x ∷ xs) = (tt, none_free xs)

  pub all_inserted : (xs : List (ℕ × X)) → IsDistinct eqb (keys_of xs) → insert_all eqb [] xs ≡ xs
  all_inserted xs distinct = inserted xs [] distinct (none_free xs)

-- a table with equal entries stands for the same hosts
pub stands_again : {S : Type 0} (old new : HashMap ℕ Linked S) (a : Standing old) → new.entries ≡ old.entries → Stands new (hosts_in old a)
stands_again old new a e =
    subst (λ es. StandsFor id_of (λ q. option_map (record_of q) (lookup (nat_eq q) es)) (hosts_in old a)) (sym e) (hosts_in-stands old a)

pub same_hosts : {S : Type 0} (old new : HashMap ℕ Linked S) (a : Standing old) (b : Standing new) → new.entries ≡ old.entries → hosts_in new b ≡ hosts_in old a
same_hosts old new a b e = hosts_in-is new b (hosts_in old a) (stands_again old new a e)
