-- The loops of the grammar, an item and a member at a time. How many turns are allowed plays no part, since there are as many
-- as there are tokens.
use Rattle.std.proofs.Common.{◌≡◌, ℕ, zero, suc, ◌<◌, ◌≤◌, List, [], ◌∷◌, length, Option, Some, None, option_map, option_and_then, refl, sym, ap, ◌∙◌, arith}
use Rattle.json.specs.Token.{Token}
use Rattle.json.specs.Json as json
use Rattle.json.specs.Json.{Parse, parse_map, after_end_array, read_key, items_step, members_step, items, members}
use Rattle.json.proofs.Grammar.{left, Takes, skip_value-shorter, read_key-shorter, items_end, items_fail, members_end, members_no_key}
use Rattle.serde_json.specs.Data.{Data, no_items, item, Members, put}
use Rattle.serde_json.specs.Read.{of_json, of_items, of_members, converted}
use Rattle.lx_value.specs.Ahead.{value_ahead, items_from, members_from}

-- ---- how many turns are allowed

and_then_alike : {A B : Type 0} (o : Option A) (f g : A → Option B) → ((a : A) → o ≡ Some a → f a ≡ g a) → option_and_then f o ≡ option_and_then g o
and_then_alike None f g alike = refl
and_then_alike (Some a) f g alike = alike a refl

none_of_none : {A : Type 0} (o : Option (A × List Token)) → ((r : List Token) → left o ≡ Some r → length r < 0) → o ≡ None
none_of_none None below = refl
none_of_none (Some q) below = let never = below q.1 refl in absurd (omega (arith, never))

module _ (p : Parse json.Json) (takes : Takes p) where
  item_alike : (n m : ℕ) (ts : List Token) (o : Option (List Token)) → ((r : List Token) → length r < length ts → items p n r ≡ items p m r)
      → items_step p (items p n) ts o ≡ items_step p (items p m) ts o
  item_alike n m ts (Some r) alike = refl
  item_alike n m ts None alike = and_then_alike (p ts) _ _ (λ q e. ap (parse_map (json.item q.0)) (alike q.1 (takes ts q.1 (ap left e))))

  items_alike : (n m : ℕ) (ts : List Token) → length ts ≤ n → length ts ≤ m → items p n ts ≡ items p m ts
  unfolding items
  items_alike n m [] le le' =
      let none = none_of_none (p []) (takes []) in
      items_fail p n [] refl none ∙ sym (items_fail p m [] refl none)
  items_alike zero m (t ∷ ts) le le' = absurd (omega (arith, le))
  items_alike (suc n) zero (t ∷ ts) le le' = absurd (omega (arith, le'))
  items_alike (suc n) (suc m) (t ∷ ts) le le' =
      item_alike n m (t ∷ ts) (after_end_array (t ∷ ts)) (λ r less. items_alike n m r (omega (arith, less, le)) (omega (arith, less, le')))

  member_alike : (n m : ℕ) (ts : List Token) (k : Option (List ℕ)) (s : List Token) → length s < length ts
      → ((r : List Token) → length r < length ts → members p n r ≡ members p m r) → members_step p (members p n) k s ≡ members_step p (members p m) k s
  member_alike n m ts None s less alike = refl
  member_alike n m ts (Some k) s less alike =
      and_then_alike (p s) _ _ (λ q e. let shorter = takes s q.1 (ap left e) in ap (parse_map (json.member k q.0)) (alike q.1 (omega (arith, shorter, less))))

  members_alike : (n m : ℕ) (ts : List Token) → length ts ≤ n → length ts ≤ m → members p n ts ≡ members p m ts
  unfolding members
  members_alike n m [] le le' = members_no_key p n [] refl ∙ sym (members_no_key p m [] refl)
  members_alike zero m (t ∷ ts) le le' = absurd (omega (arith, le))
  members_alike (suc n) zero (t ∷ ts) le le' = absurd (omega (arith, le'))
  members_alike (suc n) (suc m) (t ∷ ts) le le' =
      and_then_alike (read_key (t ∷ ts)) _ _
      (λ q e. member_alike n m (t ∷ ts) q.0 q.1 (read_key-shorter (t ∷ ts) q.0 q.1 e)
      (λ r less. members_alike n m r (omega (arith, less, le)) (omega (arith, less, le'))))

-- ---- as data

pub passed : {A B : Type 0} (f : A → B) (r : List Token) (o : Option A) → option_map (λ b. (b, r)) (option_map f o) ≡ parse_map f (option_map (λ a. (a, r)) o)
passed f r None = refl
passed f r (Some a) = refl

-- what follows a value goes on after it, if it is one
onward : {B : Type 0} (next : Data → List Token → Option B) (r : List Token) (o : Option Data)
    → option_and_then (λ d. next d r) o ≡ option_and_then (λ (q : Data × List Token). next q.0 q.1) (option_map (λ d. (d, r)) o)
onward next r None = refl
onward next r (Some d) = refl

item_kept : (j : json.Json) (o : Option Data) → of_json j ≡ o → (x : Option (json.Items × List Token))
    → converted of_items (parse_map (json.item j) x) ≡ option_and_then (λ d. parse_map (item d) (converted of_items x)) o
item_kept j None e None = refl
item_kept j None e (Some y) = rw e
item_kept j (Some d) e None = refl
item_kept j (Some d) e (Some y) = rw e (passed (item d) y.1 (of_items y.0))

item_converted : (o : Option (json.Json × List Token)) (more rest : Parse json.Items) → ((q : json.Json × List Token) → o ≡ Some q → more q.1 ≡ rest q.1)
    → converted of_items (option_and_then (λ q. parse_map (json.item q.0) (more q.1)) o)
    ≡ option_and_then (λ q. parse_map (item q.0) (converted of_items (rest q.1))) (converted of_json o)
item_converted None more rest alike = refl
item_converted (Some q) more rest alike =
    ap (λ x. converted of_items (parse_map (json.item q.0) x)) (alike q refl) ∙ item_kept q.0 (of_json q.0) refl (rest q.1)
    ∙ onward (λ d r. parse_map (item d) (converted of_items (rest r))) q.1 (of_json q.0)

member_kept : (k : List ℕ) (found : Members) (j : json.Json) (o : Option Data) → of_json j ≡ o → (x : Option (json.Members × List Token))
    → converted (λ ms. of_members ms found) (parse_map (json.member k j) x) ≡ option_and_then (λ d. converted (λ ms. of_members ms (put k d found)) x) o
member_kept k found j None e None = refl
member_kept k found j None e (Some y) = rw e
member_kept k found j (Some d) e None = refl
member_kept k found j (Some d) e (Some y) = rw e

member_converted : (k : List ℕ) (found : Members) (o : Option (json.Json × List Token)) (more rest : Parse json.Members)
    → ((q : json.Json × List Token) → o ≡ Some q → more q.1 ≡ rest q.1)
    → converted (λ ms. of_members ms found) (option_and_then (λ q. parse_map (json.member k q.0) (more q.1)) o)
    ≡ option_and_then (λ q. converted (λ ms. of_members ms (put k q.0 found)) (rest q.1)) (converted of_json o)
member_converted k found None more rest alike = refl
member_converted k found (Some q) more rest alike =
    ap (λ x. converted (λ ms. of_members ms found) (parse_map (json.member k q.0) x)) (alike q refl) ∙ member_kept k found q.0 (of_json q.0) refl (rest q.1)
    ∙ onward (λ d r. converted (λ ms. of_members ms (put k d found)) (rest r)) q.1 (of_json q.0)

-- ---- a turn

module _ (depth : ℕ) where
  pub items_over : (ts r : List Token) → after_end_array ts ≡ Some r → items_from depth ts ≡ Some (no_items, r)
  items_over ts r closed = ap (converted of_items) (items_end (json.value depth) (length ts) ts r (omega arith) closed)

  item_turn : (ts : List Token) → after_end_array ts ≡ None
      → items (json.value depth) (length ts) ts
      ≡ option_and_then (λ q. parse_map (json.item q.0) (items (json.value depth) (length ts) q.1)) (json.value depth ts)
  unfolding items
  item_turn ts going =
      items_alike (json.value depth) (skip_value-shorter depth) (length ts) (suc (length ts)) ts (omega arith) (omega arith)
      ∙ ap (items_step (json.value depth) (items (json.value depth) (length ts)) ts) going

  items_go : (ts : List Token) → after_end_array ts ≡ None
      → items_from depth ts ≡ option_and_then (λ q. parse_map (item q.0) (items_from depth q.1)) (value_ahead depth ts)
  items_go ts going =
      ap (converted of_items) (item_turn ts going)
      ∙ item_converted (json.value depth ts) (items (json.value depth) (length ts)) (λ r. items (json.value depth) (length r) r)
      (λ q e. let less = skip_value-shorter depth ts q.1 (ap left e) in items_alike (json.value depth) (skip_value-shorter depth) (length ts) (length q.1) q.1
      (omega (arith, less)) (omega arith))

  pub item_read : (ts r : List Token) (d : Data) → after_end_array ts ≡ None → value_ahead depth ts ≡ Some (d, r)
      → items_from depth ts ≡ parse_map (item d) (items_from depth r)
  item_read ts r d going is = items_go ts going ∙ ap (option_and_then (λ (q : Data × List Token). parse_map (item q.0) (items_from depth q.1))) is

  pub item_refused : (ts : List Token) → after_end_array ts ≡ None → value_ahead depth ts ≡ None → items_from depth ts ≡ None
  item_refused ts going none = items_go ts going ∙ ap (option_and_then (λ (q : Data × List Token). parse_map (item q.0) (items_from depth q.1))) none

  module _ (found : Members) where
    pub members_over : (ts r : List Token) → read_key ts ≡ Some (None, r) → members_from depth found ts ≡ Some (found, r)
    members_over ts r closed = ap (converted (λ ms. of_members ms found)) (members_end (json.value depth) (length ts) ts r (omega arith) closed)

    pub members_refused : (ts : List Token) → read_key ts ≡ None → members_from depth found ts ≡ None
    members_refused ts none = ap (converted (λ ms. of_members ms found)) (members_no_key (json.value depth) (length ts) ts none)

    member_turn : (k : List ℕ) (ts s : List Token) → read_key ts ≡ Some (Some k, s)
        → members (json.value depth) (length ts) ts
        ≡ option_and_then (λ q. parse_map (json.member k q.0) (members (json.value depth) (length ts) q.1)) (json.value depth s)
    unfolding members
    member_turn k ts s named =
        members_alike (json.value depth) (skip_value-shorter depth) (length ts) (suc (length ts)) ts (omega arith) (omega arith)
        ∙ ap (option_and_then (λ q. members_step (json.value depth) (members (json.value depth) (length ts)) q.0 q.1)) named

    members_go : (k : List ℕ) (ts s : List Token) → read_key ts ≡ Some (Some k, s)
        → members_from depth found ts ≡ option_and_then (λ q. members_from depth (put k q.0 found) q.1) (value_ahead depth s)
    members_go k ts s named =
        ap (converted (λ ms. of_members ms found)) (member_turn k ts s named)
        ∙ member_converted k found (json.value depth s) (members (json.value depth) (length ts)) (λ r. members (json.value depth) (length r) r)
        (λ q e.
        let less = skip_value-shorter depth s q.1 (ap left e) in
        let key = read_key-shorter ts (Some k) s named in
        members_alike (json.value depth) (skip_value-shorter depth) (length ts) (length q.1) q.1 (omega (arith, less, key)) (omega arith))

    pub member_read : (k : List ℕ) (ts s r : List Token) (d : Data) → read_key ts ≡ Some (Some k, s) → value_ahead depth s ≡ Some (d, r)
        → members_from depth found ts ≡ members_from depth (put k d found) r
    member_read k ts s r d named is = members_go k ts s named ∙ ap (option_and_then (λ (q : Data × List Token). members_from depth (put k q.0 found) q.1)) is

    pub member_refused : (k : List ℕ) (ts s : List Token) → read_key ts ≡ Some (Some k, s) → value_ahead depth s ≡ None → members_from depth found ts ≡ None
    member_refused k ts s named none = members_go k ts s named ∙ ap (option_and_then (λ (q : Data × List Token). members_from depth (put k q.0 found) q.1)) none
