-- The laws of records: what each edit does to the links at a name, and that records determine trees in order.
use Rattle.std.proofs.Common.{◌≡◌, ◌≢◌, ℕ, ◌+◌, ◌-◌, Bool, true, false, cond, eqb, ◌&&◌, not, List, [], ◌∷◌, length, Option, None, Some, refl, sym, ap, ◌∙◌, arith, ◌⊎◌, inl, inr}
use Rattle.std.specs.Prelude.{is_some, is_none, option_map}
use Rattle.std.proofs.lemmas.Option.{same_Some}
use Rattle.std.proofs.lemmas.Bool.{cases_Bool}
use Rattle.std.proofs.lemmas.Bool.Decides.{eqb_tells}
use Rattle.lx_trees.specs.Siblings.{is_named, is_among, NoRepeats, first_of, last_of, next_in, previous_in, names_without, names_with, is_place, place_behind}
use Rattle.lx_trees.specs.Spots.{Spot, spot, parent_at, children_at}
use Rattle.lx_trees.proofs.Siblings.{last_from-apart, previous_from-apart, is_named_tells, names_without-absent_list, first_of-names_without, last_of-names_without, length-names_without, next_in-names_without, previous_from-names_without, is_none-previous_in, is_none-next_in, same_names, length-names_with, first_of-names_with, last_of-names_with, next_in-names_with, previous_in-names_with, next_in-names_with_self, previous_in-names_with_self}
use Rattle.lx_trees.proofs.Edits.{is_some-spot, option_map-agree, option_map-map, spot-mapped, spot-put_in, spot-take_out, spot-with_new, spot-without}
use Rattle.lx_trees.proofs.Lookups.{NoRepeats-children_of, is_among-children_of}
use Rattle.lx_trees.proofs.Order.{same_forest}
use Rattle.lx_trees.proofs.Within.{is_within-up}
use Rattle.lx_trees.proofs.Neighbours.{NoRepeats-siblings, parent_of-next, parent_of-previous, siblings-agree, siblings-put_in, siblings-put_in_self, siblings-take_out, siblings-take_out_self, siblings-with_new}
use Rattle.lx_trees.proofs.Attached.{cases_option}
use Rattle.lx_trees.specs.Trees.{Trees}
use Rattle.lx_trees.specs.NamedTrees.{has, without, mapped}
use Rattle.lx_trees.specs.Lookups.{parent_of, children_of, first_child, siblings, previous_of, next_of, is_within, IsOrdered}
use Rattle.lx_trees.specs.Edits.{with_new, take_out, put_in, CanPut, taken, placed}
use Rattle.lx_trees.specs.Records.{Record, linked, record_at, IsRecordOf, StandsFor, lone, unlinked, linked_in}
use Rattle.lx_trees.proofs.Spots as spots
use Rattle.lx_trees.specs.Records.{relabelled}

is_some-option_map : {X Y : Type 0} (f : X → Y) (o : Option X) → is_some (option_map f o) ≡ is_some o
is_some-option_map f None = refl
is_some-option_map f (Some x) = refl

-- the lists of one parent, without k
take_first : (xs : List ℕ) (k : ℕ) → NoRepeats xs → is_among k xs ≡ true
    → first_of (names_without k xs) ≡ cond (is_none (previous_in xs k)) (next_in xs k) (first_of xs)
take_first xs k u e = first_of-names_without k xs u ∙ ap (λ b. cond b (next_in xs k) (first_of xs)) (sym (is_none-previous_in xs k u e))

take_last : (xs : List ℕ) (k : ℕ) → NoRepeats xs → is_among k xs ≡ true
    → last_of (names_without k xs) ≡ cond (is_none (next_in xs k)) (previous_in xs k) (last_of xs)
take_last xs k u e = last_of-names_without k xs u ∙ ap (λ b. cond b (previous_in xs k) (last_of xs)) (sym (is_none-next_in xs k u e))

take_size : (xs : List ℕ) (k : ℕ) → NoRepeats xs → is_among k xs ≡ true → length (names_without k xs) ≡ length xs - 1
take_size xs k u e = grind (arith, length-names_without k xs u)

take_beside : (xs : List ℕ) (q k : ℕ) (prev next : Option ℕ) → NoRepeats xs → eqb q k ≡ false →
    ((is_among k xs ≡ true) × (prev ≡ previous_in xs k) × (next ≡ next_in xs k))
    ⊎ ((is_among k xs ≡ false) × (is_named prev q ≡ false) × (is_named next q ≡ false)) →
    (previous_in (names_without k xs) q ≡ cond (is_named next q) prev (previous_in xs q))
    × (next_in (names_without k xs) q ≡ cond (is_named prev q) next (next_in xs q))
take_beside xs q k prev next u d (inl c) =
    (rw (c.1, c.2) (previous_from-names_without None k q xs u d), rw (c.1, c.2) (next_in-names_without k q xs u d))
take_beside xs q k prev next u d (inr c) = (rw (c.2, names_without-absent_list k xs c.0), rw (c.1, names_without-absent_list k xs c.0))

take_below : (xs : List ℕ) (q k : ℕ) (parent prev next : Option ℕ) → NoRepeats xs →
    ((is_among k xs ≡ true) × (is_named parent q ≡ true) × (prev ≡ previous_in xs k) × (next ≡ next_in xs k))
    ⊎ ((is_among k xs ≡ false) × (is_named parent q ≡ false)) →
    (first_of (names_without k xs) ≡ cond (is_named parent q && is_none prev) next (first_of xs))
    × (last_of (names_without k xs) ≡ cond (is_named parent q && is_none next) prev (last_of xs))
    × (length (names_without k xs) ≡ cond (is_named parent q) (length xs - 1) (length xs))
take_below xs q k parent prev next u (inl c) =
    (rw (c.1, c.2, c.3) (take_first xs k u c.0), rw (c.1, c.2, c.3) (take_last xs k u c.0), rw c.1 (take_size xs k u c.0))
take_below xs q k parent prev next u (inr c) =
    (rw (c.1, names_without-absent_list k xs c.0), rw (c.1, names_without-absent_list k xs c.0), rw (c.1, names_without-absent_list k xs c.0))

cond-not : {X : Type 0} (b : Bool) (x y : X) → cond b x y ≡ cond (not b) y x
cond-not true x y = refl
cond-not false x y = refl

put_own : (before : Option ℕ) (k : ℕ) (xs : List ℕ) → is_place before xs ≡ true →
    (first_of (names_with before (k ∷ []) xs) ≡ cond (is_none (place_behind before xs)) (Some k) (first_of xs))
    × (last_of (names_with before (k ∷ []) xs) ≡ cond (is_none before) (Some k) (last_of xs)) × (length (names_with before (k ∷ []) xs) ≡ length xs + 1)
put_own before k xs place =
    (first_of-names_with before k xs place ∙ cond-not (is_some (place_behind before xs)) (first_of xs) (Some k), last_of-names_with before k xs place ∙ cond-not (is_some before) (last_of xs) (Some k), length-names_with before k xs)

not_before : (before : Option ℕ) (xs : List ℕ) (q : ℕ) → is_place before xs ≡ true → is_among q xs ≡ false → is_named before q ≡ false
not_before None xs q place absent = refl
not_before (Some c) xs q place absent = grind (arith, eqb_tells q c)

not_behind : (before : Option ℕ) (xs : List ℕ) (q : ℕ) → is_among q xs ≡ false → is_named (place_behind before xs) q ≡ false
not_behind None xs q absent = last_from-apart None xs q refl absent
not_behind (Some c) xs q absent = previous_from-apart None xs c q refl absent

module _ {A : Type 0} (name : A → ℕ) where
  not_beside_top : (f : Trees A) (q k : ℕ) → IsOrdered name f → parent_of name f q ≡ None
      → (is_named (previous_of name f k) q ≡ false) × (is_named (next_of name f k) q ≡ false)
  not_beside_top f q k h none =
      elim (cases_option (parent_of name f k)) [
        | inl top ↦ (rw top, rw top)
        | inr (r, up) ↦ (
          elim (is_named_tells (previous_of name f k)
              q) [ inl is ↦ absurd (grind (arith, none, parent_of-previous name f k q r h up is.1)) | inr other ↦ other.0 ],
          elim (is_named_tells (next_of name f k) q) [ inl is ↦ absurd (grind (arith, none, parent_of-next name f k q r h up is.1)) | inr other ↦ other.0 ],
        )
      ]

  not_beside_other : (f : Trees A) (q k p : ℕ) → IsOrdered name f → parent_of name f q ≡ Some p → parent_of name f k ≢ Some p
      → (is_named (previous_of name f k) q ≡ false) × (is_named (next_of name f k) q ≡ false)
  not_beside_other f q k p h some other =
      elim (cases_option (parent_of name f k)) [
        | inl top ↦ (rw top, rw top)
        | inr (r, up) ↦ (
          elim (is_named_tells (previous_of name f k)
              q) [ inl is ↦ absurd (other (up ∙ sym (parent_of-previous name f k q r h up is.1) ∙ some)) | inr other ↦ other.0 ],
          elim (is_named_tells (next_of name f k)
              q) [ inl is ↦ absurd (other (up ∙ sym (parent_of-next name f k q r h up is.1) ∙ some)) | inr other ↦ other.0 ],
        )
      ]

  -- k is a sibling of q, with the same siblings, or it isn't beside q
  beside : (f : Trees A) (q k : ℕ) → IsOrdered name f →
      ((is_among k (siblings name f q) ≡ true) × (previous_of name f k ≡ previous_in (siblings name f q) k)
      × (next_of name f k ≡ next_in (siblings name f q) k))
      ⊎ ((is_among k (siblings name f q) ≡ false) × (is_named (previous_of name f k) q ≡ false) × (is_named (next_of name f k) q ≡ false))
  beside f q k h =
      elim (cases_option (parent_of name f q)) [
        | inl none ↦ let apart = not_beside_top f q k h none in inr (rw none, apart.0, apart.1)
        | inr (p, up) ↦ elim (is_named_tells (parent_of name f k) p) [
          | inl child ↦ inl (rw up (is_among-children_of name f k p h ∙ child.0), rw (up, child.1), rw (up, child.1))
          | inr other ↦ let apart = not_beside_other f q k p h up other.1 in inr (rw up (is_among-children_of name f k p h ∙ other.0), apart.0, apart.1)
        ]
      ]

  -- k is a child of q, and its siblings are these, or it isn't
  below : (f : Trees A) (q k : ℕ) → IsOrdered name f →
      ((is_among k (children_of name f q) ≡ true) × (is_named (parent_of name f k) q ≡ true) × (previous_of name f k ≡ previous_in (children_of name f q) k)
      × (next_of name f k ≡ next_in (children_of name f q) k))
      ⊎ ((is_among k (children_of name f q) ≡ false) × (is_named (parent_of name f k) q ≡ false))
  below f q k h =
      elim (is_named_tells (parent_of name f k) q) [
        | inl child ↦ inl (is_among-children_of name f k q h ∙ child.0, child.0, rw child.1, rw child.1)
        | inr other ↦ inr (is_among-children_of name f k q h ∙ other.0, other.0)
      ]

  pub is_some-record_at : (f : Trees A) (q : ℕ) → is_some (record_at name f q) ≡ has name q f
  is_some-record_at f q = is_some-option_map (linked (siblings name f q) q) (spot name f q) ∙ is_some-spot name f q

  shows_from : (f : Trees A) (q : ℕ) (r : Record A) (s : Spot A) → spot name f q ≡ Some s → linked (siblings name f q) q s ≡ r → IsRecordOf name f q r
  shows_from f q r s at same =
      record {
        label = ap (option_map (λ (x : Spot A). x.label)) at ∙ ap (λ (x : Record A). Some x.label) same;
        parent = ap parent_at at ∙ ap (λ (x : Record A). x.parent) same;
        prev = ap (λ (x : Record A). x.prev) same;
        next = ap (λ (x : Record A). x.next) same;
        first = ap (λ o. first_of (children_at o)) at ∙ ap (λ (x : Record A). x.first) same;
        last = ap (λ o. last_of (children_at o)) at ∙ ap (λ (x : Record A). x.last) same;
        size = ap (λ o. length (children_at o)) at ∙ ap (λ (x : Record A). x.size) same;
      }

  pub IsRecordOf-record_at : (f : Trees A) (q : ℕ) (r : Record A) → record_at name f q ≡ Some r → IsRecordOf name f q r
  IsRecordOf-record_at f q r e =
      elim (cases_option (spot name f q)) [
        | inl none ↦ absurd (grind (arith, ap (option_map (linked (siblings name f q) q)) none, e))
        | inr (s, at) ↦ shows_from f q r s at (same_Some _ _ (sym (ap (option_map (linked (siblings name f q) q)) at) ∙ e))
      ]

  same_record : (l : A) (p p' a a' b b' c c' d d' : Option ℕ) (n n' : ℕ) → p ≡ p' → a ≡ a' → b ≡ b' → c ≡ c' → d ≡ d' → n ≡ n' →
      ◌≡◌ {A = Record A} (record { label = l; parent = p; prev = a; next = b; first = c; last = d; size = n })
      (record { label = l; parent = p'; prev = a'; next = b'; first = c'; last = d'; size = n' })
  same_record l p p' a a' b b' c c' d d' n n' e1 e2 e3 e4 e5 e6 = rw (e1, e2, e3, e4, e5, e6)

  pub record_at-with_new : (l : A) (f : Trees A) (q : ℕ) → IsOrdered name f → has name (name l) f ≡ false
      → record_at name (with_new name l f) q ≡ cond (eqb q (name l)) (Some (lone l)) (record_at name f q)
  record_at-with_new l f q h free =
      elim (eqb_tells q (name l)) [
        | inl own ↦
            rw (spot-with_new name l f q h free, own.0)
        | inr other ↦ rw (siblings-with_new name l f q h free, spot-with_new name l f q h free, other.0)
      ]

  take_links : (k : ℕ) (f : Trees A) (n : Record A) (q : ℕ) (s : Spot A) → IsOrdered name f → record_at name f k ≡ Some n → spot name f q ≡ Some s →
      linked (siblings name (take_out name k f) q) q (taken k q s) ≡ unlinked k n q (linked (siblings name f q) q s)
  take_links k f n q s h e at =
      let parts = IsRecordOf-record_at f k n e in
      let kids : children_of name f q ≡ s.children = ap children_at at in
      let unrepeated : NoRepeats s.children = rw kids at (NoRepeats-children_of name f q h) in
      let own = take_below s.children q k n.parent n.prev n.next unrepeated (rw (parts.prev, parts.next, parts.parent, kids) at (below f q k h)) in
      let side : (previous_in (siblings name (take_out name k f) q) q
      ≡ cond (eqb q k) None (cond (is_named n.next q) n.prev (previous_in (siblings name f q) q)))
      × (next_in (siblings name (take_out name k f) q) q ≡ cond (eqb q k) None (cond (is_named n.prev q) n.next (next_in (siblings name f q) q))) =
      elim (eqb_tells q k) [
        | inl is ↦ (rw (is.0, is.1, siblings-take_out_self name k f h), rw (is.0, is.1, siblings-take_out_self name k f h))
        | inr other ↦
            let lists =
            take_beside (siblings name f q) q k n.prev n.next (NoRepeats-siblings name f q h) other.0 (rw (parts.prev, parts.next) at (beside f q k h)) in
            (rw (siblings-take_out name k f q h other.0, other.0) lists.0, rw (siblings-take_out name k f q h other.0, other.0) lists.1)
      ] in
      same_record s.label _ _ _ _ _ _ _ _ _ _ _ _ refl side.0 side.1 own.0 own.1 own.2

  pub record_at-take_out : (k : ℕ) (f : Trees A) (n : Record A) (q : ℕ) → IsOrdered name f → record_at name f k ≡ Some n
      → record_at name (take_out name k f) q ≡ option_map (unlinked k n q) (record_at name f q)
  record_at-take_out k f n q h e =
      ap (option_map (linked (siblings name (take_out name k f) q) q)) (spot-take_out name k f q h)
      ∙ option_map-map (linked (siblings name (take_out name k f) q) q) (taken k q) (spot name f q)
      ∙ option_map-agree (λ s. linked (siblings name (take_out name k f) q) q (taken k q s)) (λ s. unlinked k n q (linked (siblings name f q) q s))
      (spot name f q) (λ s at. take_links k f n q s h e at)
      ∙ sym (option_map-map (unlinked k n q) (linked (siblings name f q) q) (spot name f q))

  put_links : (p : ℕ) (before : Option ℕ) (k : ℕ) (f : Trees A) (q : ℕ) (s : Spot A) → IsOrdered name f → CanPut name p k f
      → is_place before (children_of name f p) ≡ true → spot name f q ≡ Some s →
      linked (siblings name (put_in name p before k f) q) q (placed p before k q s)
      ≡ linked_in p (place_behind before (children_of name f p)) before k q (linked (siblings name f q) q s)
  put_links p before k f q s h c place at =
      let kids : children_of name f q ≡ s.children = ap children_at at in
      let stranger : is_among k (children_of name f p) ≡ false = is_among-children_of name f k p h ∙ ap (λ o. is_named o p) c.detached in
      let own : (first_of (cond (eqb q p) (names_with before (k ∷ []) s.children) s.children)
      ≡ cond (eqb q p && is_none (place_behind before (children_of name f p))) (Some k) (first_of s.children))
      × (last_of (cond (eqb q p) (names_with before (k ∷ []) s.children) s.children) ≡ cond (eqb q p && is_none before) (Some k) (last_of s.children))
      × (length (cond (eqb q p) (names_with before (k ∷ []) s.children) s.children) ≡ cond (eqb q p) (length s.children + 1) (length s.children)) =
      elim (eqb_tells q p) [
        | inl is ↦
            let here : children_of name f p ≡ s.children = ap (children_of name f) (sym is.1) ∙ kids in
            let lists = put_own before k s.children (rw here at place) in
            (rw (is.0, here) lists.0, rw is.0 lists.1, rw is.0 lists.2)
        | inr other ↦ (rw other.0, rw other.0, rw other.0)
      ] in
      let side : (previous_in (siblings name (put_in name p before k f) q) q
      ≡ cond (eqb q k) (place_behind before (children_of name f p)) (cond (is_named before q) (Some k) (previous_in (siblings name f q) q)))
      × (next_in (siblings name (put_in name p before k f) q) q
      ≡ cond (eqb q k) before (cond (is_named (place_behind before (children_of name f p)) q) (Some k) (next_in (siblings name f q) q))) =
      elim (eqb_tells q k) [
        | inl is ↦ (
          rw (is.0, is.1, siblings-put_in_self name p before k f h c) (previous_in-names_with_self before k (children_of name f p) stranger place),
          rw (is.0, is.1, siblings-put_in_self name p before k f h c) (next_in-names_with_self before k (children_of name f p) stranger place),
        )
        | inr other ↦ elim (is_named_tells (parent_of name f q) p) [
          | inl child ↦
              let here : siblings name f q ≡ children_of name f p = rw child.1 in (
                rw (siblings-put_in name p before k f q h c other.0, other.0, child.0, here) (previous_in-names_with before k q (children_of name f p) place
                    other.0),
                rw (siblings-put_in name p before k f q h c other.0, other.0, child.0, here) (next_in-names_with before k q (children_of name f p)
                    (NoRepeats-children_of name f p h) place other.0),
              )
          | inr apart ↦
              let absent : is_among q (children_of name f p) ≡ false = is_among-children_of name f q p h ∙ apart.0 in (
                rw (siblings-put_in name p before k f q h c other.0, other.0, apart.0, not_before before (children_of name f p) q place absent),
                rw (siblings-put_in name p before k f q h c other.0, other.0, apart.0, not_behind before (children_of name f p) q absent),
              )
        ]
      ] in
      same_record s.label _ _ _ _ _ _ _ _ _ _ _ _ refl side.0 side.1 own.0 own.1 own.2

  pub record_at-put_in : (p : ℕ) (before : Option ℕ) (k : ℕ) (f : Trees A) (q : ℕ) → IsOrdered name f → CanPut name p k f
      → is_place before (children_of name f p) ≡ true →
      record_at name (put_in name p before k f) q ≡ option_map (linked_in p (place_behind before (children_of name f p)) before k q) (record_at name f q)
  record_at-put_in p before k f q h c place =
      ap (option_map (linked (siblings name (put_in name p before k f) q) q)) (spot-put_in name p before k f q h c)
      ∙ option_map-map (linked (siblings name (put_in name p before k f) q) q) (placed p before k q) (spot name f q)
      ∙ option_map-agree (λ s. linked (siblings name (put_in name p before k f) q) q (placed p before k q s))
      (λ s. linked_in p (place_behind before (children_of name f p)) before k q (linked (siblings name f q) q s)) (spot name f q)
      (λ s at. put_links p before k f q s h c place at)
      ∙ sym (option_map-map (linked_in p (place_behind before (children_of name f p)) before k q) (linked (siblings name f q) q) (spot name f q))

  same_spot_parts : (o r : Option (Spot A)) → option_map (λ s. s.label) o ≡ option_map (λ s. s.label) r → parent_at o ≡ parent_at r
      → children_at o ≡ children_at r → o ≡ r
  same_spot_parts None None e p c = refl
  same_spot_parts None (Some s) e p c = absurd (grind arith)
  same_spot_parts (Some s) None e p c = absurd (grind arith)
  same_spot_parts (Some s) (Some t) e p c =
      let label : s.label ≡ t.label = same_Some s.label t.label e in
      rw (label, p, c)

  no_spot : (f : Trees A) (q : ℕ) → record_at name f q ≡ None → spot name f q ≡ None
  no_spot f q none = grind (arith, ap is_some none, is_some-record_at f q, is_some-spot name f q)

  same_links : (f g : Trees A) (q : ℕ) → record_at name f q ≡ record_at name g q
      → (option_map (λ (s : Spot A). s.label) (spot name f q) ≡ option_map (λ (s : Spot A). s.label) (spot name g q))
      × (parent_of name f q ≡ parent_of name g q) × (next_of name f q ≡ next_of name g q) × (first_child name f q ≡ first_child name g q)
  same_links f g q e =
      elim (cases_option (record_at name f q)) [
        | inl none ↦
            let x : spot name f q ≡ None = no_spot f q none in
            let y : spot name g q ≡ None = no_spot g q (sym e ∙ none) in
            (rw (x, y), rw (x, y), rw (x, y), rw (x, y))
        | inr (r, some) ↦
            let x = IsRecordOf-record_at f q r some in
            let y = IsRecordOf-record_at g q r (sym e ∙ some) in
            (x.label ∙ sym y.label, x.parent ∙ sym y.parent, x.next ∙ sym y.next, x.first ∙ sym y.first)
      ]

  same_spots : (f g : Trees A) (q : ℕ) → IsOrdered name f → IsOrdered name g → ((q : ℕ) → record_at name f q ≡ record_at name g q)
      → spot name f q ≡ spot name g q
  same_spots f g q h i same =
      let here = same_links f g q (same q) in
      same_spot_parts (spot name f q) (spot name g q) here.0 here.1
      (same_names (children_of name f q) (children_of name g q) (NoRepeats-children_of name f q h) (NoRepeats-children_of name g q i) here.3
      (λ x among.
      let up : parent_of name f x ≡ Some q = grind (arith, among, is_among-children_of name f x q h, is_named_tells (parent_of name f x) q) in
      let there = same_links f g x (same x) in
      let up' : parent_of name g x ≡ Some q = sym there.1 ∙ up in
      rw (up, up') at there.2))

  -- forests in order with equal records are equal
  pub same_from_records : (f g : Trees A) → IsOrdered name f → IsOrdered name g → ((q : ℕ) → record_at name f q ≡ record_at name g q) → f ≡ g
  same_from_records f g h i same = same_forest name f g h i (λ q. same_spots f g q h i same)

  -- a map stands for one forest
  pub StandsFor-unique : (get : ℕ → Option (Record A)) (f g : Trees A) → StandsFor name get f → StandsFor name get g → f ≡ g
  StandsFor-unique get f g s t = same_from_records f g s.in_order t.in_order (λ q. sym (s.same q) ∙ t.same q)

  -- labels changed, under the same names
  pub siblings-mapped : (g : A → A) → ((a : A) → name (g a) ≡ name a) → (f : Trees A) (q : ℕ) → siblings name (mapped g f) q ≡ siblings name f q
  siblings-mapped g keeps f q =
      siblings-agree name f (mapped g f) q (grind (arith, spot-mapped name g keeps f q)) (λ p up. grind (arith, spot-mapped name g keeps f p))

  pub record_at-mapped : (g : A → A) → ((a : A) → name (g a) ≡ name a) → (f : Trees A) (q : ℕ)
      → record_at name (mapped g f) q ≡ option_map (relabelled g) (record_at name f q)
  record_at-mapped g keeps f q =
      rw (siblings-mapped g keeps f q, spot-mapped name g keeps f q)
      (option_map-map (linked (siblings name f q) q) (spots.relabelled g) (spot name f q)
      ∙ sym (option_map-map (relabelled g) (linked (siblings name f q) q) (spot name f q)))

  -- the tree of k, which is below none, is gone
  pub siblings-without : (k : ℕ) (f : Trees A) (q : ℕ) → IsOrdered name f → parent_of name f k ≡ None → is_within name f k q ≡ false
      → siblings name (without name k f) q ≡ siblings name f q
  siblings-without k f q h top outside =
      siblings-agree name f (without name k f) q (ap parent_at (spot-without name k f q h top) ∙ rw outside)
      (λ p up. ap children_at (spot-without name k f p h top) ∙ rw (sym (is_within-up name f k q p h up (λ e. not_top q k p e top up)) ∙ outside))
    where
      not_top : (q k p : ℕ) → q ≡ k → parent_of name f k ≡ None → parent_of name f q ≡ Some p → ⊥
      not_top q k p e top up = grind (arith, e, top, up)

  pub record_at-without : (k : ℕ) (f : Trees A) (q : ℕ) → IsOrdered name f → parent_of name f k ≡ None
      → record_at name (without name k f) q ≡ cond (is_within name f k q) None (record_at name f q)
  record_at-without k f q h top =
      elim (cases_Bool (is_within name f k q)) [
        | inl inside ↦ rw (spot-without name k f q h top, inside)
        | inr outside ↦ rw (siblings-without k f q h top outside, spot-without name k f q h top, outside)
      ]
