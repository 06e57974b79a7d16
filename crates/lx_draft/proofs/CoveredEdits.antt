-- What each edit of a forest leaves as it was: all but the nodes that it marks.
use Rattle.std.proofs.Common.{◌≡◌, ◌∙◌, ℕ, Bool, true, false, cond, ltb, eqb, ◌||◌, ◌&&◌, not, List, [], ◌∷◌, Option, None, Some, refl, sym, ap, arith, inl, inr, ◌⊎◌}
use Rattle.std.specs.Prelude.{is_some, option_map, slice_get}
use Rattle.std.proofs.lemmas.Bool.{cases_Bool}
use Rattle.std.proofs.lemmas.Bool.Decides.{eqb_tells}
use Rattle.lx_trees.specs.Siblings.{is_among, is_named, is_place, place_behind, names_without}
use Rattle.lx_trees.specs.Spots.{Spot, children_at}
use Rattle.lx_node.specs.Same.{same_fields}
use Rattle.lx_node.specs.declared.fields.Fields.{Fields}
use Rattle.lx_node.proofs.Same.{same_fields-Decides}
use Rattle.lx_trees.proofs.Siblings.{names_without-absent_list}
use Rattle.lx_trees.proofs.Positions.{is_among-slice_get}
use Rattle.lx_forest.specs.Forest.{Forest, Label}
use Rattle.lx_forest.specs.Lookups.{count, has, spot, label_of, fields_of, parent_of, children_of, previous_of, next_of, IsForest}
use Rattle.lx_forest.specs.Edits.{with_new, with_fields, take_out, put_in, CanPut, reset, taken, placed}
use Rattle.lx_forest.specs.Records.{Record, record_at, lone, refielded, unlinked, linked_in}
use Rattle.lx_forest.proofs.Edits.{is_some-spot, spot-with_new, spot-with_fields, spot-take_out, spot-put_in, count-with_new, count-take_out, count-put_in}
use Rattle.lx_forest.proofs.Records.{is_some-record_at, IsRecordOf-record_at, record_at-with_new, record_at-with_fields, record_at-take_out, record_at-put_in}
use Rattle.lx_forest.proofs.Order.{IsForest-with_new, IsForest-put_in}
use Rattle.lx_forest.proofs.Lookups.{is_among-children_of, parent_of-with_new, parent_of-with_fields, parent_of-take_out, parent_of-put_in}
use Rattle.lx_forest.proofs.Walks.{cases_option}
use Rattle.lx_draft.specs.Marking.{with_key, near}
use Rattle.lx_draft.specs.Steps.{differ}
use Rattle.lx_draft.proofs.Covered.{IsTold, noted_up}

-- ---- unchanged

-- a function that leaves what is there leaves all
unchanged : {X : Type 0} (f : X → X) (o : Option X) → ((x : X) → o ≡ Some x → f x ≡ x) → option_map f o ≡ o
unchanged f None same = refl
unchanged f (Some x) same = ap (λ y. Some y) (same x refl)

absent : {X : Type 0} (o : Option X) → is_some o ≡ false → o ≡ None
absent None e = refl
absent (Some x) e = absurd (cc)

-- a key that is neither there before nor after
absent_still : (f g : Forest) (q : ℕ) → has q f ≡ false → has q g ≡ false → (spot g q ≡ spot f q) × (record_at g q ≡ record_at f q)
absent_still f g q before now = (
  absent (spot g q) (is_some-spot g q ∙ now) ∙ sym (absent (spot f q) (is_some-spot f q ∙ before)),
  absent (record_at g q) (is_some-record_at g q ∙ now) ∙ sym (absent (record_at f q) (is_some-record_at f q ∙ before)),
)

same_count : (f g : Forest) (q : ℕ) → count q g ≡ count q f → has q g ≡ has q f
same_count f g q e = ap (λ n. ltb 0 n) e

there : (f : Forest) (k : ℕ) → has k f ≡ true → (r : Record) × (record_at f k ≡ Some r)
there f k e =
    elim (cases_option (record_at f k)) [
      | inl none ↦ absurd (grind (arith, e, none, is_some-record_at f k))
      | inr (r, here) ↦ (r, here)
    ]

-- ---- new

pub told_new : (l : Label) (f : Forest) → IsForest f → has l.key f ≡ false → IsTold f (with_new l f) (with_new l f) (l.key ∷ [])
told_new l f h free = record {
  seen = λ q. elim (eqb_tells q l.key) [
    | inl own ↦ inr (grind (arith, own.0, own.1, count-with_new q l f, eqb_tells l.key q))
    | inr other ↦ inl (rw (spot-with_new l f q h free, other.0), record_at-with_new l f q h free ∙ ap (λ b. cond b (Some (lone l)) (record_at f q)) other.0)
  ];
  above = λ m up. noted_up (with_new l f) (l.key ∷ []) m (IsForest-with_new l f h free)
      (λ q p e above. inl (up q p e (sym (parent_of-with_new l f q h free) ∙ above)));
}

-- ---- set

same_spot : (k : ℕ) (fields : Fields) (q : ℕ) (s : Spot Label) → cond (eqb q k) fields s.label.fields ≡ s.label.fields → reset k fields q s ≡ s
same_spot k fields q s e =
    ap (λ x. let t : Spot Label = record { label = record { key = s.label.key; kind = s.label.kind; fields = x }; parent = s.parent; children = s.children } in
    t) e

same_record : (k : ℕ) (fields : Fields) (q : ℕ) (r : Record) → cond (eqb q k) fields r.label.fields ≡ r.label.fields → refielded k fields q r ≡ r
same_record k fields q r e =
    ap (λ x. let s : Record = record r { label = record { key = r.label.key; kind = r.label.kind; fields = x } } in s) e

-- a node whose fields stay is as it was
same_fielded : (k : ℕ) (fields : Fields) (f : Forest) (q : ℕ) → ((l : Label) → label_of f q ≡ Some l → cond (eqb q k) fields l.fields ≡ l.fields)
    → (spot (with_fields k fields f) q ≡ spot f q) × (record_at (with_fields k fields f) q ≡ record_at f q)
same_fielded k fields f q same = (
  spot-with_fields k fields f q ∙ unchanged (reset k fields q) (spot f q) (λ s at. same_spot k fields q s
      (same s.label (ap (option_map (λ (t : Spot Label). t.label)) at))),
  record_at-with_fields k fields f q ∙ unchanged (refielded k fields q) (record_at f q) (λ r at. same_record k fields q r
      (same r.label ((IsRecordOf-record_at f q r at).label))),
)

other_fields : (q k : ℕ) (fields : Fields) (l : Label) → eqb q k ≡ false → cond (eqb q k) fields l.fields ≡ l.fields
other_fields q k fields l e = ap (λ b. cond b fields l.fields) e

-- fields that differ
pub told_set : (k : ℕ) (fields : Fields) (f : Forest) → IsForest f → has k f ≡ true → IsTold f (with_fields k fields f) f (k ∷ [])
told_set k fields f h known = record {
  seen = λ q. elim (eqb_tells q k) [
    | inl own ↦ inr (grind (arith, known, own.1, eqb_tells k q))
    | inr other ↦ inl (same_fielded k fields f q (λ l at. other_fields q k fields l other.0))
  ];
  above = λ m up q p e above. noted_up f (k ∷ []) m h (λ x y was over. inl (up x y was over)) q p e (sym (parent_of-with_fields k fields f q) ∙ above);
}

equal_fields : (a b : Fields) → not (same_fields a b) ≡ false → b ≡ a
equal_fields a b e = sym ((same_fields-Decides a b).0 (grind (arith, e)))

equal_at : (f : Forest) (k : ℕ) (fields : Fields) (q : ℕ) (l : Label) → differ (fields_of f k) fields ≡ false → label_of f q ≡ Some l → q ≡ k
    → fields ≡ l.fields
equal_at f k fields q l none at own =
    let found : fields_of f k ≡ Some l.fields = ap (fields_of f) (sym own) ∙ ap (option_map (λ (x : Label). x.fields)) at in
    equal_fields l.fields fields (sym (ap (λ o. differ o fields) found) ∙ none)

-- fields that are those that were there
pub told_equal : (k : ℕ) (fields : Fields) (f : Forest) → differ (fields_of f k) fields ≡ false → IsTold f (with_fields k fields f) f []
told_equal k fields f none = record {
  seen = λ q. inl (same_fielded k fields f q (λ l at. elim (eqb_tells q k) [
    | inl own ↦ ap (λ b. cond b fields l.fields) own.0 ∙ equal_at f k fields q l none at own.1
    | inr other ↦ other_fields q k fields l other.0
  ]));
  above = λ m up q p e above. up q p e (sym (parent_of-with_fields k fields f q) ∙ above);
}

-- ---- a node and its neighbours

is_among-with_key : (o : Option ℕ) (ks : List ℕ) (q : ℕ) → is_among q (with_key o ks) ≡ (is_named o q || is_among q ks)
is_among-with_key None ks q = refl
is_among-with_key (Some k) ks q = grind (arith, eqb_tells q k, eqb_tells k q)

-- q isn't k, nor k's parent, nor beside k
record IsApart (f : Forest) (k q : ℕ) : Type 0 where
  pub own : eqb q k ≡ false
  pub parent : is_named (parent_of f k) q ≡ false
  pub previous : is_named (previous_of f k) q ≡ false
  pub next : is_named (next_of f k) q ≡ false

near_tells : (f : Forest) (k q : ℕ)
    → is_among q (near f k) ≡ (eqb k q || (is_named (parent_of f k) q || (is_named (previous_of f k) q || (is_named (next_of f k) q || false))))
near_tells f k q =
    ap (λ b. eqb k q || b)
    (is_among-with_key (parent_of f k) (with_key (previous_of f k) (with_key (next_of f k) [])) q
    ∙ ap (λ b. is_named (parent_of f k) q || b)
    (is_among-with_key (previous_of f k) (with_key (next_of f k) []) q
    ∙ ap (λ b. is_named (previous_of f k) q || b) (is_among-with_key (next_of f k) [] q)))

first_false : (a b : Bool) → (a || b) ≡ false → a ≡ false
first_false false b e = refl
first_false true b e = absurd (cc)

then_false : (a b : Bool) → (a || b) ≡ false → b ≡ false
then_false false b e = e
then_false true b e = absurd (cc)

apart_from : (f : Forest) (k q : ℕ) → is_among q (near f k) ≡ false → IsApart f k q
apart_from f k q e =
    let parent : Bool = is_named (parent_of f k) q in
    let previous : Bool = is_named (previous_of f k) q in
    let next : Bool = is_named (next_of f k) q in
    let all : (eqb k q || (parent || (previous || (next || false)))) ≡ false = sym (near_tells f k q) ∙ e in
    let family : (parent || (previous || (next || false))) ≡ false = then_false (eqb k q) (parent || (previous || (next || false))) all in
    let beside : (previous || (next || false)) ≡ false = then_false parent (previous || (next || false)) family in
    record {
      own = other_test k q (first_false (eqb k q) (parent || (previous || (next || false))) all);
      parent = first_false parent (previous || (next || false)) family;
      previous = first_false previous (next || false) beside;
      next = first_false next false (then_false previous (next || false) beside);
    } where
      other_test : (a b : ℕ) → eqb a b ≡ false → eqb b a ≡ false
      other_test a b d = grind (arith, d, eqb_tells a b, eqb_tells b a)

-- a node is among these, or apart from them, or it isn't there at all
near_or_not : (f g marked : Forest) (k q : ℕ) → has q f ≡ has q marked → has q g ≡ has q marked
    → (IsApart marked k q → (spot g q ≡ spot f q) × (record_at g q ≡ record_at f q))
    → ((spot g q ≡ spot f q) × (record_at g q ≡ record_at f q)) ⊎ ((is_among q (near marked k) && has q marked) ≡ true)
near_or_not f g marked k q before now apart =
    elim (cases_Bool (has q marked)) [
      | inl here ↦ elim (cases_Bool (is_among q (near marked k))) [
        | inl among ↦ inr (both_true _ _ among here)
        | inr none ↦ inl (apart (apart_from marked k q none))
      ]
      | inr nowhere ↦ inl (absent_still f g q (before ∙ nowhere) (now ∙ nowhere))
    ] where
      both_true : (a b : Bool) → a ≡ true → b ≡ true → (a && b) ≡ true
      both_true a b e h = grind (arith, e, h)

-- ---- take

same_taken : (k : ℕ) (f : Forest) (q : ℕ) (s : Spot Label) → IsForest f → IsApart f k q → spot f q ≡ Some s → taken k q s ≡ s
same_taken k f q s h a at =
    let kids : names_without k s.children ≡ s.children =
    names_without-absent_list k s.children (ap (is_among k) (sym (ap children_at at)) ∙ is_among-children_of f k q h ∙ a.parent) in
    rw (a.own, kids) refl

same_unlinked : (k : ℕ) (n : Record) (q : ℕ) (r : Record) → eqb q k ≡ false → is_named n.parent q ≡ false → is_named n.prev q ≡ false
    → is_named n.next q ≡ false → unlinked k n q r ≡ r
same_unlinked k n q r own parent prev next = rw (own, parent, prev, next) refl

take_apart : (k : ℕ) (f : Forest) (q : ℕ) → IsForest f → has k f ≡ true → IsApart f k q
    → (spot (take_out k f) q ≡ spot f q) × (record_at (take_out k f) q ≡ record_at f q)
take_apart k f q h known a =
    let n = there f k known in
    let parts = IsRecordOf-record_at f k n.0 n.1 in (
      spot-take_out k f q h ∙ unchanged (taken k q) (spot f q) (λ s at. same_taken k f q s h a at),
      record_at-take_out k f n.0 q h n.1
          ∙ unchanged (unlinked k n.0 q) (record_at f q) (λ r at. same_unlinked k n.0 q r a.own
          (ap (λ o. is_named o q) (sym parts.parent) ∙ a.parent) (ap (λ o. is_named o q) (sym parts.prev) ∙ a.previous) (ap (λ o. is_named o q) (sym parts.next)
          ∙ a.next)),
    )

taken_parent : (k : ℕ) (f : Forest) (q p : ℕ) → IsForest f → parent_of (take_out k f) q ≡ Some p → parent_of f q ≡ Some p
taken_parent k f q p h e =
    elim (eqb_tells q k) [
      | inl own ↦ absurd (grind (arith, e, own.0, parent_of-take_out k f q h))
      | inr other ↦ grind (arith, e, other.0, parent_of-take_out k f q h)
    ]

pub told_take : (k : ℕ) (f : Forest) → IsForest f → has k f ≡ true → IsTold f (take_out k f) f (near f k)
told_take k f h known = record {
  seen = λ q. near_or_not f (take_out k f) f k q refl (same_count f (take_out k f) q (count-take_out q k f)) (λ a. take_apart k f q h known a);
  above = λ m up q p e above. noted_up f (near f k) m h (λ x y was over. inl (up x y was over)) q p e (taken_parent k f q p h above);
}

-- ---- put

-- where k is then
record StandsIn (f : Forest) (p : ℕ) (before : Option ℕ) (k : ℕ) : Type 0 where
  pub parent : parent_of (put_in p before k f) k ≡ Some p
  pub previous : previous_of (put_in p before k f) k ≡ place_behind before (children_of f p)
  pub next : next_of (put_in p before k f) k ≡ before

own_links : (p : ℕ) (behind before : Option ℕ) (k : ℕ) (r : Record)
    → ((linked_in p behind before k k r).parent ≡ Some p) × ((linked_in p behind before k k r).prev ≡ behind)
    × ((linked_in p behind before k k r).next ≡ before)
own_links p behind before k r =
    let own : eqb k k ≡ true = grind (arith, eqb_tells k k) in
    (ap (λ b. cond b (Some p) r.parent) own, ap (λ b. cond b behind (cond (is_named before k) (Some k) r.prev)) own, ap (λ b. cond b before (cond (is_named behind k) (Some k) r.next)) own)

stands_in : (p : ℕ) (before : Option ℕ) (k : ℕ) (f : Forest) → IsForest f → CanPut p k f → is_place before (children_of f p) ≡ true → StandsIn f p before k
stands_in p before k f h c place =
    let old = there f k c.there in
    let new : record_at (put_in p before k f) k ≡ Some (linked_in p (place_behind before (children_of f p)) before k k old.0) =
    record_at-put_in p before k f k h c place ∙ ap (option_map (linked_in p (place_behind before (children_of f p)) before k k)) old.1 in
    let parts = IsRecordOf-record_at (put_in p before k f) k (linked_in p (place_behind before (children_of f p)) before k k old.0) new in
    let own = own_links p (place_behind before (children_of f p)) before k old.0 in
    record { parent = parts.parent ∙ own.0; previous = parts.prev ∙ own.1; next = parts.next ∙ own.2 }

same_placed : (p : ℕ) (before : Option ℕ) (k q : ℕ) (s : Spot Label) → eqb q k ≡ false → eqb q p ≡ false → placed p before k q s ≡ s
same_placed p before k q s own parent = rw (own, parent) refl

same_linked : (p : ℕ) (behind before : Option ℕ) (k q : ℕ) (r : Record) → eqb q k ≡ false → eqb q p ≡ false → is_named behind q ≡ false
    → is_named before q ≡ false → linked_in p behind before k q r ≡ r
same_linked p behind before k q r own parent prev next = rw (own, parent, prev, next) refl

put_apart : (p : ℕ) (before : Option ℕ) (k : ℕ) (f : Forest) (q : ℕ) → IsForest f → CanPut p k f → is_place before (children_of f p) ≡ true
    → IsApart (put_in p before k f) k q
    → (spot (put_in p before k f) q ≡ spot f q) × (record_at (put_in p before k f) q ≡ record_at f q)
put_apart p before k f q h c place a =
    let s = stands_in p before k f h c place in
    let parent : eqb q p ≡ false = ap (λ o. is_named o q) (sym s.parent) ∙ a.parent in (
      spot-put_in p before k f q h c ∙ unchanged (placed p before k q) (spot f q) (λ t at. same_placed p before k q t a.own parent),
      record_at-put_in p before k f q h c place
          ∙ unchanged (linked_in p (place_behind before (children_of f p)) before k q) (record_at f q)
          (λ r at. same_linked p (place_behind before (children_of f p)) before k q r a.own parent
          (ap (λ o. is_named o q) (sym s.previous) ∙ a.previous) (ap (λ o. is_named o q) (sym s.next) ∙ a.next)),
    )

-- a key is below the one that it was below, or it is the one that is put
put_above : (p : ℕ) (before : Option ℕ) (k : ℕ) (f : Forest) (q r : ℕ) → IsForest f → CanPut p k f → parent_of (put_in p before k f) q ≡ Some r
    → (parent_of f q ≡ Some r) ⊎ (is_among q (near (put_in p before k f) k) ≡ true)
put_above p before k f q r h c e =
    elim (eqb_tells q k) [
      | inl own ↦ inr (near_tells (put_in p before k f) k q ∙ grind (arith, own.1, eqb_tells k q))
      | inr other ↦ inl (sym (parent_of-put_in p before k f q h c ∙ ap (λ b. cond b (Some p) (parent_of f q)) other.0) ∙ e)
    ]

pub told_put : (p : ℕ) (before : Option ℕ) (k : ℕ) (f : Forest) → IsForest f → CanPut p k f → is_place before (children_of f p) ≡ true
    → IsTold f (put_in p before k f) (put_in p before k f) (near (put_in p before k f) k)
told_put p before k f h c place = record {
  seen = λ q. near_or_not f (put_in p before k f) (put_in p before k f) k q
      (sym (same_count f (put_in p before k f) q (count-put_in q p before k f h c.parent c.outside))) refl (λ a. put_apart p before k f q h c place a);
  above = λ m up. noted_up (put_in p before k f) (near (put_in p before k f) k) m (IsForest-put_in p before k f h c) (λ q r was over.
      elim (put_above p before k f q r h c over) [ inl above ↦ inl (up q r was above) | inr among ↦ inr among ]);
}

-- the child at an index is a place, and so is the end
pub index_place : (xs : List ℕ) (o : Option ℕ) (i : ℕ) → slice_get xs i ≡ o → is_place o xs ≡ true
index_place xs None i e = refl
index_place xs (Some k) i e = is_among-slice_get xs k i e
