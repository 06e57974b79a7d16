-- The laws of records: what each edit does to the links at a key, and that records determine a forest.
use Rattle.std.proofs.Common.{◌≡◌, ◌≢◌, ℕ, true, false, cond, eqb, Option, None, Some, sym, ◌∙◌, arith, ◌⊎◌, inl, inr}
use Rattle.std.specs.Prelude.{is_some, option_map}
use Rattle.std.proofs.lemmas.Bool.{cases_Bool}
use Rattle.lx_trees.specs.Siblings.{is_named, is_among, next_in, previous_in, is_place, place_behind}
use Rattle.lx_node.specs.declared.fields.Fields.{Fields}
use Rattle.lx_trees.proofs.Siblings.{is_named_tells}
use Rattle.lx_forest.specs.Forest.{Label, Forest}
use Rattle.lx_forest.specs.Lookups.{key_of, has, spot, parent_of, children_of, siblings, previous_of, next_of, is_attached, IsForest}
use Rattle.lx_forest.specs.Edits.{with_new, with_fields, take_out, put_in, drop_detached, CanPut, reset}
use Rattle.lx_forest.specs.Records.{Record, linked, record_at, IsRecordOf, StandsFor, lone, refielded, unlinked, linked_in}
use Rattle.lx_forest.proofs.Edits.{spot-with_fields, spot-drop_detached, option_map-map}
use Rattle.lx_forest.proofs.Lookups.{is_among-children_of}
use Rattle.lx_forest.proofs.Siblings.{parent_of-next, parent_of-previous, siblings-with_fields, siblings-drop_detached}
use Rattle.lx_forest.proofs.Walks.{cases_option}
use Rattle.lx_trees.proofs.Records as rootedRecords
use Rattle.lx_forest.proofs.Ordered.{ordered}

-- ---- beside one another

not_beside_top : (f : Forest) (q k : ℕ) → IsForest f → parent_of f q ≡ None → (is_named (previous_of f k) q ≡ false) × (is_named (next_of f k) q ≡ false)
not_beside_top f q k h none =
    elim (cases_option (parent_of f k)) [
      | inl top ↦ (rw top, rw top)
      | inr (r, up) ↦ (
        elim (is_named_tells (previous_of f k) q) [ inl is ↦ absurd (grind (arith, none, parent_of-previous f k q r h up is.1)) | inr other ↦ other.0 ],
        elim (is_named_tells (next_of f k) q) [ inl is ↦ absurd (grind (arith, none, parent_of-next f k q r h up is.1)) | inr other ↦ other.0 ],
      )
    ]

not_beside_other : (f : Forest) (q k p : ℕ) → IsForest f → parent_of f q ≡ Some p → parent_of f k ≢ Some p
    → (is_named (previous_of f k) q ≡ false) × (is_named (next_of f k) q ≡ false)
not_beside_other f q k p h some other =
    elim (cases_option (parent_of f k)) [
      | inl top ↦ (rw top, rw top)
      | inr (r, up) ↦ (
        elim (is_named_tells (previous_of f k) q) [ inl is ↦ absurd (other (up ∙ sym (parent_of-previous f k q r h up is.1) ∙ some)) | inr other ↦ other.0 ],
        elim (is_named_tells (next_of f k) q) [ inl is ↦ absurd (other (up ∙ sym (parent_of-next f k q r h up is.1) ∙ some)) | inr other ↦ other.0 ],
      )
    ]

-- k is a sibling of q, with the same siblings, or it isn't beside q
beside : (f : Forest) (q k : ℕ) → IsForest f →
    ((is_among k (siblings f q) ≡ true) × (previous_of f k ≡ previous_in (siblings f q) k) × (next_of f k ≡ next_in (siblings f q) k))
    ⊎ ((is_among k (siblings f q) ≡ false) × (is_named (previous_of f k) q ≡ false) × (is_named (next_of f k) q ≡ false))
beside f q k h =
    elim (cases_option (parent_of f q)) [
      | inl none ↦ let apart = not_beside_top f q k h none in inr (rw none, apart.0, apart.1)
      | inr (p, up) ↦ elim (is_named_tells (parent_of f k) p) [
        | inl child ↦ inl (rw up (is_among-children_of f k p h ∙ child.0), rw (up, child.1), rw (up, child.1))
        | inr other ↦ let apart = not_beside_other f q k p h up other.1 in inr (rw up (is_among-children_of f k p h ∙ other.0), apart.0, apart.1)
      ]
    ]

-- ---- what a record shows

pub is_some-record_at : (f : Forest) (q : ℕ) → is_some (record_at f q) ≡ has q f
is_some-record_at f q = rootedRecords.is_some-record_at key_of f q

pub IsRecordOf-record_at : (f : Forest) (q : ℕ) (r : Record) → record_at f q ≡ Some r → IsRecordOf f q r
IsRecordOf-record_at f q r h1 = rootedRecords.IsRecordOf-record_at key_of f q r h1

-- ---- new and set

pub record_at-with_new : (l : Label) (f : Forest) (q : ℕ) → IsForest f → has l.key f ≡ false
    → record_at (with_new l f) q ≡ cond (eqb q l.key) (Some (lone l)) (record_at f q)
unfolding with_new
record_at-with_new l f q h1 h2 = rootedRecords.record_at-with_new key_of l f q (ordered h1) h2

pub record_at-with_fields : (k : ℕ) (fields : Fields) (f : Forest) (q : ℕ)
    → record_at (with_fields k fields f) q ≡ option_map (refielded k fields q) (record_at f q)
record_at-with_fields k fields f q =
    rw (siblings-with_fields k fields f q, spot-with_fields k fields f q)
    (option_map-map (linked (siblings f q) q) (reset k fields q) (spot f q) ∙ sym (option_map-map (refielded k fields q) (linked (siblings f q) q) (spot f q)))

-- ---- take

pub record_at-take_out : (k : ℕ) (f : Forest) (n : Record) (q : ℕ) → IsForest f → record_at f k ≡ Some n
    → record_at (take_out k f) q ≡ option_map (unlinked k n q) (record_at f q)
unfolding take_out
record_at-take_out k f n q h1 h2 = rootedRecords.record_at-take_out key_of k f n q (ordered h1) h2

-- ---- put

pub record_at-put_in : (p : ℕ) (before : Option ℕ) (k : ℕ) (f : Forest) (q : ℕ) → IsForest f → CanPut p k f → is_place before (children_of f p) ≡ true
    → record_at (put_in p before k f) q ≡ option_map (linked_in p (place_behind before (children_of f p)) before k q) (record_at f q)
unfolding put_in
record_at-put_in p before k f q h1 h2 h3 = rootedRecords.record_at-put_in key_of p before k f q (ordered h1) h2 h3

-- ---- the detached trees dropped

pub record_at-drop_detached : (f : Forest) (q : ℕ) → IsForest f → record_at (drop_detached f) q ≡ cond (is_attached f q) (record_at f q) None
record_at-drop_detached f q h =
    elim (cases_Bool (is_attached f q)) [
      | inl attached ↦ rw (siblings-drop_detached f q h attached, spot-drop_detached f q h, attached)
      | inr apart ↦ rw (spot-drop_detached f q h, apart)
    ]

-- ---- records determine a forest

-- forests in order with equal records are equal
pub same_from_records : (f g : Forest) → IsForest f → IsForest g → ((q : ℕ) → record_at f q ≡ record_at g q) → f ≡ g
same_from_records f g h1 h2 h3 = rootedRecords.same_from_records key_of f g (ordered h1) (ordered h2) h3

-- a map stands for one forest
pub StandsFor-unique : (get : ℕ → Option Record) (f g : Forest) → StandsFor get f → StandsFor get g → f ≡ g
StandsFor-unique get f g s t = same_from_records f g s.in_order t.in_order (λ q. sym (s.same q) ∙ t.same q)
