-- What a new row with new cells leaves of a forest.
use Rattle.std.proofs.Common.{◌≡◌, ◌∙◌, ℕ, ◌+◌, ◌<◌, ◌≤◌, eqb, ◌||◌, Bool, true, false, cond, List, [], ◌∷◌, length, None, Some, Ok, option_map, refl, sym, ap, subst, arith, inl, inr}
use Rattle.std.specs.List.{slice_get, list_any}
use Rattle.std.proofs.lemmas.Bool.{cases_lt}
use Rattle.std.proofs.lemmas.Bool.Decides.{eqb_tells}
use Rattle.lx_trees.specs.Siblings.{is_among, names_with}
use Rattle.lx_trees.proofs.Siblings.{is_among-names_with}
use Rattle.lx_node.specs.Strings.{characters_of}
use Rattle.lx_node.specs.Plain.{plain_element}
use Rattle.lx_node.specs.declared.kind.Kind.{Kind}
use Rattle.lx_node.specs.declared.kind.Kind.TheVariants.{Paragraph, Row, Cell}
use Rattle.lx_node.specs.declared.fields.Fields.{Fields}
use Rattle.lx_forest.specs.Forest.{Forest, Label}
use Rattle.lx_forest.specs.Lookups.{has, label_of, fields_of, children_of, size_of}
use Rattle.lx_forest.proofs.Lookups.{has-parent_of, has-child, label_of-with_new, children_of-with_new, label_of-put_in, children_of-put_in}
use Rattle.lx_draft.specs.Working.{Working}
use Rattle.lx_draft.specs.Covering.{IsReady}
use Rattle.lx_draft.specs.Faults.{after, over_counts, over_limits, put_fault}
use Rattle.lx_draft.specs.Steps.{made, new_step, node_placed, put_step}
use Rattle.lx_draft.proofs.Covered.{answered}
use Rattle.lx_draft.proofs.Put.{both_none, can_put, put_within}
use Rattle.lx_edit.specs.InTurn.{in_turn}
use Rattle.lx_edit.proofs.Climbed.{first_part}
use Rattle.lx_edit.proofs.Covered.{covered_path}
use Rattle.lx_table.specs.declared.spots.Spot.{Spot}
use Rattle.lx_table.specs.Spots.{spot_at, stands_in_column}
use Rattle.lx_table.specs.Spans.{rows_in, read_by, row_span, column_header}
use Rattle.lx_table.specs.Reading.{header_at}
use Rattle.lx_table.specs.Making.{cell_fields, cell_made}
use Rattle.lx_table.specs.Growing.{column_filled}
use Rattle.lx_table.proofs.Own.{above_is}

-- ---- keys that were given are below the next

pub has_below : (w : Working) (q : ℕ) → IsReady w → has q w.forest ≡ true → q < w.next_key
has_below w q ready there = elim (cases_lt q w.next_key) [
  | inl low ↦ low
  | inr high ↦ absurd (let gone = ready.free q high in cc)
]

pub child_below : (w : Working) (q p : ℕ) → IsReady w → is_among q (children_of w.forest p) ≡ true → q < w.next_key
child_below w q p ready among = has_below w q ready (has-child w.forest q p (above_is w.forest q p ready.in_order among))

pub parent_below : (w : Working) (q p : ℕ) → IsReady w → is_among q (children_of w.forest p) ≡ true → p < w.next_key
parent_below w q p ready among = has_below w p ready (has-parent_of w.forest q p (above_is w.forest q p ready.in_order among))

below_other : (q k : ℕ) → q < k → eqb q k ≡ false
below_other q k h = grind (arith, eqb_tells q k, h)

-- ---- a new node, and a node that is put

record IsMade (fields : Fields) (w v : Working) : Type 0 where
  pub ready : IsReady v
  pub next : v.next_key ≡ w.next_key + 1
  pub children : (q : ℕ) → children_of v.forest q ≡ children_of w.forest q
  pub here : fields_of v.forest w.next_key ≡ Some fields
  pub others : (q : ℕ) → q < w.next_key → fields_of v.forest q ≡ fields_of w.forest q

made_by : (kind : Kind) (fields : Fields) (w v : Working) → IsReady w → new_step kind fields w ≡ Ok v → IsMade fields w v
unfolding new_step
made_by kind fields w v ready e =
    let is : made kind fields w ≡ v = (answered (over_limits (characters_of fields) w) (made kind fields w) v e).1 in
    let l : Label = record { key = w.next_key; kind = kind; fields = fields } in
    let free : has w.next_key w.forest ≡ false = ready.free w.next_key (omega arith) in
    let label : (q : ℕ) → label_of v.forest q ≡ cond (eqb q w.next_key) (Some l) (label_of w.forest q) =
    λ q. rw (← is) (label_of-with_new l w.forest q ready.in_order free) in
    let same : eqb w.next_key w.next_key ≡ true = grind (arith, eqb_tells w.next_key w.next_key) in
    record {
      ready = (covered_path.new kind fields w v ready e).ready;
      next = rw (← is) refl;
      children = λ q. rw (← is) (children_of-with_new l w.forest q ready.in_order free);
      here = ap (option_map (λ (x : Label). x.fields)) (label w.next_key ∙ ap (λ b. cond b (Some l) (label_of w.forest w.next_key)) same);
      others = λ q low. ap (option_map (λ (x : Label). x.fields)) (label q ∙ ap (λ b. cond b (Some l) (label_of w.forest q)) (below_other q w.next_key low));
    }

record IsPut (k p index : ℕ) (w v : Working) : Type 0 where
  pub ready : IsReady v
  pub next : v.next_key ≡ w.next_key
  pub children : (q : ℕ)
      → children_of v.forest q
      ≡ cond (eqb q p) (names_with (slice_get (children_of w.forest p) index) (k ∷ []) (children_of w.forest q)) (children_of w.forest q)
  pub fields : (q : ℕ) → fields_of v.forest q ≡ fields_of w.forest q
  pub within : index ≤ length (children_of w.forest p)

put_by : (k p index : ℕ) (w v : Working) → IsReady w → put_step k p index w ≡ Ok v → IsPut k p index w v
unfolding put_step
put_by k p index w v ready e =
    let a = answered _ (node_placed k p index w) v e in
    let none : put_fault k p index w.forest ≡ None = (both_none (put_fault k p index w.forest) (over_counts w) a.0).0 in
    let before = slice_get (children_of w.forest p) index in
    let can = can_put w.forest k p index none in
    record {
      ready = (covered_path.put k p index w v tt ready e).ready;
      next = rw (← a.1) refl;
      children = λ q. rw (← a.1) (children_of-put_in p before k w.forest q ready.in_order can);
      fields = λ q. rw (← a.1) (ap (option_map (λ (x : Label). x.fields)) (label_of-put_in p before k w.forest q ready.in_order can));
      within = put_within w.forest k p index none;
    }

put_apart : (k p index : ℕ) (w v : Working) (q : ℕ) → IsPut k p index w v → eqb q p ≡ false → children_of v.forest q ≡ children_of w.forest q
put_apart k p index w v q put other = put.children q ∙ rw other refl

put_there : (k p index : ℕ) (w v : Working) → IsPut k p index w v
    → children_of v.forest p ≡ names_with (slice_get (children_of w.forest p) index) (k ∷ []) (children_of w.forest p)
put_there k p index w v put = let same : eqb p p ≡ true = grind (arith, eqb_tells p p) in put.children p ∙ rw same refl

-- ---- new cells in a row

-- All nodes below a row's key are as they were, and each cell that the row has is in one row.
record IsFilling (row : ℕ) (f : Forest) (w : Working) : Type 0 where
  pub ready : IsReady w
  pub next : row < w.next_key
  pub children : (q : ℕ) → q < row → children_of w.forest q ≡ children_of f q
  pub fields : (q : ℕ) → q < row → fields_of w.forest q ≡ fields_of f q
  pub single : (q : ℕ) → is_among q (children_of w.forest row) ≡ true → row_span w.forest q ≡ 1

cell_fills : (header row index : ℕ) (f : Forest) (w a b c v : Working) → IsFilling row f w → IsMade (cell_fields header) w a → IsMade plain_element a b
    → IsPut a.next_key w.next_key 0 b c → IsPut w.next_key row index c v
    → IsFilling row f v
cell_fills header row index f w a b c v was cell paragraph inside there =
    let low : row < w.next_key = was.next in
    let next : a.next_key ≡ w.next_key + 1 = cell.next in
    let before : (q : ℕ) → q < w.next_key → children_of c.forest q ≡ children_of w.forest q =
    λ q h. put_apart a.next_key w.next_key 0 b c q inside (below_other q w.next_key h) ∙ paragraph.children q ∙ cell.children q in
    let fields : (q : ℕ) → q < w.next_key → fields_of v.forest q ≡ fields_of w.forest q =
    λ q h. there.fields q ∙ inside.fields q ∙ paragraph.others q (omega (arith, h, next)) ∙ cell.others q h in
    let made : fields_of v.forest w.next_key ≡ Some (cell_fields header) =
    there.fields w.next_key ∙ inside.fields w.next_key ∙ paragraph.others w.next_key (omega (arith, next)) ∙ cell.here in
    let new : row_span v.forest w.next_key ≡ 1 = ap (read_by rows_in 1) made in
    record {
      ready = there.ready;
      next = omega (arith, low, next, paragraph.next, inside.next, there.next);
      children = λ q h. put_apart w.next_key row index c v q there (below_other q row h) ∙ before q (omega (arith, h, low)) ∙ was.children q h;
      fields = λ q h. fields q (omega (arith, h, low)) ∙ was.fields q h;
      single = λ q among.
          let either : (is_among q (w.next_key ∷ []) || is_among q (children_of c.forest row)) ≡ true =
          sym (ap (is_among q) (put_there w.next_key row index c v there)
          ∙ is_among-names_with (slice_get (children_of c.forest row) index) (w.next_key ∷ []) (children_of c.forest row) q) ∙ among in
          elim (eqb_tells w.next_key q) [
            | inl same ↦ subst (λ x. row_span v.forest x ≡ 1) same.1 new
            | inr other ↦
                let old : is_among q (children_of w.forest row) ≡ true =
                sym (ap (is_among q) (before row low)) ∙ sym (ap (λ t. (t || false) || is_among q (children_of c.forest row)) other.0) ∙ either in
                ap (read_by rows_in 1) (fields q (child_below w q row was.ready old)) ∙ was.single q old
          ];
    }

cell_kept : (header row index : ℕ) (f : Forest) (w v : Working) → IsFilling row f w → cell_made header row index w ≡ Ok v → IsFilling row f v
unfolding cell_made
cell_kept header row index f w v was e =
    let a = first_part (new_step Cell (cell_fields header) w)
    (λ x. after (new_step Paragraph plain_element x) (λ u. after (put_step x.next_key w.next_key 0 u) (put_step w.next_key row index))) v e in
    let b = first_part (new_step Paragraph plain_element a.0) (λ u. after (put_step a.0.next_key w.next_key 0 u) (put_step w.next_key row index)) v a.2 in
    let c = first_part (put_step a.0.next_key w.next_key 0 b.0) (put_step w.next_key row index) v b.2 in
    let cell = made_by Cell (cell_fields header) w a.0 was.ready a.1 in
    let paragraph = made_by Paragraph plain_element a.0 b.0 cell.ready b.1 in
    let inside = put_by a.0.next_key w.next_key 0 b.0 c.0 paragraph.ready c.1 in
    cell_fills header row index f w a.0 b.0 c.0 v was cell paragraph inside (put_by w.next_key row index c.0 v inside.ready c.2)

column_kept : (taken : Bool) (header row index : ℕ) (f : Forest) (w v : Working) → IsFilling row f w → cond taken (Ok w) (cell_made header row index w) ≡ Ok v
    → IsFilling row f v
column_kept true header row index f w v was e = let same : w ≡ v = cc in subst (IsFilling row f) same was
column_kept false header row index f w v was e = cell_kept header row index f w v was e

columns_kept : (spots above : List Spot) (like row : ℕ) (columns : List ℕ) (f : Forest) (w v : Working) → IsFilling row f w
    → in_turn (column_filled spots above like row) columns w ≡ Ok v → IsFilling row f v
unfolding in_turn
columns_kept spots above like row [] f w v was e = let same : w ≡ v = cc in subst (IsFilling row f) same was
columns_kept spots above like row (column ∷ columns) f w v was e =
    let parts = first_part (column_filled spots above like row column w) (in_turn (column_filled spots above like row) columns) v e in
    columns_kept spots above like row columns f parts.0 v
    (column_kept (list_any (stands_in_column column) above) (header_at w.forest column_header (spot_at spots like column)) row (size_of w.forest row) f w
    parts.0 was parts.1) parts.2

-- ---- the row

-- A new row is among a table's rows at an index, and each of its cells is in one row. All else below its key is as it was.
pub record IsOpened (table row index : ℕ) (f g : Forest) : Type 0 where
  pub rows : children_of g table ≡ names_with (slice_get (children_of f table) index) (row ∷ []) (children_of f table)
  pub within : index ≤ length (children_of f table)
  pub others : (q : ℕ) → q < row → eqb q table ≡ false → children_of g q ≡ children_of f q
  pub fields : (q : ℕ) → q < row → fields_of g q ≡ fields_of f q
  pub single : (q : ℕ) → is_among q (children_of g row) ≡ true → row_span g q ≡ 1

pub row_opened : (table index : ℕ) (spots above : List Spot) (like : ℕ) (columns : List ℕ) (w u p v : Working) → IsReady w → table < w.next_key
    → new_step Row plain_element w ≡ Ok u → put_step w.next_key table index u ≡ Ok p → in_turn (column_filled spots above like w.next_key) columns p ≡ Ok v
    → IsOpened table w.next_key index w.forest v.forest × IsReady v
row_opened table index spots above like columns w u p v ready low made_e put_e filled_e =
    let made = made_by Row plain_element w u ready made_e in
    let put = put_by w.next_key table index u p made.ready put_e in
    let begun : IsFilling w.next_key p.forest p = record {
      ready = put.ready;
      next = omega (arith, made.next, put.next);
      children = λ q h. refl;
      fields = λ q h. refl;
      single = λ q among.
          let old : is_among q (children_of w.forest w.next_key) ≡ true =
          sym (ap (is_among q)
          (put_apart w.next_key table index u p w.next_key put
          (let above : eqb w.next_key table ≡ false = grind (arith, eqb_tells w.next_key table, low) in above) ∙ made.children w.next_key)) ∙ among in
          let clash : w.next_key < w.next_key = parent_below w q w.next_key ready old in absurd (omega (arith, clash));
    } in
    let filled = columns_kept spots above like w.next_key columns p.forest p v begun filled_e in (
      record {
        rows = filled.children table low ∙ put_there w.next_key table index u p put
            ∙ ap (λ xs. names_with (slice_get xs index) (w.next_key ∷ []) xs) (made.children table);
        within = subst (λ xs. index ≤ length xs) (made.children table) put.within;
        others = λ q h other. filled.children q h ∙ put_apart w.next_key table index u p q put other ∙ made.children q;
        fields = λ q h. filled.fields q h ∙ put.fields q ∙ made.others q h;
        single = filled.single;
      },
      filled.ready,
    )
