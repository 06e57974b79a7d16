-- A row is inserted and deleted again, step by step.
use Rattle.std.proofs.Common.{ℕ, List, Option, None, Some, ◌≡◌, ◌∙◌, zero, suc, ◌+◌, ◌-◌, ◌<◌, ◌==◌, ◌&&◌, Bool, true, false, cond, [], ◌∷◌, length, Result, Ok, Err, refl, sym, ap, subst, arith, inl, inr}
use Rattle.std.specs.Option.{option_or}
use Rattle.lx_node.specs.declared.fields.Fields.{Fields}
use Rattle.lx_forest.specs.Lookups.{fields_of, kind_of, parent_of, children_of, size_of, ancestors, IsForest}
use Rattle.lx_draft.specs.Working.{Working}
use Rattle.lx_edit.proofs.Paths.{Leads, allowed, every}
use Rattle.lx_blocks.proofs.Paths.{IsWay, stays}
use Rattle.lx_table.specs.declared.spots.Spot.{Spot}
use Rattle.lx_table.specs.Spans.{over_span, with_spans, spans_written, span_step, height_set, heights_set, row_span}
use Rattle.std.specs.Prelude.{min, nat_lt, filter}
use Rattle.std.specs.List.{All, slice_get, list_all}
use Rattle.std.proofs.lemmas.Bool.Decides.{eqb_tells, nat_tests}
use Rattle.std.proofs.lemmas.Option.{slice_get_within}
use Rattle.std.proofs.lemmas.List.Elements.{All-filter, All-head, All-tail}
use Rattle.lx_trees.specs.Siblings.{is_among}
use Rattle.lx_trees.proofs.Positions.{is_among-slice_get}
use Rattle.lx_node.specs.Plain.{plain_element}
use Rattle.lx_node.specs.declared.kind.Kind.TheVariants.{Row}
use Rattle.lx_node.specs.declared.cause.Cause.{Cause}
use Rattle.lx_select.specs.declared.selection.Selection.{Selection}
use Rattle.lx_forest.specs.Forest.{Forest}
use Rattle.lx_forest.specs.Edits.{take_out}
use Rattle.lx_forest.proofs.Walks.{ancestors-step}
use Rattle.lx_draft.specs.Covering.{IsReady}
use Rattle.lx_draft.specs.Faults.{after}
use Rattle.lx_draft.specs.Steps.{new_step, take_step, put_step, select_step}
use Rattle.lx_edit.specs.InTurn.{in_turn}
use Rattle.lx_edit.specs.Edits.{sent_away, goes_too, removed, remove_step}
use Rattle.lx_edit.specs.Texts.{keys_from}
use Rattle.lx_edit.proofs.Climbed.{answered, first_part, sent_away-forest, taken-forest}
use Rattle.lx_edit.proofs.Covered.{covered_path}
use Rattle.lx_blocks.specs.Blocks.{cell_of}
use Rattle.lx_table.specs.Spots.{spot_of, spot_at, is_of_cell, end_column, row_beside}
use Rattle.lx_table.specs.Grid.{spots_of, spots_over, grid_of}
use Rattle.lx_table.specs.Places.{Place, place, place_among, place_below, table_above, place_of_cell, needed, focus_of, place_of, at_place, caret_step, caret_in_step, caret_in_spot}
use Rattle.lx_table.specs.Growing.{crosses_row, crossing, taller, column_filled, row_inserted, insert_row_step}
use Rattle.lx_table.specs.Shrinking.{first_spot, is_in_row_alone, goes_below, lower, moved_down, all_moved_down, without_at, caret_without_row, row_removed, row_taken, row_deleted, delete_row_step}
use Rattle.lx_table_laws.specs.Laws.{new_row}
use Rattle.lx_table.proofs.Kept.{found_has}
use Rattle.lx_table.proofs.Alike.{same_grid}
use Rattle.lx_table.proofs.Own.{IsOwn, spots_own, spot_in_row, row_of_spot, above_is, height_at, height_found, all_by, cells_in}
use Rattle.lx_table.proofs.Spanned.{IsSpanned, IsDue, spots_spanned}
use Rattle.lx_table_laws.proofs.Opened.{child_below, parent_below, row_opened}
use Rattle.lx_table.proofs.Heights.{heights_spanned}
use Rattle.lx_table_laws.proofs.Again.{IsShifted, HasRow, IsShrunk, was_there, alike_again, new_row_at}

-- ---- what holds of each step of a draft, and of one after another, holds of setting spans

module _ {D : Working → Type 0} {R : Working → Working → Type 0} (way : IsWay D R) where
  spans_written_path : (rows columns cell : ℕ) (o : Option Fields) → Leads D R (spans_written rows columns cell o)
  spans_written_path rows columns cell None w v r e = stays way w v r e
  spans_written_path rows columns cell (Some fields) w v r e = way.set cell (with_spans rows columns fields) w v r e

  pub span_path : (rows columns cell : ℕ) → Leads D R (span_step rows columns cell)
  unfolding span_step
  span_path rows columns cell w v r e =
      allowed R w v (option_or (over_span rows) (over_span columns)) (λ u. spans_written rows columns cell (fields_of u.forest cell) u)
      (λ f. spans_written_path rows columns cell (fields_of w.forest cell) w v r f) e

  pub heights_path : (spots : List Spot) → Leads D R (heights_set spots)
  unfolding heights_set
  heights_path spots w v r e = every way height_set spots (λ s. span_path s.height s.width s.cell) w v r e

-- ---- the caret's cell

record IsTold (f : Forest) (p : Place) : Type 0 where
  pub spots : p.spots ≡ spots_of f p.table
  pub own : IsOwn f (children_of f p.table) p.spot

spot_told : (f : Forest) (table cell : ℕ) (o : Option Spot) (p : Place) → spot_of (spots_of f table) cell ≡ o
    → place_among table (spots_of f table) cell ≡ Some p → IsTold f p
spot_told f table cell None p found e = absurd (let none = rw found at e in cc)
spot_told f table cell (Some s) p found e =
    let is : place table (spots_of f table) s ≡ p = (let some = rw found at e in cc) in
    subst (IsTold f) is
    (record { spots = refl; own = found_has (IsOwn f (children_of f table)) (is_of_cell cell) (spots_of f table) s (spots_own f table) found })

cell_told : (f : Forest) (o : Option ℕ) (p : Place) → place_of_cell f o ≡ Some p → IsTold f p
cell_told f None p e = absurd (cc)
cell_told f (Some cell) p e = by_table (table_above f cell) e where
  by_table : (o : Option ℕ) → place_below f cell o ≡ Some p → IsTold f p
  by_table None e = absurd (cc)
  by_table (Some table) e = spot_told f table cell (spot_of (spots_of f table) cell) p refl e

needed_told : (f : Forest) (s : Selection) (o : Option ℕ) (found : Option Place) (p : Place) → place_of_cell f o ≡ found → needed s found ≡ Ok p → IsTold f p
needed_told f s o None p is e = absurd (cc)
needed_told f s o (Some q) p is e = cell_told f o p (let same : q ≡ p = cc in cc)

focus_told : (w : Working) (r : Result ℕ Cause) (p : Place) → after r (λ k. needed w.selection (place_of_cell w.forest (cell_of w.forest k))) ≡ Ok p
    → IsTold w.forest p
focus_told w (Ok k) p e = needed_told w.forest w.selection (cell_of w.forest k) (place_of_cell w.forest (cell_of w.forest k)) p refl e
focus_told w (Err cause) p e = absurd (cc)

place_told : (w : Working) (p : Place) → place_of w ≡ Ok p → IsTold w.forest p
unfolding place_of
place_told w p e = focus_told w (focus_of w) p e

-- ---- the row comes

record HasCome (f : Forest) (table new : ℕ) (v : Working) : Type 0 where
  pub row : ℕ
  pub set : Forest
  pub grown : Forest
  pub way : HasRow f table new row set grown v.forest
  pub ready : IsReady v

-- heights are set, and then those of the cells across a row are changed
changed : (change : ℕ → ℕ) (w h y : Working) (table new : ℕ) → IsReady w → heights_set (spots_of w.forest table) w ≡ Ok h
    → in_turn (λ (s : Spot). span_step (change s.height) s.width s.cell) (crossing new (spots_of w.forest table)) h ≡ Ok y
    → IsSpanned h.forest y.forest (cells_in (crossing new (spots_of w.forest table))) (λ q. change (height_at (spots_of w.forest table) q)) × IsReady y
changed change w h y table new ready set e =
    let f : Forest = w.forest in
    let spots : List Spot = spots_of f table in
    let rows : Spot → ℕ = λ s. change s.height in
    let rows_at : ℕ → ℕ = λ q. change (height_at spots q) in
    let all : All (IsDue f rows rows_at) spots = all_by (IsDue f rows rows_at) (IsOwn f (children_of f table)) spots (spots_own f table)
    (λ i s at own. record { width = own.width; height = ap change (sym (height_found f table ready.in_order spots i s (spots_own f table) own at)) }) in
    let ready_h : IsReady h = (heights_path covered_path spots w h ready set).ready in (
      spots_spanned f rows rows_at (crossing new spots) h y (heights_spanned w h table ready.in_order set).columns (All-filter (crosses_row new)
          (IsDue f rows rows_at) spots all) e,
      (every covered_path (λ (s : Spot). span_step (change s.height) s.width s.cell) (crossing new spots)
          (λ s. span_path covered_path (change s.height) s.width s.cell) h y ready_h e).ready,
    )

comes : (w h v : Working) (table new like i k : ℕ) → IsReady w → slice_get (children_of w.forest table) i ≡ Some k
    → heights_set (spots_of w.forest table) w ≡ Ok h
    → row_inserted table (spots_of w.forest table) (record { index = new; like = like }) h ≡ Ok v → HasCome w.forest table new v
unfolding row_inserted
comes w h v table new like i k ready at set e =
    let spots : List Spot = spots_of w.forest table in
    let cells : ℕ → Working → Result Working Cause = λ row. in_turn (column_filled spots (crossing new spots) like row) (keys_from 0 (end_column spots)) in
    let put : ℕ → Working → Result Working Cause = λ row u. after (put_step row table new u) (cells row) in
    let a = first_part (in_turn taller (crossing new spots) h) (λ x. after (new_step Row plain_element x) (put x.next_key)) v e in
    let b = first_part (new_step Row plain_element a.0) (put a.0.next_key) v a.2 in
    let c = first_part (put_step a.0.next_key table new b.0) (cells a.0.next_key) v b.2 in
    let heights = heights_spanned w h table ready.in_order set in
    let grown = changed (λ n. n + 1) w h a.0 table new ready set a.1 in
    let first : is_among k (children_of a.0.forest table) ≡ true =
    ap (is_among k) (grown.0.children table ∙ heights.children table) ∙ is_among-slice_get (children_of w.forest table) k i at in
    let opened =
    row_opened table new spots (crossing new spots) like (keys_from 0 (end_column spots)) a.0 b.0 c.0 v grown.1 (parent_below a.0 k table grown.1 first) b.1
    c.1 c.2 in
    record {
      row = a.0.next_key;
      set = h.forest;
      grown = a.0.forest;
      way = record {
        in_order = ready.in_order;
        heights = heights;
        taller = grown.0;
        made = opened.0;
        below = λ p q among. (child_below a.0 q p grown.1 among, parent_below a.0 q p grown.1 among);
      };
      ready = opened.1;
    }

-- ---- the row goes

filter_none : (test : Spot → Bool) (spots : List Spot) → All (λ s. test s ≡ false) spots → filter test spots ≡ []
filter_none test [] all = refl
filter_none test (s ∷ spots) all =
    rw (All-head (λ t. test t ≡ false) s spots all) (filter_none test spots (All-tail (λ t. test t ≡ false) s spots all))

not_all : (test : Spot → Bool) (spots : List Spot) (i : ℕ) (s : Spot) → slice_get spots i ≡ Some s → test s ≡ false → list_all test spots ≡ false
not_all test [] i s at fails = absurd (cc)
not_all test (x ∷ spots) zero s at fails = let is : x ≡ s = cc in rw (is, fails) refl
not_all test (x ∷ spots) (suc i) s at fails = grind (arith, not_all test spots i s at fails)

none_moves : (spots : List Spot) (row : ℕ) (o : Option ℕ) (w v : Working) → filter (goes_below row) spots ≡ [] → all_moved_down spots row o w ≡ Ok v → w ≡ v
unfolding in_turn
none_moves spots row None w v none e = cc
none_moves spots row (Some next) w v none e =
    let same : Ok w ≡ Ok v = sym (ap (λ (zs : List Spot). in_turn (moved_down spots next) zs w) none) ∙ e in cc (same)

careted_forest : (o : Option Spot) (w v : Working) → caret_in_spot o w ≡ Ok v → v.forest ≡ w.forest
unfolding caret_in_step caret_step select_step
careted_forest None w v e = cc
careted_forest (Some s) w v e = ap (λ (x : Working). x.forest) (answered _ _ v e)

-- what is above a node that goes has other children
stays_above : (k p : ℕ) (above : List ℕ) (w v : Working) → (size_of (take_out k w.forest) p == 0) ≡ false → removed k (p ∷ above) w ≡ Ok v
    → v.forest ≡ take_out k w.forest
stays_above k p above w v more e =
    let a = first_part (take_step k (sent_away k w)) (λ u. cond (goes_too (kind_of w.forest k) u.forest p) (removed p above u) (Ok u)) v e in
    let forest : a.0.forest ≡ take_out k w.forest = taken-forest k (sent_away k w) a.0 a.1 ∙ ap (take_out k) (sent_away-forest k w) in
    let left : goes_too (kind_of w.forest k) a.0.forest p ≡ false = ap (λ g. goes_too (kind_of w.forest k) g p) forest ∙ rw more refl in
    let rest = rw left at a.2 in
    let same : a.0 ≡ v = cc in
    sym (ap (λ (x : Working). x.forest) same) ∙ forest

removed_forest : (k p : ℕ) (w v : Working) → IsForest w.forest → parent_of w.forest k ≡ Some p → (size_of (take_out k w.forest) p == 0) ≡ false
    → remove_step k w ≡ Ok v → v.forest ≡ take_out k w.forest
unfolding remove_step
removed_forest k p w v ordered up more e =
    stays_above k p (ancestors w.forest p) w v more (sym (ap (λ ks. removed k ks w) (ancestors-step w.forest k p ordered up)) ∙ e)

-- the row of a cell that was there isn't the new one
other_row : (new i j : ℕ) → IsShifted new i j → (j == new) ≡ false
other_row new i j shift = grind (arith, eqb_tells j new, shift)

-- no cell of the new row goes on below it
none_below : (f : Forest) (table new : ℕ) (x : Working) (come : HasCome f table new x) → filter (goes_below new) (spots_of x.forest table) ≡ []
none_below f table new x come =
    filter_none (goes_below new) (spots_of x.forest table)
    (all_by (λ s. goes_below new s ≡ false) (IsOwn x.forest (children_of x.forest table)) (spots_of x.forest table) (spots_own x.forest table)
    (λ i s at own. elim (eqb_tells s.row new) [
      | inl here ↦
          let stands : slice_get (children_of x.forest table) new ≡ Some come.row = new_row_at f table new come.row come.set come.grown x.forest come.way in
          let found : slice_get (children_of x.forest table) new ≡ Some own.key = sym (ap (slice_get (children_of x.forest table)) here.1) ∙ own.row in
          let key : own.key ≡ come.row = cc (stands, found) in
          let single : row_span x.forest s.cell ≡ 1 =
          come.way.made.single s.cell (subst (λ k. is_among s.cell (children_of x.forest k) ≡ true) key own.among) in
          let high : s.height ≡ min (row_span x.forest s.cell) (length (children_of x.forest table) - s.row) = own.height in
          let low : nat_lt 1 s.height ≡ false = grind (arith, nat_tests, high, single) in
          ap (λ b. b && nat_lt 1 s.height) here.0 ∙ low
      | inr other ↦ ap (λ b. b && nat_lt 1 s.height) other.0
    ]))

-- and it isn't the only row with cells
not_alone : (f : Forest) (table new i k q : ℕ) (x : Working) (come : HasCome f table new x) → slice_get (children_of f table) i ≡ Some k
    → is_among q (children_of f k) ≡ true
    → list_all (is_in_row_alone new) (spots_of x.forest table) ≡ false
not_alone f table new i k q x come at among =
    let there = was_there f table new come.row come.set come.grown x.forest come.way i k at in
    let inside : is_among q (children_of x.forest k) ≡ true = ap (is_among q) there.cells ∙ among in
    let found = spot_in_row x.forest table there.index k q there.at inside in
    let row : found.spot.row ≡ there.index = row_of_spot x.forest table there.index k q found.spot come.ready.in_order there.at inside found.has found.is in
    not_all (is_in_row_alone new) (spots_of x.forest table) found.index found.spot found.at
    (ap (λ r. (r == new) && (found.spot.height == 1)) row ∙ ap (λ b. b && (found.spot.height == 1)) (other_row new i there.index there.shift))

row_goes : (f : Forest) (table new i k : ℕ) (x h y z t u : Working) (come : HasCome f table new x) → slice_get (children_of f table) i ≡ Some k
    → IsShrunk table new x.forest h.forest y.forest
    → y ≡ z → t.forest ≡ z.forest → row_removed (slice_get (children_of t.forest table) new) t ≡ Ok u → grid_of u.forest table ≡ grid_of f table
row_goes f table new i k x h y z t u come at gone moved careted e =
    let forest : t.forest ≡ y.forest = careted ∙ sym (ap (λ (v : Working). v.forest) moved) in
    let alike = alike_again f table new come.row come.set come.grown x.forest h.forest y.forest come.way gone in
    let rows : children_of t.forest table ≡ children_of x.forest table =
    ap (λ z. children_of z table) forest ∙ gone.lower.children table ∙ gone.reset.children table in
    let row : slice_get (children_of t.forest table) new ≡ Some come.row =
    ap (λ xs. slice_get xs new) rows ∙ new_row_at f table new come.row come.set come.grown x.forest come.way in
    let removes : remove_step come.row t ≡ Ok u = sym (ap (λ o. row_removed o t) row) ∙ e in
    let ordered : IsForest t.forest = subst IsForest (sym forest) gone.shrunk_in_order in
    let up : parent_of t.forest come.row ≡ Some table =
    above_is t.forest come.row table ordered (is_among-slice_get (children_of t.forest table) come.row new row) in
    let others : children_of (take_out come.row t.forest) table ≡ children_of f table = ap (λ z. children_of (take_out come.row z) table) forest ∙ alike.keys in
    let some : i < length (children_of f table) = slice_get_within (children_of f table) i k at in
    let more : (size_of (take_out come.row t.forest) table == 0) ≡ false =
    ap (λ (xs : List ℕ). length xs == 0) others ∙ grind (arith, eqb_tells (length (children_of f table)) 0, some) in
    let taken : u.forest ≡ take_out come.row y.forest = removed_forest come.row table t u ordered up more removes ∙ ap (take_out come.row) forest in
    ap (λ z. grid_of z table) taken ∙ same_grid f (take_out come.row y.forest) table alike

caret_goes : (keys : List ℕ) (row column : ℕ) (w v : Working) → caret_without_row keys row column w ≡ Ok v → v.forest ≡ w.forest
caret_goes keys row column w v e =
    let left : List Spot = spots_over w.forest [] keys in careted_forest (option_or (spot_at left (min row (length keys - 1)) column) (first_spot left)) w v e

shrinks : (x h y : Working) (table new : ℕ) → IsReady x → heights_set (spots_of x.forest table) x ≡ Ok h
    → in_turn lower (crossing new (spots_of x.forest table)) h ≡ Ok y → IsShrunk table new x.forest h.forest y.forest
shrinks x h y table new ready set e =
    let lower = changed (λ n. n - 1) x h y table new ready set e in
    record { opened_in_order = ready.in_order; reset = heights_spanned x h table ready.in_order set; lower = lower.0; shrunk_in_order = lower.1.in_order }

goes : (f : Forest) (table new column i k : ℕ) (x h u : Working) (come : HasCome f table new x) → slice_get (children_of f table) i ≡ Some k
    → heights_set (spots_of x.forest table) x ≡ Ok h → row_taken table (spots_of x.forest table) new column h ≡ Ok u → grid_of u.forest table ≡ grid_of f table
unfolding row_taken
goes f table new column i k x h u come at set e =
    let spots : List Spot = spots_of x.forest table in
    let removed_at : Working → Result Working Cause = λ t. row_removed (slice_get (children_of t.forest table) new) t in
    let careted : Working → Result Working Cause = λ y. after (caret_without_row (without_at new (children_of y.forest table)) new column y) removed_at in
    let a = first_part (in_turn lower (crossing new spots) h)
    (λ y. after (all_moved_down spots new (slice_get (children_of y.forest table) (new + 1)) y) careted) u e in
    let b = first_part (all_moved_down spots new (slice_get (children_of a.0.forest table) (new + 1)) a.0) careted u a.2 in
    let c = first_part (caret_without_row (without_at new (children_of b.0.forest table)) new column b.0) removed_at u b.2 in
    row_goes f table new i k x h a.0 b.0 c.0 u come at (shrinks x h a.0 table new come.ready set a.1)
    (none_moves spots new (slice_get (children_of a.0.forest table) (new + 1)) a.0 b.0 (none_below f table new x come) b.1)
    (caret_goes (without_at new (children_of b.0.forest table)) new column b.0 c.0 c.1) c.2

-- ---- the commands

placed : (w v : Working) (p : Place) (command : Place → Working → Result Working Cause) → place_of w ≡ Ok p → at_place command w ≡ Ok v
    → (h : Working) × (heights_set p.spots w ≡ Ok h) × (command p h ≡ Ok v)
placed w v p command at e =
    first_part (heights_set p.spots w) (command p) v (sym (ap (λ r. after r (λ (q : Place). after (heights_set q.spots w) (command q))) at) ∙ e)

inserted_at : (behind : Bool) (p : Place) (w v : Working) → row_inserted p.table p.spots (row_beside behind p.spot) w ≡ Ok v
    → (like : ℕ) × (row_inserted p.table p.spots (record { index = new_row behind p.spot; like = like }) w ≡ Ok v)
inserted_at false p w v e = (p.spot.row, e)
inserted_at true p w v e = (p.spot.row + p.spot.height - 1, e)

pub rows_come_and_go : (behind : Bool) (w v u : Working) (s : Selection) (p q : Place) → IsReady w → place_of w ≡ Ok p → insert_row_step behind w ≡ Ok v
    → place_of (record v { selection = s }) ≡ Ok q
    → q.table ≡ p.table → q.spot.row ≡ new_row behind p.spot → delete_row_step (record v { selection = s }) ≡ Ok u
    → grid_of u.forest p.table ≡ grid_of w.forest p.table
unfolding insert_row_step delete_row_step
rows_come_and_go behind w v u s p q ready at inserts at_new table row deletes =
    let f : Forest = w.forest in
    let new : ℕ = new_row behind p.spot in
    let x : Working = record v { selection = s } in
    let was : IsTold w.forest p = place_told w p at in
    let a = placed w v p (λ z. row_inserted z.table z.spots (row_beside behind z.spot)) at inserts in
    let b = inserted_at behind p a.0 v a.2 in
    let come_v : HasCome f p.table new v =
    comes w a.0 v p.table new b.0 p.spot.row was.own.key ready was.own.row (sym (ap (λ z. heights_set z w) was.spots) ∙ a.1)
    (sym (ap (λ z. row_inserted p.table z (record { index = new; like = b.0 }) a.0) was.spots) ∙ b.1) in
    let come : HasCome f p.table new x = record {
      row = come_v.row;
      set = come_v.set;
      grown = come_v.grown;
      way = come_v.way;
      ready = record { in_order = come_v.ready.in_order; free = come_v.ready.free };
    } in
    let now : IsTold v.forest q = place_told x q at_new in
    let spots : q.spots ≡ spots_of v.forest p.table = now.spots ∙ ap (spots_of v.forest) table in
    let c = placed x u q row_deleted at_new deletes in
    let set : heights_set (spots_of v.forest p.table) x ≡ Ok c.0 = sym (ap (λ z. heights_set z x) spots) ∙ c.1 in
    let alone : list_all (is_in_row_alone q.spot.row) q.spots ≡ false =
    ap (λ r. list_all (is_in_row_alone r) q.spots) row ∙ ap (list_all (is_in_row_alone new)) spots
    ∙ not_alone f p.table new p.spot.row was.own.key p.spot.cell x come was.own.row was.own.among in
    let taken : row_taken q.table q.spots q.spot.row q.spot.column c.0 ≡ Ok u = (let rest = c.2 in rw alone at rest) in
    let takes : row_taken p.table (spots_of v.forest p.table) new q.spot.column c.0 ≡ Ok u = rw (← spots, ← table, ← row) taken in
    goes f p.table new q.spot.column p.spot.row was.own.key x c.0 u come was.own.row set takes
