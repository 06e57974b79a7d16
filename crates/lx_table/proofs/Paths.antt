-- What holds of each step of a draft, and of one after another, holds of what commands of tables are made of. All of them may put
-- any key.
use Rattle.std.proofs.Common.{◌≡◌, ℕ, ◌+◌, ◌-◌, ◌==◌, Bool, false, List, [], length, Option, None, Some, Result, Ok}
use Rattle.std.specs.Prelude.{min, filter, nat_lt}
use Rattle.std.specs.List.{slice_get, list_any, list_all}
use Rattle.std.specs.Option.{option_or}
use Rattle.lx_node.specs.Plain.{plain_element}
use Rattle.lx_node.specs.declared.kind.Kind.TheVariants.{Paragraph, Table, Row, Cell}
use Rattle.lx_node.specs.declared.fields.Fields.{Fields}
use Rattle.lx_node.specs.declared.cause.Cause.{Cause}
use Rattle.lx_node.specs.declared.cause.Point.{Point}
use Rattle.lx_select.specs.declared.selection.Selection.TheVariants.{Range}
use Rattle.lx_forest.specs.Lookups.{kind_of, fields_of, children_of, size_of, index_of}
use Rattle.lx_draft.specs.Working.{Working}
use Rattle.lx_draft.specs.Faults.{answer, after}
use Rattle.lx_draft.specs.Steps.{new_step, take_step, put_step}
use Rattle.lx_draft.specs.Beside.{put_behind_step}
use Rattle.lx_edit.specs.InTurn.{in_turn}
use Rattle.lx_edit.specs.Edits.{element_point, remove_step, replace_step, children_step}
use Rattle.lx_edit.specs.Texts.{keys_from}
use Rattle.lx_edit.proofs.Paths.{Leads, self, ok, allowed, every, put_behind_path, remove_path, replace_path, children_path}
use Rattle.lx_blocks.proofs.Paths.{IsWay, stays, either, chained, by_read, select_path}
use Rattle.lx_blocks.specs.Blocks.{outer_block}
use Rattle.lx_blocks.specs.Starts.{start_within}
use Rattle.lx_table.specs.declared.spots.Spot.{Spot}
use Rattle.lx_table.specs.declared.rectangles.Rectangle.{Rectangle}
use Rattle.lx_table.specs.declared.spots.Line.{Line}
use Rattle.lx_table.specs.declared.places.CellRange.{CellRange}
use Rattle.lx_table.specs.Spots.{spot_of, spot_at, stands_in_column, end_column, row_beside, column_beside}
use Rattle.lx_table.specs.Spans.{row_header, column_header, header_of, over_span, with_spans, spans_written, span_step, height_set, heights_set}
use Rattle.lx_table.specs.Grid.{spots_of, spots_over}
use Rattle.lx_table.specs.Reading.{header_at, own_index, rectangle_of, gap_in}
use Rattle.lx_table.specs.Places.{selected_cells, focus_of, Place, place_of, at_place, format_of, caret_step, caret_in_step, caret_in_spot}
use Rattle.lx_table.specs.Making.{cell_fields, cell_made, cells_made, headers_at, cell_made_at, row_made, first_cell, caret_in_cell, table_made, place_fault, table_behind, insert_table_step}
use Rattle.lx_table.specs.Growing.{crossing, taller, column_filled, row_inserted, insert_row_step, is_bound, column_between, wider_in, column_at_spot, column_in_row, row_widened, column_inserted, insert_column_step}
use Rattle.lx_table.specs.Shrinking.{table_replaced, first_spot, is_in_row_alone, goes_below, lower, moved_down, all_moved_down, without_at, caret_without_row, row_removed, row_taken, row_deleted, delete_row_step, narrower, is_wide_at, narrow_cells, caret_beside, column_taken, column_deleted, delete_column_step}
use Rattle.lx_table.specs.Merging.{is_empty_paragraph, content_moved, merged_into, is_other_in, all_merged, merged_from, no_gap, merged_in, found, merged_between, merged_cells, merge_selected, merge_cells_step, behind_cell, row_opened, row_unmerged, cell_unmerged, unmerge_step}

module _ {D : Working → Type 0} {R : Working → Working → Type 0} (way : IsWay D R) where
  -- a change that may be refused beforehand
  chosen : (w u v : Working) (o : Option Cause) → R w u → answer o u ≡ Ok v → R w v
  chosen w u v None c e = ok R w u v c e
  chosen w u v (Some cause) c e = absurd (cc)

  puts : (k p index : ℕ) → Leads D R (put_step k p index)
  puts k p index w v r e = way.put k p index w v tt r e

  -- ---- the caret

  caret_path : (p : Point) → Leads D R (caret_step p)
  unfolding caret_step
  caret_path p w v r e = select_path way (Range p p (format_of w.selection)) w v r e

  caret_in_path : (k : ℕ) → Leads D R (caret_in_step k)
  unfolding caret_in_step
  caret_in_path k w v r e = caret_path (start_within w.forest k) w v r e

  caret_in_spot_path : (o : Option Spot) → Leads D R (caret_in_spot o)
  caret_in_spot_path None w v r e = stays way w v r e
  caret_in_spot_path (Some s) w v r e = caret_in_path s.cell w v r e

  -- ---- spans

  spans_written_path : (rows columns cell : ℕ) (o : Option Fields) → Leads D R (spans_written rows columns cell o)
  spans_written_path rows columns cell None w v r e = stays way w v r e
  spans_written_path rows columns cell (Some fields) w v r e = way.set cell (with_spans rows columns fields) w v r e

  span_path : (rows columns cell : ℕ) → Leads D R (span_step rows columns cell)
  unfolding span_step
  span_path rows columns cell w v r e =
      allowed R w v (option_or (over_span rows) (over_span columns)) (λ u. spans_written rows columns cell (fields_of u.forest cell) u)
      (λ f. spans_written_path rows columns cell (fields_of w.forest cell) w v r f) e

  heights_path : (spots : List Spot) → Leads D R (heights_set spots)
  unfolding heights_set
  heights_path spots w v r e = every way height_set spots (λ s. span_path s.height s.width s.cell) w v r e

  at_place_path : (command : Place → Working → Result Working Cause) → ((p : Place) → Leads D R (command p)) → Leads D R (at_place command)
  at_place_path command each w v r e =
      by_read way w v (place_of w) (λ p u. after (heights_set p.spots u) (command p))
      (λ p f. chained way (heights_set p.spots) (λ u. command p) (heights_path p.spots) (λ u. each p) w v r f) e

  -- ---- new cells

  cell_made_path : (header row index : ℕ) → Leads D R (cell_made header row index)
  unfolding cell_made
  cell_made_path header row index w v r e =
      chained way (new_step Cell (cell_fields header))
      (λ x y. after (new_step Paragraph plain_element y) (λ u. after (put_step y.next_key x.next_key 0 u) (put_step x.next_key row index)))
      (way.new Cell (cell_fields header))
      (λ x. chained way (new_step Paragraph plain_element) (λ y u. after (put_step y.next_key x.next_key 0 u) (put_step x.next_key row index))
      (way.new Paragraph plain_element)
      (λ y. chained way (put_step y.next_key x.next_key 0) (λ u. put_step x.next_key row index) (puts y.next_key x.next_key 0)
      (λ u. puts x.next_key row index)))
      w v r e

  cells_made_path : (header row index n : ℕ) → Leads D R (cells_made header row index n)
  cells_made_path header row index n w v r e = every way (cell_made header row) (keys_from index n) (λ i. cell_made_path header row i) w v r e

  row_made_path : (headers : Bool) (columns table row : ℕ) → Leads D R (row_made headers columns table row)
  unfolding row_made
  row_made_path headers columns table row w v r e =
      chained way (new_step Row plain_element)
      (λ x y. after (in_turn (cell_made_at headers row x.next_key) (keys_from 0 columns) y) (put_step x.next_key table row)) (way.new Row plain_element)
      (λ x. chained way (in_turn (cell_made_at headers row x.next_key) (keys_from 0 columns)) (λ y. put_step x.next_key table row)
      (every way (cell_made_at headers row x.next_key) (keys_from 0 columns) (λ i. cell_made_path (headers_at headers row i) x.next_key i))
      (λ y. puts x.next_key table row))
      w v r e

  caret_in_cell_path : (o : Option ℕ) → Leads D R (caret_in_cell o)
  caret_in_cell_path None w v r e = stays way w v r e
  caret_in_cell_path (Some cell) w v r e = caret_in_path cell w v r e

  table_made_path : (rows columns : ℕ) (headers : Bool) (place : ℕ) → Leads D R (table_made rows columns headers place)
  unfolding table_made
  table_made_path rows columns headers place w v r e =
      let last : ℕ → Working → Result Working Cause = λ k put. caret_in_cell (first_cell put.forest k) put in
      let placed : ℕ → Working → Result Working Cause = λ k u. after (put_behind_step k place u) (last k) in
      chained way (new_step Table plain_element) (λ x y. after (in_turn (row_made headers columns x.next_key) (keys_from 0 rows) y) (placed x.next_key))
      (way.new Table plain_element)
      (λ x. chained way (in_turn (row_made headers columns x.next_key) (keys_from 0 rows)) (λ y. placed x.next_key)
      (every way (row_made headers columns x.next_key) (keys_from 0 rows) (λ i. row_made_path headers columns x.next_key i))
      (λ y. chained way (put_behind_step x.next_key place) (λ u. last x.next_key) (put_behind_path way x.next_key place tt)
      (λ u. λ a b s f. caret_in_cell_path (first_cell a.forest x.next_key) a b s f)))
      w v r e

  table_behind_path : (rows columns : ℕ) (headers : Bool) (focus : ℕ) (o : Option ℕ) → Leads D R (table_behind rows columns headers focus o)
  table_behind_path rows columns headers focus None w v r e = chosen w w v (place_fault (kind_of w.forest focus)) (self way w r) e
  table_behind_path rows columns headers focus (Some place) w v r e = table_made_path rows columns headers place w v r e

  pub insert_table_path : (rows columns : ℕ) (headers : Bool) → Leads D R (insert_table_step rows columns headers)
  unfolding insert_table_step
  insert_table_path rows columns headers w v r e =
      by_read way w v (focus_of w) (λ k u. table_behind rows columns headers k (outer_block u.forest k) u)
      (λ k f. table_behind_path rows columns headers k (outer_block w.forest k) w v r f) e

  -- ---- rows and columns that come

  column_filled_path : (spots above : List Spot) (like key column : ℕ) → Leads D R (column_filled spots above like key column)
  column_filled_path spots above like key column w v r e =
      either way (list_any (stands_in_column column) above) (λ u. Ok u)
      (λ u. cell_made (header_at u.forest column_header (spot_at spots like column)) key (size_of u.forest key) u)
      (stays way) (λ a b s f. cell_made_path (header_at a.forest column_header (spot_at spots like column)) key (size_of a.forest key) a b s f) w v r e

  row_inserted_path : (table : ℕ) (spots : List Spot) (line : Line) → Leads D R (row_inserted table spots line)
  unfolding row_inserted
  row_inserted_path table spots line w v r e =
      let above : List Spot = crossing line.index spots in
      let cells : ℕ → Working → Result Working Cause = λ k. in_turn (column_filled spots above line.like k) (keys_from 0 (end_column spots)) in
      let put : ℕ → Working → Result Working Cause = λ k u. after (put_step k table line.index u) (cells k) in
      chained way (in_turn taller above) (λ x y. after (new_step Row plain_element y) (put y.next_key))
      (every way taller above (λ s. span_path (s.height + 1) s.width s.cell))
      (λ x. chained way (new_step Row plain_element) (λ y. put y.next_key) (way.new Row plain_element)
      (λ y. chained way (put_step y.next_key table line.index) (λ u. cells y.next_key) (puts y.next_key table line.index)
      (λ u. every way (column_filled spots above line.like y.next_key) (keys_from 0 (end_column spots))
      (λ i. column_filled_path spots above line.like y.next_key i))))
      w v r e

  pub insert_row_path : (behind : Bool) → Leads D R (insert_row_step behind)
  unfolding insert_row_step
  insert_row_path behind w v r e =
      at_place_path (λ p. row_inserted p.table p.spots (row_beside behind p.spot))
      (λ p. row_inserted_path p.table p.spots (row_beside behind p.spot)) w v r e

  column_between_path : (spots : List Spot) (line : Line) (row key : ℕ) → Leads D R (column_between spots line row key)
  column_between_path spots line row key w v r e =
      let header : Working → ℕ = λ u. header_at u.forest row_header (spot_at spots row line.like) in
      let index : Working → ℕ = λ u. own_index u.forest spots key row line.index in
      either way (is_bound spots row line.index) (λ u. cell_made (header u) key (index u) u) (λ u. Ok u)
      (λ a b s f. cell_made_path (header a) key (index a) a b s f) (stays way) w v r e

  wider_in_path : (row : ℕ) (s : Spot) → Leads D R (wider_in row s)
  wider_in_path row s w v r e =
      either way (s.row == row) (span_step s.height (s.width + 1) s.cell) (λ u. Ok u) (span_path s.height (s.width + 1) s.cell) (stays way) w v r e

  column_at_spot_path : (spots : List Spot) (line : Line) (row key : ℕ) (o : Option Spot) → Leads D R (column_at_spot spots line row key o)
  column_at_spot_path spots line row key None w v r e = column_between_path spots line row key w v r e
  column_at_spot_path spots line row key (Some s) w v r e =
      either way (nat_lt s.column line.index) (wider_in row s) (column_between spots line row key) (wider_in_path row s)
      (column_between_path spots line row key) w v r e

  column_in_row_path : (spots : List Spot) (line : Line) (row : ℕ) (o : Option ℕ) → Leads D R (column_in_row spots line row o)
  column_in_row_path spots line row None w v r e = stays way w v r e
  column_in_row_path spots line row (Some key) w v r e = column_at_spot_path spots line row key (spot_at spots row line.index) w v r e

  column_inserted_path : (table : ℕ) (spots : List Spot) (line : Line) → Leads D R (column_inserted table spots line)
  unfolding column_inserted
  column_inserted_path table spots line w v r e =
      every way (row_widened table spots line) (keys_from 0 (size_of w.forest table))
      (λ row. λ a b s f. column_in_row_path spots line row (slice_get (children_of a.forest table) row) a b s f) w v r e

  pub insert_column_path : (behind : Bool) → Leads D R (insert_column_step behind)
  unfolding insert_column_step
  insert_column_path behind w v r e =
      at_place_path (λ p. column_inserted p.table p.spots (column_beside behind p.spot))
      (λ p. column_inserted_path p.table p.spots (column_beside behind p.spot)) w v r e

  -- ---- rows and columns that go

  table_replaced_path : (table : ℕ) → Leads D R (table_replaced table)
  unfolding table_replaced
  table_replaced_path table w v r e =
      chained way (new_step Paragraph plain_element) (λ x y. after (replace_step table x.next_key false y) (caret_step (element_point x.next_key 0)))
      (way.new Paragraph plain_element)
      (λ x. chained way (replace_step table x.next_key false) (λ y. caret_step (element_point x.next_key 0)) (replaces table x.next_key)
      (λ y. caret_path (element_point x.next_key 0)))
      w v r e
    where
      replaces : (k with : ℕ) → Leads D R (replace_step k with false)
      replaces k with a b s f = replace_path way k with false a b s tt (λ u put kept q among. tt) f

  lower_path : (s : Spot) → Leads D R (lower s)
  lower_path s w v r e = span_path (s.height - 1) s.width s.cell w v r e

  moved_down_path : (spots : List Spot) (next : ℕ) (s : Spot) → Leads D R (moved_down spots next s)
  unfolding moved_down
  moved_down_path spots next s w v r e =
      let put : Working → Result Working Cause = λ u. put_step s.cell next (own_index u.forest spots next (s.row + 1) (s.column + 1)) u in
      chained way (lower s) (λ x y. after (take_step s.cell y) put) (lower_path s)
      (λ x. chained way (take_step s.cell) (λ y. put) (way.take s.cell)
      (λ y. λ a b t f. puts s.cell next (own_index a.forest spots next (s.row + 1) (s.column + 1)) a b t f)) w v r e

  all_moved_down_path : (spots : List Spot) (row : ℕ) (o : Option ℕ) → Leads D R (all_moved_down spots row o)
  all_moved_down_path spots row None w v r e = stays way w v r e
  all_moved_down_path spots row (Some next) w v r e =
      every way (moved_down spots next) (filter (goes_below row) spots) (λ s. moved_down_path spots next s) w v r e

  row_removed_path : (o : Option ℕ) → Leads D R (row_removed o)
  row_removed_path None w v r e = stays way w v r e
  row_removed_path (Some key) w v r e = remove_path way key w v r e

  caret_without_row_path : (keys : List ℕ) (row column : ℕ) → Leads D R (caret_without_row keys row column)
  caret_without_row_path keys row column w v r e =
      let left : List Spot = spots_over w.forest [] keys in
      caret_in_spot_path (option_or (spot_at left (min row (length keys - 1)) column) (first_spot left)) w v r e

  row_taken_path : (table : ℕ) (spots : List Spot) (row column : ℕ) → Leads D R (row_taken table spots row column)
  unfolding row_taken
  row_taken_path table spots row column w v r e =
      let removed : Working → Result Working Cause = λ t. row_removed (slice_get (children_of t.forest table) row) t in
      let careted : Working → Result Working Cause = λ u. after (caret_without_row (without_at row (children_of u.forest table)) row column u) removed in
      let moved : Working → Result Working Cause = λ y. after (all_moved_down spots row (slice_get (children_of y.forest table) (row + 1)) y) careted in
      chained way (in_turn lower (crossing row spots)) (λ x. moved) (every way lower (crossing row spots) (λ s. lower_path s))
      (λ x. chained way (λ y. all_moved_down spots row (slice_get (children_of y.forest table) (row + 1)) y) (λ y. careted)
      (λ a b s f. all_moved_down_path spots row (slice_get (children_of a.forest table) (row + 1)) a b s f)
      (λ y. chained way (λ u. caret_without_row (without_at row (children_of u.forest table)) row column u) (λ u. removed)
      (λ a b s f. caret_without_row_path (without_at row (children_of a.forest table)) row column a b s f)
      (λ u. λ a b s f. row_removed_path (slice_get (children_of a.forest table) row) a b s f)))
      w v r e

  row_deleted_path : (p : Place) → Leads D R (row_deleted p)
  row_deleted_path p w v r e =
      either way (list_all (is_in_row_alone p.spot.row) p.spots) (table_replaced p.table) (row_taken p.table p.spots p.spot.row p.spot.column)
      (table_replaced_path p.table) (row_taken_path p.table p.spots p.spot.row p.spot.column) w v r e

  pub delete_row_path : Leads D R delete_row_step
  unfolding delete_row_step
  delete_row_path w v r e = at_place_path row_deleted row_deleted_path w v r e

  caret_beside_path : (left : List Spot) (row column : ℕ) → Leads D R (caret_beside left row column)
  caret_beside_path left row column w v r e =
      caret_in_spot_path (option_or (spot_at left row column) (option_or (spot_at left row (column - 1)) (first_spot left))) w v r e

  column_taken_path : (table : ℕ) (spots : List Spot) (row column : ℕ) → Leads D R (column_taken table spots row column)
  unfolding column_taken
  column_taken_path table spots row column w v r e =
      let gone : List ℕ = narrow_cells column spots in
      let careted : Working → Result Working Cause = λ y. caret_beside (spots_over y.forest gone (children_of y.forest table)) row column y in
      chained way (in_turn narrower (filter (is_wide_at column) spots)) (λ x y. after (careted y) (in_turn remove_step gone))
      (every way narrower (filter (is_wide_at column) spots) (λ s. span_path s.height (s.width - 1) s.cell))
      (λ x. chained way careted (λ y. in_turn remove_step gone)
      (λ a b s f. caret_beside_path (spots_over a.forest gone (children_of a.forest table)) row column a b s f)
      (λ y. every way remove_step gone (λ k. remove_path way k)))
      w v r e

  column_deleted_path : (p : Place) → Leads D R (column_deleted p)
  column_deleted_path p w v r e =
      either way (end_column p.spots == 1) (table_replaced p.table) (column_taken p.table p.spots p.spot.row p.spot.column)
      (table_replaced_path p.table) (column_taken_path p.table p.spots p.spot.row p.spot.column) w v r e

  pub delete_column_path : Leads D R delete_column_step
  unfolding delete_column_step
  delete_column_path w v r e = at_place_path column_deleted column_deleted_path w v r e

  -- ---- cells that become one, and one that becomes many

  content_moved_path : (first cell : ℕ) → Leads D R (content_moved first cell)
  content_moved_path first cell w v r e =
      either way (is_empty_paragraph w.forest (children_of w.forest cell)) (λ u. Ok u) (children_step cell first) (stays way) (moves cell first) w v r e
    where
      moves : (from to : ℕ) → Leads D R (children_step from to)
      moves from to a b s f = children_path way from to a b s (λ q among. tt) f

  merged_into_path : (first : ℕ) (s : Spot) → Leads D R (merged_into first s)
  unfolding merged_into
  merged_into_path first s w v r e =
      chained way (content_moved first s.cell) (λ x. remove_step s.cell) (content_moved_path first s.cell) (λ x. remove_path way s.cell) w v r e

  all_merged_path : (spots : List Spot) (rect : Rectangle) (first : ℕ) → Leads D R (all_merged spots rect first)
  unfolding all_merged
  all_merged_path spots rect first w v r e =
      let others : List Spot = filter (is_other_in rect first) spots in
      let merged : Working → Result Working Cause = λ u. after (in_turn (merged_into first) others u) (caret_in_step first) in
      chained way (caret_in_step first) (λ x y. after (span_step (rect.bottom - rect.top) (rect.right - rect.left) first y) merged) (caret_in_path first)
      (λ x. chained way (span_step (rect.bottom - rect.top) (rect.right - rect.left) first) (λ y. merged)
      (span_path (rect.bottom - rect.top) (rect.right - rect.left) first)
      (λ y. chained way (in_turn (merged_into first) others) (λ u. caret_in_step first) (every way (merged_into first) others (λ s. merged_into_path first s))
      (λ u. caret_in_path first)))
      w v r e

  merged_from_path : (spots : List Spot) (rect : Rectangle) (o : Option Spot) → Leads D R (merged_from spots rect o)
  merged_from_path spots rect None w v r e = stays way w v r e
  merged_from_path spots rect (Some s) w v r e = all_merged_path spots rect s.cell w v r e

  merged_in_path : (spots : List Spot) (rect : Rectangle) → Leads D R (merged_in spots rect)
  merged_in_path spots rect w v r e =
      allowed R w v (no_gap (gap_in spots rect)) (merged_from spots rect (spot_at spots rect.top rect.left))
      (λ f. merged_from_path spots rect (spot_at spots rect.top rect.left) w v r f) e

  merged_between_path : (spots : List Spot) (a b : ℕ) → Leads D R (merged_between spots a b)
  merged_between_path spots a b w v r e =
      by_read way w v (found a (spot_of spots a)) (λ s u. after (found b (spot_of spots b)) (λ t. merged_in spots (rectangle_of spots s t) u))
      (λ s f. by_read way w v (found b (spot_of spots b)) (λ t u. merged_in spots (rectangle_of spots s t) u)
      (λ t g. merged_in_path spots (rectangle_of spots s t) w v r g) f) e

  merged_cells_path : (c : CellRange) → Leads D R (merged_cells c)
  unfolding merged_cells
  merged_cells_path c w v r e =
      let spots : List Spot = spots_of w.forest c.table in
      chained way (heights_set spots) (λ x. merged_between spots c.anchor c.focus) (heights_path spots) (λ x. merged_between_path spots c.anchor c.focus) w v r e

  merge_selected_path : (o : Option CellRange) → Leads D R (merge_selected o)
  merge_selected_path (Some c) w v r e = merged_cells_path c w v r e
  merge_selected_path None w v r e = absurd (cc)

  pub merge_cells_path : Leads D R merge_cells_step
  unfolding merge_cells_step
  merge_cells_path w v r e = by_read way w v (selected_cells w) merge_selected (λ o f. merge_selected_path o w v r f) e

  row_opened_path : (p : Place) (header row : ℕ) (o : Option ℕ) → Leads D R (row_opened p header row o)
  row_opened_path p header row None w v r e = stays way w v r e
  row_opened_path p header row (Some key) w v r e =
      let s : Spot = p.spot in
      either way (row == s.row) (λ u. cells_made header key (behind_cell (index_of u.forest s.cell)) (s.width - 1) u)
      (λ u. cells_made header key (own_index u.forest p.spots key row (s.column + 1)) s.width u)
      (λ a b t f. cells_made_path header key (behind_cell (index_of a.forest s.cell)) (s.width - 1) a b t f)
      (λ a b t f. cells_made_path header key (own_index a.forest p.spots key row (s.column + 1)) s.width a b t f) w v r e

  cell_unmerged_path : (p : Place) → Leads D R (cell_unmerged p)
  unfolding cell_unmerged
  cell_unmerged_path p w v r e =
      let header : ℕ = header_of w.forest p.spot.cell in
      chained way (span_step 1 1 p.spot.cell) (λ x. in_turn (row_unmerged p header) (keys_from p.spot.row p.spot.height)) (span_path 1 1 p.spot.cell)
      (λ x. every way (row_unmerged p header) (keys_from p.spot.row p.spot.height)
      (λ row. λ a b s f. row_opened_path p header row (slice_get (children_of a.forest p.table) row) a b s f)) w v r e

  pub unmerge_path : Leads D R unmerge_step
  unfolding unmerge_step
  unmerge_path w v r e = at_place_path cell_unmerged cell_unmerged_path w v r e
