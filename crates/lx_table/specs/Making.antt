-- New cells, and a new table.
use Rattle.std.specs.Prelude.{ℕ, ◌+◌, ◌==◌, Bool, true, false, if◌then◌else◌, Option, None, Some, option_and_then, Result, Ok}
use Rattle.lx_node.specs.declared.kind.Kind.{Kind}
use Rattle.lx_node.specs.declared.kind.Kind.TheVariants.{Paragraph, Table, Row, Cell}
use Rattle.lx_node.specs.declared.fields.Fields.{Fields}
use Rattle.lx_node.specs.declared.fields.Fields.TheVariants as fields
use Rattle.lx_node.specs.declared.fields.Extra.TheVariants as extra
use Rattle.lx_node.specs.declared.cause.Cause.{Cause}
use Rattle.lx_node.specs.declared.cause.Cause.TheVariants.{WrongKind}
use Rattle.lx_node.specs.Plain.{plain_element, element_with}
use Rattle.lx_forest.specs.Forest.{Forest}
use Rattle.lx_forest.specs.Lookups.{kind_of, first_child}
use Rattle.lx_draft.specs.Working.{Working}
use Rattle.lx_draft.specs.Faults.{answer, after}
use Rattle.lx_draft.specs.Steps.{new_step, put_step}
use Rattle.lx_draft.specs.Beside.{put_behind_step}
use Rattle.lx_edit.specs.InTurn.{in_turn}
use Rattle.lx_edit.specs.Texts.{keys_from}
use Rattle.lx_blocks.specs.Blocks.{outer_block}
use Rattle.lx_table.specs.Places.{focus_of, caret_in_step}

-- ---- cells

-- the fields of a new cell, with this header
abbrev pub cell_fields : ℕ → Fields
cell_fields header = fields.Element (element_with (extra.Cell header 1 1 None))

-- a new cell with a new paragraph in it comes to an index of a row
unfoldable pub cell_made : ℕ → ℕ → ℕ → Working → Result Working Cause
cell_made header row index w =
    after (new_step Cell (cell_fields header) w) (λ v.
    after (new_step Paragraph plain_element v) (λ u.
    after (put_step v.next_key w.next_key 0 u) (put_step w.next_key row index)))

-- so many new cells in a row, from an index on
abbrev pub cells_made : ℕ → ℕ → ℕ → ℕ → Working → Result Working Cause
cells_made header row index n w = in_turn (cell_made header row) (keys_from index n) w

-- ---- insert-table

-- the first row's cells have headers of rows, and the first column's headers of columns
abbrev pub headers_at : Bool → ℕ → ℕ → ℕ
headers_at false row column = 0
headers_at true row column = (if row == 0 then 1 else 0) + (if column == 0 then 2 else 0)

-- the new cell of a row and a column
abbrev pub cell_made_at : Bool → ℕ → ℕ → ℕ → Working → Result Working Cause
cell_made_at headers row key column w = cell_made (headers_at headers row column) key column w

-- a new row with so many cells comes after the rows of a table
unfoldable pub row_made : Bool → ℕ → ℕ → ℕ → Working → Result Working Cause
row_made headers columns table row w =
    after (new_step Row plain_element w) (λ v.
    after (in_turn (cell_made_at headers row w.next_key) (keys_from 0 columns) v) (put_step w.next_key table row))

-- the first cell of a table
abbrev pub first_cell : Forest → ℕ → Option ℕ
first_cell f table = option_and_then (first_child f) (first_child f table)

-- the caret at the start of a cell, if there is one
abbrev pub caret_in_cell : Option ℕ → Working → Result Working Cause
caret_in_cell None w = Ok w
caret_in_cell (Some cell) w = caret_in_step cell w

-- a new table comes after a node, with the caret in its first cell
unfoldable pub table_made : ℕ → ℕ → Bool → ℕ → Working → Result Working Cause
table_made rows columns headers place w =
    after (new_step Table plain_element w) (λ v.
    after (in_turn (row_made headers columns w.next_key) (keys_from 0 rows) v) (λ u.
    after (put_behind_step w.next_key place u) (λ put. caret_in_cell (first_cell put.forest w.next_key) put)))

-- there is no place for a table where the focus is in no child of the root or of a cell
abbrev pub place_fault : Option Kind → Option Cause
place_fault None = None
place_fault (Some kind) = Some (WrongKind kind)

-- a new table comes after the nearest of the focus and what is above it that is a child of the root or of a cell
abbrev pub table_behind : ℕ → ℕ → Bool → ℕ → Option ℕ → Working → Result Working Cause
table_behind rows columns headers focus None w = answer (place_fault (kind_of w.forest focus)) w
table_behind rows columns headers focus (Some place) w = table_made rows columns headers place w

-- the command that inserts a table
unfoldable pub insert_table_step : ℕ → ℕ → Bool → Working → Result Working Cause
insert_table_step rows columns headers w =
    after (focus_of w) (λ k. table_behind rows columns headers k (outer_block w.forest k) w)
