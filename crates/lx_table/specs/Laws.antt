-- What the grid of a table is, and what holds of every command of tables.
use Rattle.std.specs.Prelude.{ℕ, ◌≡◌, ◌<◌, Bool, true, false, Some, Result, Ok}
use Rattle.std.specs.List.{slice_get}
use Rattle.lx_node.specs.declared.cause.Cause.{Cause}
use Rattle.lx_forest.specs.Forest.{Forest}
use Rattle.lx_draft.specs.Working.{Working}
use Rattle.lx_draft.specs.Covering.{IsReady, IsCovering}
use Rattle.lx_table.specs.declared.spots.Spot.{Spot}
use Rattle.lx_table.specs.Spots.{covers}
use Rattle.lx_table.specs.Spans.{heights_set}
use Rattle.lx_table.specs.Grid.{Grid, spots_of, grid_of, IsGrid}
use Rattle.lx_table.specs.Making.{insert_table_step}
use Rattle.lx_table.specs.Growing.{insert_row_step, insert_column_step}
use Rattle.lx_table.specs.Shrinking.{delete_row_step, delete_column_step}
use Rattle.lx_table.specs.Merging.{merge_cells_step, unmerge_step}

-- a table has one grid, which is the one that is found, and no two of its spots share a place
pub record GridsAreTold : Type 0 where
  pub is : (f : Forest) (table : ℕ) → IsGrid f table (grid_of f table)
  pub one : (f : Forest) (table : ℕ) (g h : Grid) → IsGrid f table g → IsGrid f table h → g ≡ h
  -- no two spots share a place
  pub apart : (f : Forest) (table : ℕ) (g : Grid) (i j : ℕ) (a b : Spot) (row c : ℕ) → IsGrid f table g
      → slice_get g.spots i ≡ Some a → slice_get g.spots j ≡ Some b → i < j → covers row c a ≡ true → covers row c b ≡ false

-- where each cell of a table gets the rows that it covers, the table's grid stays as it was
abbrev pub HeightsKeepGrids : Type 0
HeightsKeepGrids = (w v : Working) (table : ℕ) → IsReady w → heights_set (spots_of w.forest table) w ≡ Ok v → grid_of v.forest table ≡ grid_of w.forest table

-- the step of each table command has a property
pub record EachTableCommand (Holds : (Working → Result Working Cause) → Type 0) : Type 0 where
  pub insert_table : (rows columns : ℕ) (headers : Bool) → Holds (insert_table_step rows columns headers)
  pub insert_row : (behind : Bool) → Holds (insert_row_step behind)
  pub insert_column : (behind : Bool) → Holds (insert_column_step behind)
  pub delete_row : Holds delete_row_step
  pub delete_column : Holds delete_column_step
  pub merge_cells : Holds merge_cells_step
  pub unmerge : Holds unmerge_step

-- marks show whatever a command changes
abbrev pub TablesAreCovered : Type 0
TablesAreCovered = EachTableCommand IsCovering
