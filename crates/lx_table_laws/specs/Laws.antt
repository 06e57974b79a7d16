-- What commands of tables do to a grid, one after another, and which cells become one.
use Rattle.std.specs.Prelude.{ℕ, ◌+◌, ◌≡◌, ◌↔◌, Bool, true, false, List, Some, Ok}
use Rattle.std.specs.List.{slice_get}
use Rattle.lx_select.specs.declared.selection.Selection.{Selection}
use Rattle.lx_select.specs.declared.selection.Selection.TheVariants.{Cells}
use Rattle.lx_draft.specs.Working.{Working}
use Rattle.lx_draft.specs.Covering.{IsReady}
use Rattle.lx_table.specs.declared.spots.Spot.{Spot}
use Rattle.lx_table.specs.declared.rectangles.Rectangle.{Rectangle}
use Rattle.lx_table.specs.Spots.{spot_of}
use Rattle.lx_table.specs.Spans.{heights_set}
use Rattle.lx_table.specs.Grid.{spots_of, grid_of}
use Rattle.lx_table.specs.Places.{Place, place_of, are_attached}
use Rattle.lx_table.specs.Growing.{insert_row_step}
use Rattle.lx_table.specs.Shrinking.{delete_row_step}
use Rattle.lx_table.specs.Merging.{merged_in, merge_cells_step}
use Rattle.lx_table.specs.Reading.{around, meet, grown, rectangle_of, starts_in}
use Rattle.lx_table_laws.specs.Rectangles.{IsLeast, holds_spot, HasPlaces, SharePlace}

-- the index of a row that comes before a cell, or after it
abbrev pub new_row : Bool → Spot → ℕ
new_row false s = s.row
new_row true s = s.row + s.height

-- once a row was inserted at the caret's cell and is deleted again by one of its own cells, the grid of the table is as
-- it was
abbrev pub RowsComeAndGo : Type 0
RowsComeAndGo = (behind : Bool) (w v u : Working) (s : Selection) (p q : Place) → IsReady w
    → place_of w ≡ Ok p → insert_row_step behind w ≡ Ok v
    → place_of (record v { selection = s }) ≡ Ok q → q.table ≡ p.table → q.spot.row ≡ new_row behind p.spot
    → delete_row_step (record v { selection = s }) ≡ Ok u → grid_of u.forest p.table ≡ grid_of w.forest p.table

-- the rectangle of two cells is the least that holds both and whose edge no cell crosses
pub record RectanglesAreLeast : Type 0 where
  pub least : (spots : List Spot) (a b : Spot) → IsLeast spots a b (rectangle_of spots a b)
  -- no other rectangle is
  pub one : (spots : List Spot) (a b : Spot) (r : Rectangle) → IsLeast spots a b r → r ≡ rectangle_of spots a b
  -- it is at rest: more turns change nothing
  pub still : (spots : List Spot) (a b : Spot) (n : ℕ) → grown n spots (rectangle_of spots a b) ≡ rectangle_of spots a b
  -- the cells with places that start in it are those that it holds
  pub starts : (spots : List Spot) (a b s : Spot) (i : ℕ) → slice_get spots i ≡ Some s → HasPlaces (around s)
      → starts_in (rectangle_of spots a b) s ≡ holds_spot (rectangle_of spots a b) s
  -- where both have places, a rectangle and a cell share one exactly if they meet
  pub shared : (r : Rectangle) (s : Spot) → HasPlaces r → HasPlaces (around s) → meet r (around s) ≡ true ↔ SharePlace r s

-- merging two selected cells of a table merges those of the least rectangle that holds both and whose edge no cell crosses
abbrev pub MergesGoByLeast : Type 0
MergesGoByLeast = (w v : Working) (table anchor focus : ℕ) (a b : Spot) (r : Rectangle) → w.selection ≡ Cells table anchor focus
    → are_attached w.forest table anchor focus ≡ true → heights_set (spots_of w.forest table) w ≡ Ok v
    → spot_of (spots_of w.forest table) anchor ≡ Some a → spot_of (spots_of w.forest table) focus ≡ Some b
    → IsLeast (spots_of w.forest table) a b r → merge_cells_step w ≡ merged_in (spots_of w.forest table) r v
