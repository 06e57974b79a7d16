-- Where the cells of a table are. A spot is a cell with its row and its column, and the numbers of rows and columns that it
-- covers from there; commands know a table by its spots.
use Rattle.std.specs.Prelude.{ℕ, ◌+◌, ◌-◌, ◌≤◌, ◌==◌, ◌&&◌, Bool, true, false, nat_lt, nat_le, max, List, [], ◌∷◌, find, Option}
use Rattle.std.specs.List.{list_any}
use Rattle.lx_table.specs.declared.spots.Line.{Line}
use Rattle.lx_table.specs.declared.spots.Spot.{Spot}

-- a number is one of so many from another on
abbrev pub is_among_from : ℕ → ℕ → ℕ → Bool
is_among_from first count n = nat_le first n && nat_lt n (first + count)

-- a spot covers places of a row
abbrev pub stands_in_row : ℕ → Spot → Bool
stands_in_row row s = is_among_from s.row s.height row

-- a spot covers places of a column
abbrev pub stands_in_column : ℕ → Spot → Bool
stands_in_column column s = is_among_from s.column s.width column

-- a spot covers a place
abbrev pub covers : ℕ → ℕ → Spot → Bool
covers row column s = stands_in_row row s && stands_in_column column s

-- one of these spots covers a place
abbrev pub is_covered : List Spot → ℕ → ℕ → Bool
is_covered spots row column = list_any (covers row column) spots

-- a spot is that of a cell
abbrev pub is_of_cell : ℕ → Spot → Bool
is_of_cell cell s = s.cell == cell

-- the spot of a cell, if it is among these
abbrev pub spot_of : List Spot → ℕ → Option Spot
spot_of spots cell = find (is_of_cell cell) spots

-- the spot that covers a place: none where the place is free
abbrev pub spot_at : List Spot → ℕ → ℕ → Option Spot
spot_at spots row column = find (covers row column) spots

-- one column more than the greatest that is covered
abbrev pub end_column : List Spot → ℕ
end_column [] = 0
end_column (s ∷ spots) = max (s.column + s.width) (end_column spots)

-- where a new row or column comes before a cell or after it, and which one of the cell is beside it then
abbrev pub beside : Bool → ℕ → ℕ → Line
beside false first end = record { index = first; like = first }
beside true first end = record { index = end; like = end - 1 }

-- a new row before a cell or after it
abbrev pub row_beside : Bool → Spot → Line
row_beside behind s = beside behind s.row (s.row + s.height)

-- a new column before a cell or after it
abbrev pub column_beside : Bool → Spot → Line
column_beside behind s = beside behind s.column (s.column + s.width)

-- the most nodes among which a table is looked for: so few that spots are small, as no cell spans more than 1000
-- columns
abbrev pub most_cells : ℕ
most_cells = 1048576

-- a number far below the last one of a machine
abbrev pub most_end : ℕ
most_end = 2000000000

-- a spot ends before that number
pub record IsSmall (s : Spot) : Type 0 where
  pub rows : s.row + s.height ≤ most_end
  pub columns : s.column + s.width ≤ most_end
