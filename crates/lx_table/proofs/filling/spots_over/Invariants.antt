use Rattle.std.proofs.Common.{◌≡◌, ◌≤◌, ◌+◌, length, drop}
use Rattle.lx_table.specs.Spots.{most_cells}
use Rattle.lx_table.specs.Grid.{filled, spots_over}
use Rattle.lx_table.specs.Filling.{IsFilled, cells_among}
use Rattle.lx_table.proofs.filling.spots_over.Given as goal

-- the rows that are left, after those that are filled, come to all
abbrev pub invariant-loop-key : goal.invariant-loop-key
invariant-loop-key l = record {
  on : filled l.links l.gone (length l.keys) l.row (drop l.key-index l.keys) l.found.spots.items ≡ spots_over l.links l.gone l.keys;
  filled : IsFilled l.row l.found.spots.items l.found.standing.items;
  few : length l.found.spots.items + cells_among l.links (drop l.key-index l.keys) ≤ most_cells;
  row : l.row ≡ l.key-index;
}
