-- Two forests in which a table has the same grid.
use Rattle.std.proofs.Common.{◌≡◌, ◌∙◌, ℕ, suc, ◌+◌, ◌-◌, true, List, [], ◌∷◌, ◌++◌, length, Some, refl, sym, ap, subst, arith}
use Rattle.std.specs.Prelude.{min}
use Rattle.std.specs.List.{slice_get}
use Rattle.std.proofs.lemmas.Bool.Decides.{eqb_tells}
use Rattle.lx_trees.specs.Siblings.{is_among}
use Rattle.lx_forest.specs.Forest.{Forest}
use Rattle.lx_forest.specs.Lookups.{children_of}
use Rattle.lx_table.specs.declared.spots.Spot.{Spot}
use Rattle.lx_table.specs.Spots.{end_column}
use Rattle.lx_table.specs.Spans.{row_span, column_span}
use Rattle.lx_table.specs.Grid.{Grid, first_free, spot_behind, row_filled, filled, spots_over, spots_of, grid_of}
use Rattle.lx_table.proofs.Filled.{none_gone}

-- a row has the same cells, which have as many columns, and as many of the rows that are left
pub record IsAlikeRow (f g : Forest) (most key : ℕ) : Type 0 where
  pub cells : children_of g key ≡ children_of f key
  pub columns : (q : ℕ) → is_among q (children_of f key) ≡ true → column_span g q ≡ column_span f q
  pub rows : (q : ℕ) → is_among q (children_of f key) ≡ true → min (row_span g q) most ≡ min (row_span f q) most

-- so it is in each row of a table
pub record IsAlike (f g : Forest) (table : ℕ) : Type 0 where
  pub keys : children_of g table ≡ children_of f table
  pub each : (i k : ℕ) → slice_get (children_of f table) i ≡ Some k → IsAlikeRow f g (length (children_of f table) - i) k

same_spot : (f g : Forest) (rows row cell : ℕ) (earlier : List Spot) → column_span g cell ≡ column_span f cell
    → min (row_span g cell) (rows - row) ≡ min (row_span f cell) (rows - row)
    → spot_behind g rows row earlier cell ≡ spot_behind f rows row earlier cell
same_spot f g rows row cell earlier columns height =
    ap (λ (n : ℕ). let made : Spot = record
    { cell = cell; row = row; column = first_free earlier row n; height = min (row_span g cell) (rows - row); width = n } in made) columns
    ∙ ap (λ (n : ℕ). let made : Spot = record
    { cell = cell; row = row; column = first_free earlier row (column_span f cell); height = n; width = column_span f cell } in made) height

same_row : (f g : Forest) (rows row : ℕ) (cells : List ℕ) (earlier : List Spot) → ((q : ℕ) → is_among q cells ≡ true → column_span g q ≡ column_span f q)
    → ((q : ℕ) → is_among q cells ≡ true → min (row_span g q) (rows - row) ≡ min (row_span f q) (rows - row))
    → row_filled g rows row cells earlier ≡ row_filled f rows row cells earlier
same_row f g rows row [] earlier columns heights = refl
same_row f g rows row (cell ∷ cells) earlier columns heights =
    let first : is_among cell (cell ∷ cells) ≡ true = grind (arith, eqb_tells cell cell) in
    ap (λ (s : Spot). row_filled g rows row cells (earlier ++ s ∷ [])) (same_spot f g rows row cell earlier (columns cell first) (heights cell first))
    ∙ same_row f g rows row cells (earlier ++ spot_behind f rows row earlier cell ∷ []) (λ q among. columns q (grind (arith, among)))
    (λ q among. heights q (grind (arith, among)))

same_rows : (f g : Forest) (rows row : ℕ) (later : List ℕ) (earlier : List Spot)
    → ((i n k : ℕ) → n ≡ row + i → slice_get later i ≡ Some k → IsAlikeRow f g (rows - n) k)
    → filled g [] rows row later earlier ≡ filled f [] rows row later earlier
same_rows f g rows row [] earlier each = refl
same_rows f g rows row (key ∷ later) earlier each =
    let here : IsAlikeRow f g (rows - row) key = each 0 row key (omega arith) refl in
    ap (λ (xs : List ℕ). filled g [] rows (row + 1) later (row_filled g rows row xs earlier)) (none_gone (children_of g key) ∙ here.cells)
    ∙ ap (λ (spots : List Spot). filled g [] rows (row + 1) later spots) (same_row f g rows row (children_of f key) earlier here.columns here.rows)
    ∙ same_rows f g rows (row + 1) later (row_filled f rows row (children_of f key) earlier) (λ i n k is at. each (suc i) n k (omega (arith, is)) at)
    ∙ ap (λ (xs : List ℕ). filled f [] rows (row + 1) later (row_filled f rows row xs earlier)) (sym (none_gone (children_of f key)))

pub same_grid : (f g : Forest) (table : ℕ) → IsAlike f g table → grid_of g table ≡ grid_of f table
unfolding spots_over
same_grid f g table alike =
    let keys : List ℕ = children_of f table in
    let spots : spots_of g table ≡ spots_of f table =
    ap (λ (xs : List ℕ). filled g [] (length xs) 0 xs []) alike.keys
    ∙ same_rows f g (length keys) 0 keys []
    (λ i n k is at. let same : i ≡ n = omega (arith, is) in subst (λ m. IsAlikeRow f g (length keys - m) k) same (alike.each i k at)) in
    ap (λ (xs : List ℕ). let made : Grid = record { spots = spots_of g table; rows = length xs; columns = end_column (spots_of g table) } in made) alike.keys
    ∙ ap (λ (zs : List Spot). let made : Grid = record { spots = zs; rows = length keys; columns = end_column zs } in made) spots
