-- The spots that are found one after another are the grid.
use Rattle.std.proofs.Common.{◌≡◌, ◌∙◌, ℕ, zero, suc, ◌+◌, List, [], ◌∷◌, ◌++◌, length, take, Some, refl, sym, ap, subst, append_assoc, append-nil}
use Rattle.std.specs.Prelude.{map, filter, not}
use Rattle.std.specs.List.{slice_get}
use Rattle.std.proofs.lemmas.List.{map-append}
use Rattle.lx_trees.specs.Siblings.{is_among}
use Rattle.lx_forest.specs.Forest.{Forest}
use Rattle.lx_forest.specs.Lookups.{children_of}
use Rattle.lx_table.specs.declared.spots.Spot.{Spot}
use Rattle.lx_table.specs.Spans.{column_span}
use Rattle.lx_table.specs.Grid.{IsSpot, in_row, with_rows, cell_and_row, IsGrid, spot_behind, row_filled, cells_left, filled, spots_over, grid_of}
use Rattle.lx_table.proofs.Room.{free_by_room, room_by_free, first_free_has, first_free_least}

spot_behind-is : (f : Forest) (rows row : ℕ) (earlier : List Spot) (cell : ℕ) → IsSpot f rows earlier (spot_behind f rows row earlier cell)
spot_behind-is f rows row earlier cell = record {
  width = refl;
  height = refl;
  free = free_by_room earlier row (column_span f cell) _ (first_free_has earlier row (column_span f cell));
  least = λ c free. first_free_least earlier row (column_span f cell) c (room_by_free earlier row (column_span f cell) c free);
}

-- each of these comes after those before it
abbrev pub AreSpots : Forest → ℕ → List Spot → List Spot → Type 0
AreSpots f rows earlier [] = Unit {0}
AreSpots f rows earlier (s ∷ spots) = IsSpot f rows earlier s × AreSpots f rows (earlier ++ s ∷ []) spots

pub one_behind : (earlier : List Spot) (s : Spot) (spots : List Spot) → (earlier ++ s ∷ []) ++ spots ≡ earlier ++ s ∷ spots
one_behind earlier s spots = append_assoc earlier (s ∷ []) spots

AreSpots-append : (f : Forest) (rows : ℕ) (earlier xs ys : List Spot) → AreSpots f rows earlier xs → AreSpots f rows (earlier ++ xs) ys
    → AreSpots f rows earlier (xs ++ ys)
AreSpots-append f rows earlier [] ys a b = subst (λ zs. AreSpots f rows zs ys) (append-nil earlier) b
AreSpots-append f rows earlier (s ∷ xs) ys a b =
    (a.0, AreSpots-append f rows (earlier ++ s ∷ []) xs ys a.1 (subst (λ zs. AreSpots f rows zs ys) (sym (one_behind earlier s xs)) b))

AreSpots-at : (f : Forest) (rows : ℕ) (earlier spots : List Spot) (i : ℕ) (s : Spot) → AreSpots f rows earlier spots → slice_get spots i ≡ Some s
    → IsSpot f rows (earlier ++ take i spots) s
AreSpots-at f rows earlier [] i s a e = absurd (cc)
AreSpots-at f rows earlier (x ∷ spots) zero s a e =
    let is : x ≡ s = cc in subst (λ y. IsSpot f rows (earlier ++ []) y) is (subst (λ zs. IsSpot f rows zs x) (sym (append-nil earlier)) a.0)
AreSpots-at f rows earlier (x ∷ spots) (suc i) s a e =
    subst (λ zs. IsSpot f rows zs s) (one_behind earlier x (take i spots)) (AreSpots-at f rows (earlier ++ x ∷ []) spots i s a.1 e)

row_filled-are : (f : Forest) (rows row : ℕ) (cells : List ℕ) (earlier : List Spot) → AreSpots f rows [] earlier
    → AreSpots f rows [] (row_filled f rows row cells earlier)
row_filled-are f rows row [] earlier are = are
row_filled-are f rows row (cell ∷ cells) earlier are =
    row_filled-are f rows row cells (earlier ++ spot_behind f rows row earlier cell ∷ [])
    (AreSpots-append f rows [] earlier (spot_behind f rows row earlier cell ∷ []) are (spot_behind-is f rows row earlier cell, tt))

filled-are : (f : Forest) (gone : List ℕ) (rows row : ℕ) (keys : List ℕ) (earlier : List Spot) → AreSpots f rows [] earlier
    → AreSpots f rows [] (filled f gone rows row keys earlier)
filled-are f gone rows row [] earlier are = are
filled-are f gone rows row (key ∷ later) earlier are =
    filled-are f gone rows (row + 1) later (row_filled f rows row (cells_left f gone key) earlier)
    (row_filled-are f rows row (cells_left f gone key) earlier are)

-- ---- each cell once

cells-row_filled : (f : Forest) (rows row : ℕ) (cells : List ℕ) (earlier : List Spot)
    → map cell_and_row (row_filled f rows row cells earlier) ≡ map cell_and_row earlier ++ map (in_row row) cells
cells-row_filled f rows row [] earlier = sym (append-nil (map cell_and_row earlier))
cells-row_filled f rows row (cell ∷ cells) earlier =
    cells-row_filled f rows row cells (earlier ++ spot_behind f rows row earlier cell ∷ [])
    ∙ ap (λ zs. zs ++ map (in_row row) cells) (map-append cell_and_row earlier (spot_behind f rows row earlier cell ∷ []))
    ∙ append_assoc (map cell_and_row earlier) ((cell, row) ∷ []) (map (in_row row) cells)

pub none_gone : (xs : List ℕ) → filter (λ x. not (is_among x [])) xs ≡ xs
none_gone [] = refl
none_gone (x ∷ xs) = ap (λ zs. x ∷ zs) (none_gone xs)

cells-filled : (f : Forest) (rows row : ℕ) (keys : List ℕ) (earlier : List Spot)
    → map cell_and_row (filled f [] rows row keys earlier) ≡ map cell_and_row earlier ++ with_rows f row keys
cells-filled f rows row [] earlier = sym (append-nil (map cell_and_row earlier))
cells-filled f rows row (key ∷ later) earlier =
    cells-filled f rows (row + 1) later (row_filled f rows row (cells_left f [] key) earlier)
    ∙ ap (λ zs. zs ++ with_rows f (row + 1) later)
    (cells-row_filled f rows row (cells_left f [] key) earlier ∙ ap (λ zs. map cell_and_row earlier ++ map (in_row row) zs) (none_gone (children_of f key)))
    ∙ append_assoc (map cell_and_row earlier) (map (in_row row) (children_of f key)) (with_rows f (row + 1) later)

-- ---- the grid

pub grid_of-is : (f : Forest) (table : ℕ) → IsGrid f table (grid_of f table)
unfolding spots_over
grid_of-is f table =
    let keys : List ℕ = children_of f table in
    record {
      cells = cells-filled f (length keys) 0 keys [];
      each = λ i s e. AreSpots-at f (length keys) [] (filled f [] (length keys) 0 keys []) i s (filled-are f [] (length keys) 0 keys [] tt) e;
      rows = refl;
      columns = refl;
    }
