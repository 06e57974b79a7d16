-- How far the spots of a table are, and what a new spot, a new row and a row that is filled keep.
use Rattle.std.proofs.Common.{◌≡◌, ◌∙◌, ℕ, suc, ◌+◌, ◌-◌, ◌*◌, ◌<◌, ◌≤◌, Bool, true, false, cond, List, [], ◌∷◌, ◌++◌, length, refl, sym, ap, subst, arith, length-append}
use Rattle.std.specs.Prelude.{min, max, filter}
use Rattle.std.specs.List.{insert}
use Rattle.std.proofs.lemmas.Bool.Decides.{nat_tests}
use Rattle.std.proofs.lemmas.List.Elements.{All-nil, All-push}
use Rattle.lx_forest.specs.Forest.{Forest}
use Rattle.lx_table.specs.declared.spots.Spot.{Spot}
use Rattle.lx_table.specs.Spots.{stands_in_row, end_column, most_cells, IsSmall}
use Rattle.lx_table.specs.Spans.{row_span, column_span}
use Rattle.lx_table.specs.Grid as grid
use Rattle.lx_table.specs.Grid.{first_free, spot_behind, filled, spots_over}
use Rattle.lx_table.specs.Filling.{passed_on, still_standing, IsStanding, IsPlaced, IsFilling, IsFilled, cells_among}
use Rattle.lx_table.proofs.Room.{first_free_near}
use Rattle.lx_table.proofs.Standing.{column_is, put_between, no_cells, stands_there}

pub end_behind : (xs : List Spot) (x : Spot) → end_column (xs ++ x ∷ []) ≡ max (end_column xs) (x.column + x.width)
end_behind [] x = omega arith
end_behind (y ∷ ys) x = omega (arith, end_behind ys x)

stands_here : (row : ℕ) (s : Spot) → s.row ≡ row → 1 ≤ s.height → stands_in_row row s ≡ true
stands_here row s at high = grind (arith, nat_tests, at, high)

pub spot_is : (f : Forest) (rows row cell : ℕ) (spots standing : List Spot) (s : Spot) → IsStanding row spots standing → IsPlaced f rows row cell standing s
    → s ≡ spot_behind f rows row spots cell
spot_is f rows row cell spots standing s is p =
    let some : 1 ≤ column_span f cell = omega (arith, p.wide, p.width) in
    let column : s.column ≡ first_free spots row (column_span f cell) = p.column ∙ column_is row (column_span f cell) spots standing is some in
    ap (λ (x : ℕ). let made : Spot = record { cell = x; row = s.row; column = s.column; height = s.height; width = s.width } in made) p.of_cell
    ∙ ap (λ (x : ℕ). let made : Spot = record { cell = cell; row = x; column = s.column; height = s.height; width = s.width } in made) p.in_row
    ∙ ap (λ (x : ℕ). let made : Spot = record { cell = cell; row = row; column = x; height = s.height; width = s.width } in made) column
    ∙ ap (λ (x : ℕ). let made : Spot = record { cell = cell; row = row; column = first_free spots row (column_span f cell); height = x; width = s.width } in
    made) p.height
    ∙ ap (λ (x : ℕ). let made : Spot = record
    { cell = cell; row = row; column = first_free spots row (column_span f cell); height = min (row_span f cell) (rows - row); width = x } in made) p.width

pub filling_on : (f : Forest) (rows row cell : ℕ) (spots standing : List Spot) (s : Spot) → IsFilling row spots standing → IsPlaced f rows row cell standing s
    → row < rows → rows ≤ most_cells → length spots < most_cells
    → IsFilling row (spots ++ s ∷ []) (insert standing (passed_on standing (column_span f cell) 0) s)
filling_on f rows row cell spots standing s is p inside few room =
    let some : 1 ≤ column_span f cell = omega (arith, p.wide, p.width) in
    let at : s.column ≡ first_free spots row (column_span f cell) = p.column ∙ column_is row (column_span f cell) spots standing is.stands some in
    let near : end_column spots ≤ 1000 * length spots = is.near in
    let here : s.column ≤ end_column spots = omega (arith, at, first_free_near spots row (column_span f cell)) in
    let small : IsSmall s = record { rows = omega (arith, p.in_row, p.height, inside, few); columns = omega (arith, here, near, p.near, room) } in
    record {
      stands = put_between row (column_span f cell) spots standing s is.stands
          (record { small = small; wide = p.wide; above = omega (arith, p.in_row) }) (stands_here row s p.in_row p.high) p.column;
      small = All-push IsSmall spots s is.small small;
      near = omega (arith, end_behind spots s, here, near, p.near, length-append spots (s ∷ []));
    }

-- ---- rows

filter_both : (p : ℕ → Bool) (x : ℕ) (xs : List ℕ) → filter p (x ∷ xs) ≡ filter p (x ∷ []) ++ filter p xs
filter_both p x xs = by_test (p x) where
  by_test : (t : Bool) → cond t (x ∷ filter p xs) (filter p xs) ≡ cond t (x ∷ []) [] ++ filter p xs
  by_test true = refl
  by_test false = refl

-- ---- the rows of a table

pub nothing_filled : IsFilled 0 [] []
nothing_filled = record { reaching = no_cells; small = All-nil IsSmall; near = omega arith }

pub filling_row : (row : ℕ) (spots standing left : List Spot) → left ≡ still_standing row standing → IsFilled row spots standing → IsFilling row spots left
filling_row row spots standing left is f =
    subst (λ (zs : List Spot). IsFilling row spots zs) (sym is)
    (record { stands = stands_there row spots standing f.reaching; small = f.small; near = f.near })

one_more : (i : ℕ) → i + 1 ≡ suc i
one_more i = omega arith

-- a cell more
pub added_spots : (f : Forest) (rows row cell : ℕ) (spots standing more : List Spot) (s : Spot) → IsFilling row spots standing
    → IsPlaced f rows row cell standing s → more ≡ spots ++ s ∷ [] → more ≡ spots ++ spot_behind f rows row spots cell ∷ []
added_spots f rows row cell spots standing more s is p made = made ∙ ap (λ (x : Spot). spots ++ x ∷ []) (spot_is f rows row cell spots standing s is.stands p)

pub added_on : (f : Forest) (rows row cell : ℕ) (spots standing more left : List Spot) (s : Spot) → IsFilling row spots standing
    → IsPlaced f rows row cell standing s → row < rows → rows ≤ most_cells → length spots < most_cells
    → more ≡ spots ++ s ∷ [] → left ≡ insert standing (passed_on standing s.width 0) s → IsFilling row more left
added_on f rows row cell spots standing more left s is p inside few room made put =
    subst (λ (zs : List Spot). IsFilling row zs left) (sym made)
    (subst (λ (zs : List Spot). IsFilling row (spots ++ s ∷ []) zs) (sym (put ∙ ap (λ n. insert standing (passed_on standing n 0) s) p.width))
    (filling_on f rows row cell spots standing s is p inside few room))

-- before the first row
pub record HasBegun (f : Forest) (gone keys : List ℕ) (spots standing : List Spot) : Type 0 where
  pub on : grid.filled f gone (length keys) 0 keys spots ≡ spots_over f gone keys
  pub filled : IsFilled 0 spots standing
  pub few : length spots + cells_among f keys ≤ most_cells

pub begun : (f : Forest) (gone keys : List ℕ) (spots standing : List Spot) → spots ≡ [] → standing ≡ [] → cells_among f keys ≤ most_cells
    → HasBegun f gone keys spots standing
unfolding spots_over
begun f gone keys spots standing no_spots none few = record {
  on = ap (filled f gone (length keys) 0 keys) no_spots;
  filled = subst (λ (zs : List Spot). IsFilled 0 zs standing) (sym no_spots) (subst (λ (zs : List Spot). IsFilled 0 [] zs) (sym none) nothing_filled);
  few = omega (arith, few, ap length no_spots);
}
