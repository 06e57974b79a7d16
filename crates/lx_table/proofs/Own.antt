-- The cells of a table, each with its spot in its own row.
use Rattle.std.proofs.Common.{◌≡◌, ◌∙◌, ℕ, zero, suc, ◌+◌, ◌-◌, ◌||◌, eqb, Bool, true, false, cond, List, [], ◌∷◌, ◌++◌, length, Option, None, Some, refl, sym, ap, subst, arith, inl, inr}
use Rattle.std.specs.Prelude.{min, map, filter}
use Rattle.std.specs.List.{All, slice_get}
use Rattle.std.proofs.lemmas.Bool.{cases_Bool}
use Rattle.std.proofs.lemmas.Bool.Decides.{eqb_tells}
use Rattle.std.proofs.lemmas.List.{map-append}
use Rattle.std.proofs.lemmas.List.Elements.{All-nil, All-cons, All-push, All-head, All-tail}
use Rattle.lx_trees.specs.Siblings.{is_among, is_named, index_in}
use Rattle.lx_trees.proofs.Siblings.{is_named_tells, is_among-append}
use Rattle.lx_trees.proofs.Positions.{index_in-slice_get}
use Rattle.lx_forest.specs.Forest.{Forest}
use Rattle.lx_forest.specs.Lookups.{parent_of, children_of, IsForest}
use Rattle.lx_forest.proofs.Lookups.{NoRepeats-children_of, is_among-children_of}
use Rattle.lx_table.specs.declared.spots.Spot.{Spot}
use Rattle.lx_table.specs.Spots.{spot_of}
use Rattle.lx_table.specs.Spans.{row_span, column_span}
use Rattle.lx_table.specs.Grid.{in_row, with_rows, cell_and_row, spot_behind, row_filled, cells_left, filled, spots_over, spots_of}
use Rattle.lx_table.specs.Shrinking.{cell_in}
use Rattle.lx_table.proofs.Filled.{none_gone, grid_of-is}

-- a cell is in the row of its index, with the size that its spans give
pub record IsOwn (f : Forest) (keys : List ℕ) (s : Spot) : Type 0 where
  pub key : ℕ
  pub row : slice_get keys s.row ≡ Some key
  pub among : is_among s.cell (children_of f key) ≡ true
  pub height : s.height ≡ min (row_span f s.cell) (length keys - s.row)
  pub width : s.width ≡ column_span f s.cell

row_own : (f : Forest) (keys : List ℕ) (row key : ℕ) (cells : List ℕ) (earlier : List Spot) → slice_get keys row ≡ Some key
    → ((q : ℕ) → is_among q cells ≡ true → is_among q (children_of f key) ≡ true)
    → All (IsOwn f keys) earlier → All (IsOwn f keys) (row_filled f (length keys) row cells earlier)
row_own f keys row key [] earlier at within own = own
row_own f keys row key (cell ∷ cells) earlier at within own =
    let s : Spot = spot_behind f (length keys) row earlier cell in
    row_own f keys row key cells (earlier ++ s ∷ []) at (λ q among. within q (grind (arith, among)))
    (All-push (IsOwn f keys) earlier s own
    (record { key = key; row = at; among = within cell (grind (arith, eqb_tells cell cell)); height = refl; width = refl }))

rows_own : (f : Forest) (keys : List ℕ) (row : ℕ) (later : List ℕ) (earlier : List Spot)
    → ((i n k : ℕ) → n ≡ row + i → slice_get later i ≡ Some k → slice_get keys n ≡ Some k)
    → All (IsOwn f keys) earlier → All (IsOwn f keys) (filled f [] (length keys) row later earlier)
rows_own f keys row [] earlier at own = own
rows_own f keys row (key ∷ later) earlier at own =
    rows_own f keys (row + 1) later (row_filled f (length keys) row (cells_left f [] key) earlier) (λ i n k is e. at (suc i) n k (omega (arith, is)) e)
    (row_own f keys row key (cells_left f [] key) earlier (at 0 row key (omega arith) refl)
    (λ q among. subst (λ xs. is_among q xs ≡ true) (none_gone (children_of f key)) among) own)

pub spots_own : (f : Forest) (table : ℕ) → All (IsOwn f (children_of f table)) (spots_of f table)
unfolding spots_over
spots_own f table =
    rows_own f (children_of f table) 0 (children_of f table) []
    (λ i n k is e. let same : i ≡ n = omega (arith, is) in subst (λ m. slice_get (children_of f table) m ≡ Some k) same e)
    (All-nil (IsOwn f (children_of f table)))

-- ---- a cell is in one row alone

pub above_is : (f : Forest) (q k : ℕ) → IsForest f → is_among q (children_of f k) ≡ true → parent_of f q ≡ Some k
above_is f q k ordered among =
    let named : is_named (parent_of f q) k ≡ true = sym (is_among-children_of f q k ordered) ∙ among in
    elim (is_named_tells (parent_of f q) k) [
      | inl is ↦ is.1
      | inr not ↦ absurd (cc (not.0, named))
    ]

pub one_row : (f : Forest) (table q i j k l : ℕ) → IsForest f → slice_get (children_of f table) i ≡ Some k → slice_get (children_of f table) j ≡ Some l
    → is_among q (children_of f k) ≡ true → is_among q (children_of f l) ≡ true → i ≡ j
one_row f table q i j k l ordered at_k at_l in_k in_l =
    let up_k : parent_of f q ≡ Some k = above_is f q k ordered in_k in
    let up_l : parent_of f q ≡ Some l = above_is f q l ordered in_l in
    let same : k ≡ l = cc (up_k, up_l) in
    let first : index_in (children_of f table) k ≡ Some i = index_in-slice_get (children_of f table) k i (NoRepeats-children_of f table ordered) at_k in
    let second : index_in (children_of f table) l ≡ Some j = index_in-slice_get (children_of f table) l j (NoRepeats-children_of f table ordered) at_l in
    cc (same, first, second)

-- so two spots of a cell are as high, in one row
pub same_row_own : (f : Forest) (table : ℕ) (s t : Spot) → IsForest f → IsOwn f (children_of f table) s → IsOwn f (children_of f table) t → s.cell ≡ t.cell
    → s.row ≡ t.row
same_row_own f table s t ordered a b is =
    one_row f table s.cell s.row t.row a.key b.key ordered a.row b.row a.among (subst (λ c. is_among c (children_of f b.key) ≡ true) (sym is) b.among)

pub same_height_own : (f : Forest) (table : ℕ) (s t : Spot) → IsForest f → IsOwn f (children_of f table) s → IsOwn f (children_of f table) t → s.cell ≡ t.cell
    → s.height ≡ t.height
same_height_own f table s t ordered a b is =
    let row : s.row ≡ t.row = same_row_own f table s t ordered a b is in
    a.height ∙ ap (λ c. min (row_span f c) (length (children_of f table) - s.row)) is ∙ ap (λ r. min (row_span f t.cell) (length (children_of f table) - r)) row
    ∙ sym b.height

-- ---- each cell has a spot

abbrev pub cells_in : List Spot → List ℕ
cells_in spots = map cell_in spots

abbrev cell_of_pair : ℕ × ℕ → ℕ
cell_of_pair p = p.0

pairs-cells : (spots : List Spot) → map cell_of_pair (map cell_and_row spots) ≡ cells_in spots
pairs-cells [] = refl
pairs-cells (s ∷ spots) = ap (λ xs. s.cell ∷ xs) (pairs-cells spots)

row-cells : (row : ℕ) (cells : List ℕ) → map cell_of_pair (map (in_row row) cells) ≡ cells
row-cells row [] = refl
row-cells row (cell ∷ cells) = ap (λ xs. cell ∷ xs) (row-cells row cells)

or_true : (b : Bool) → (b || true) ≡ true
or_true true = refl
or_true false = refl

split_row : (f : Forest) (row key : ℕ) (later : List ℕ) (q : ℕ)
    → is_among q (map cell_of_pair (map (in_row row) (children_of f key) ++ with_rows f (row + 1) later))
    ≡ (is_among q (children_of f key) || is_among q (map cell_of_pair (with_rows f (row + 1) later)))
split_row f row key later q =
    ap (is_among q)
    (map-append cell_of_pair (map (in_row row) (children_of f key)) (with_rows f (row + 1) later)
    ∙ ap (λ xs. xs ++ map cell_of_pair (with_rows f (row + 1) later)) (row-cells row (children_of f key)))
    ∙ is_among-append q (children_of f key) (map cell_of_pair (with_rows f (row + 1) later))

among_rows : (f : Forest) (row : ℕ) (keys : List ℕ) (i k q : ℕ) → slice_get keys i ≡ Some k → is_among q (children_of f k) ≡ true
    → is_among q (map cell_of_pair (with_rows f row keys)) ≡ true
among_rows f row [] i k q at among = absurd (cc)
among_rows f row (key ∷ later) zero k q at among =
    let is : key ≡ k = cc in
    let here : is_among q (children_of f key) ≡ true = subst (λ x. is_among q (children_of f x) ≡ true) (sym is) among in
    split_row f row key later q ∙ ap (λ b. b || is_among q (map cell_of_pair (with_rows f (row + 1) later))) here
among_rows f row (key ∷ later) (suc i) k q at among =
    split_row f row key later q ∙ ap (λ b. is_among q (children_of f key) || b) (among_rows f (row + 1) later i k q at among)
    ∙ or_true (is_among q (children_of f key))

pub among_spots : (f : Forest) (table i k q : ℕ) → slice_get (children_of f table) i ≡ Some k → is_among q (children_of f k) ≡ true
    → is_among q (cells_in (spots_of f table)) ≡ true
among_spots f table i k q at among =
    ap (is_among q) (sym (pairs-cells (spots_of f table)) ∙ ap (map cell_of_pair) (grid_of-is f table).cells)
    ∙ among_rows f 0 (children_of f table) i k q at among

-- a spot of a cell among some
pub record HasSpot (P : Spot → Type 0) (spots : List Spot) (q : ℕ) : Type 0 where
  pub spot : Spot
  pub index : ℕ
  pub at : slice_get spots index ≡ Some spot
  pub has : P spot
  pub is : spot.cell ≡ q

found_spot : (P : Spot → Type 0) (spots : List Spot) (q : ℕ) → All P spots → is_among q (cells_in spots) ≡ true → HasSpot P spots q
found_spot P [] q all among = absurd (cc)
found_spot P (s ∷ spots) q all among =
    elim (eqb_tells s.cell q) [
      | inl here ↦ record { spot = s; index = 0; at = refl; has = All-head P s spots all; is = here.1 }
      | inr other ↦
          let later = found_spot P spots q (All-tail P s spots all) (sym (ap (λ b. b || is_among q (cells_in spots)) other.0) ∙ among) in
          record { spot = later.spot; index = suc later.index; at = later.at; has = later.has; is = later.is }
    ]

pub spot_in_row : (f : Forest) (table i k q : ℕ) → slice_get (children_of f table) i ≡ Some k → is_among q (children_of f k) ≡ true
    → HasSpot (IsOwn f (children_of f table)) (spots_of f table) q
spot_in_row f table i k q at among = found_spot (IsOwn f (children_of f table)) (spots_of f table) q (spots_own f table) (among_spots f table i k q at among)

pub row_of_spot : (f : Forest) (table i k q : ℕ) (s : Spot) → IsForest f → slice_get (children_of f table) i ≡ Some k → is_among q (children_of f k) ≡ true
    → IsOwn f (children_of f table) s → s.cell ≡ q → s.row ≡ i
row_of_spot f table i k q s ordered at among own is =
    one_row f table q s.row i own.key k ordered own.row at (subst (λ c. is_among c (children_of f own.key) ≡ true) is own.among) among

-- ---- what is read by a cell

-- in how many rows a cell is
abbrev height_in : Option Spot → ℕ
height_in None = 0
height_in (Some s) = s.height

abbrev pub height_at : List Spot → ℕ → ℕ
height_at spots q = height_in (spot_of spots q)

module _ (f : Forest) (table : ℕ) (ordered : IsForest f) where
  pub height_found : (spots : List Spot) (i : ℕ) (s : Spot) → All (IsOwn f (children_of f table)) spots → IsOwn f (children_of f table) s
      → slice_get spots i ≡ Some s → height_at spots s.cell ≡ s.height
  height_found [] i s all own at = absurd (cc)
  height_found (x ∷ spots) zero s all own at =
      let is : x ≡ s = cc in
      let here : eqb x.cell s.cell ≡ true = ap (λ (y : Spot). eqb y.cell s.cell) is ∙ grind (arith, eqb_tells s.cell s.cell) in
      ap (λ b. height_in (cond b (Some x) (spot_of spots s.cell))) here ∙ ap (λ (y : Spot). y.height) is
  height_found (x ∷ spots) (suc i) s all own at =
      elim (eqb_tells x.cell s.cell) [
        | inl here ↦
            ap (λ b. height_in (cond b (Some x) (spot_of spots s.cell))) here.0
            ∙ same_height_own f table x s ordered (All-head (IsOwn f (children_of f table)) x spots all) own here.1
        | inr other ↦
            ap (λ b. height_in (cond b (Some x) (spot_of spots s.cell))) other.0
            ∙ height_found spots i s (All-tail (IsOwn f (children_of f table)) x spots all) own at
      ]

  -- among those that pass a test that spots of one cell pass alike
  none_passes : (test : Spot → Bool) (spots : List Spot) (s : Spot) → All (IsOwn f (children_of f table)) spots
      → ((t : Spot) → IsOwn f (children_of f table) t → t.cell ≡ s.cell → test t ≡ test s)
      → test s ≡ false → is_among s.cell (cells_in (filter test spots)) ≡ false
  none_passes test [] s all alike fails = refl
  none_passes test (x ∷ spots) s all alike fails =
      let rest = none_passes test spots s (All-tail (IsOwn f (children_of f table)) x spots all) alike fails in
      elim (cases_Bool (test x)) [
        | inl passes ↦ rw passes (elim (eqb_tells x.cell s.cell) [
          | inl here ↦ absurd (cc (alike x (All-head (IsOwn f (children_of f table)) x spots all) here.1, passes, fails))
          | inr other ↦ ap (λ b. b || is_among s.cell (cells_in (filter test spots))) other.0 ∙ rest
        ])
        | inr not ↦ rw not rest
      ]

  some_passes : (test : Spot → Bool) (spots : List Spot) (i : ℕ) (s : Spot) → slice_get spots i ≡ Some s → test s ≡ true
      → is_among s.cell (cells_in (filter test spots)) ≡ true
  some_passes test [] i s at passes = absurd (cc)
  some_passes test (x ∷ spots) zero s at passes =
      let is : x ≡ s = cc in
      let kept : test x ≡ true = ap test is ∙ passes in
      let here : eqb x.cell s.cell ≡ true = ap (λ (y : Spot). eqb y.cell s.cell) is ∙ grind (arith, eqb_tells s.cell s.cell) in
      rw kept (ap (λ b. b || is_among s.cell (cells_in (filter test spots))) here)
  some_passes test (x ∷ spots) (suc i) s at passes =
      let rest = some_passes test spots i s at passes in
      elim (cases_Bool (test x)) [
        | inl kept ↦ rw kept (ap (λ b. eqb x.cell s.cell || b) rest ∙ or_true (eqb x.cell s.cell))
        | inr not ↦ rw not rest
      ]

  pub among_passing : (test : Spot → Bool) (spots : List Spot) (i : ℕ) (s : Spot) → All (IsOwn f (children_of f table)) spots
      → ((t : Spot) → IsOwn f (children_of f table) t → t.cell ≡ s.cell → test t ≡ test s)
      → slice_get spots i ≡ Some s → is_among s.cell (cells_in (filter test spots)) ≡ test s
  among_passing test spots i s all alike at =
      elim (cases_Bool (test s)) [
        | inl passes ↦ some_passes test spots i s at passes ∙ sym passes
        | inr fails ↦ none_passes test spots s all alike fails ∙ sym fails
      ]

-- what holds of each that is at an index holds of all
pub all_by : (Q P : Spot → Type 0) (spots : List Spot) → All P spots → ((i : ℕ) (s : Spot) → slice_get spots i ≡ Some s → P s → Q s) → All Q spots
all_by Q P [] all each = All-nil Q
all_by Q P (s ∷ spots) all each =
    All-cons Q s spots (each 0 s refl (All-head P s spots all)) (all_by Q P spots (All-tail P s spots all) (λ i t at has. each (suc i) t at has))
