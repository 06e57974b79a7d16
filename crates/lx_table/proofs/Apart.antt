-- No two spots share a place, and a table has one grid.
use Rattle.std.proofs.Common.{◌≡◌, ◌∙◌, ℕ, zero, suc, ◌+◌, ◌-◌, ◌<◌, ◌≤◌, Bool, true, false, ◌||◌, List, [], ◌∷◌, ◌++◌, take, Some, refl, sym, ap, subst, append-nil, arith}
use Rattle.std.specs.Prelude.{min, map}
use Rattle.std.specs.List.{slice_get}
use Rattle.std.proofs.lemmas.Bool.Decides.{nat_tests}
use Rattle.lx_forest.specs.Forest.{Forest}
use Rattle.lx_forest.specs.Lookups.{children_of}
use Rattle.lx_table.specs.declared.spots.Spot.{Spot}
use Rattle.lx_table.specs.Spots.{covers, is_covered, end_column}
use Rattle.lx_table.specs.Spans.{row_span, column_span}
use Rattle.lx_table.specs.Grid.{Grid, in_row, with_rows, cell_and_row, IsFree, IsSpot, IsGrid}
use Rattle.lx_table.specs.Laws.{GridsAreTold}
use Rattle.lx_table.proofs.Filled.{AreSpots, one_behind, grid_of-is}

covered_by : (spots : List Spot) (i n : ℕ) (s : Spot) (row c : ℕ) → slice_get spots i ≡ Some s → i < n → covers row c s ≡ true
    → is_covered (take n spots) row c ≡ true
covered_by [] i n s row c at low e = absurd (cc)
covered_by (x ∷ spots) i zero s row c at low e = absurd (omega (arith, low))
covered_by (x ∷ spots) zero (suc n) s row c at low e = let is : x ≡ s = cc in let here : covers row c x ≡ true =
    ap (covers row c) is ∙ e in ap (λ b. b || is_covered (take n spots) row c) here
covered_by (x ∷ spots) (suc i) (suc n) s row c at low e =
    let rest : is_covered (take n spots) row c ≡ true =
    covered_by spots i n s row c at (omega (arith, low)) e in ap (λ b. covers row c x || b) rest ∙ or_true (covers row c x)
  where
    or_true : (b : Bool) → (b || true) ≡ true
    or_true true = refl
    or_true false = refl

-- The later of two spots is in its own row where the earlier one isn't. Below, they keep apart, since both go straight
-- down: what the earlier one covers at a row that both are in, it covers at the later one's row.
own_row : (a b : Spot) (row c : ℕ) → a.row ≤ b.row → covers row c a ≡ true → covers row c b ≡ true → covers b.row c a ≡ true
own_row a b row c before e g = grind (arith, nat_tests, before, e, g)

in_columns : (s : Spot) (row c : ℕ) → covers row c s ≡ true → (s.column ≤ c) × (c < s.column + s.width)
in_columns s row c e = (grind (arith, nat_tests, e), grind (arith, nat_tests, e))

-- Rows rise along the cells.
abbrev from_row : ℕ → List (ℕ × ℕ) → Type 0
from_row n [] = Unit {0}
from_row n (p ∷ ps) = (n ≤ p.1) × from_row n ps

abbrev AreRising : List (ℕ × ℕ) → Type 0
AreRising [] = Unit {0}
AreRising (p ∷ ps) = from_row p.1 ps × AreRising ps

apart_by : (f : Forest) (g : Grid) (i j : ℕ) (a b : Spot) (row c : ℕ) → ((k : ℕ) (s : Spot) → slice_get g.spots k ≡ Some s → IsSpot f g.rows (take k g.spots) s)
    → slice_get g.spots i ≡ Some a → slice_get g.spots j ≡ Some b → i < j → a.row ≤ b.row → covers row c a ≡ true → covers row c b ≡ false
apart_by f g i j a b row c each at_a at_b before rows e = by_test (covers row c b) refl where
  clash : is_covered (take j g.spots) b.row c ≡ true → is_covered (take j g.spots) b.row c ≡ false → ⊥
  clash x y = absurd (cc)

  by_test : (t : Bool) → covers row c b ≡ t → covers row c b ≡ false
  by_test false h = h
  by_test true h =
      let inside = in_columns b row c h in
      absurd (clash (covered_by g.spots i j a b.row c at_a before (own_row a b row c rows e h)) ((each j b at_b).free c inside.0 inside.1))

from_append : (n : ℕ) (xs ys : List (ℕ × ℕ)) → from_row n xs → from_row n ys → from_row n (xs ++ ys)
from_append n [] ys a b = b
from_append n (x ∷ xs) ys a b = (a.0, from_append n xs ys a.1 b)

from_lower : (m n : ℕ) (xs : List (ℕ × ℕ)) → m ≤ n → from_row n xs → from_row m xs
from_lower m n [] h a = tt
from_lower m n (x ∷ xs) h a = let here : n ≤ x.1 = a.0 in (omega (arith, h, here), from_lower m n xs h a.1)

from_cells : (n : ℕ) (cells : List ℕ) → from_row n (map (in_row n) cells)
from_cells n [] = tt
from_cells n (cell ∷ cells) = (omega arith, from_cells n cells)

from_rows : (f : Forest) (n : ℕ) (keys : List ℕ) → from_row n (with_rows f n keys)
from_rows f n [] = tt
from_rows f n (key ∷ later) =
    from_append n (map (in_row n) (children_of f key)) (with_rows f (n + 1) later) (from_cells n (children_of f key))
    (from_lower n (n + 1) (with_rows f (n + 1) later) (omega arith) (from_rows f (n + 1) later))

rising_row : (n : ℕ) (cells : List ℕ) (ps : List (ℕ × ℕ)) → from_row n ps → AreRising ps → AreRising (map (in_row n) cells ++ ps)
rising_row n [] ps a b = b
rising_row n (cell ∷ cells) ps a b = (from_append n (map (in_row n) cells) ps (from_cells n cells) a, rising_row n cells ps a b)

rising_rows : (f : Forest) (n : ℕ) (keys : List ℕ) → AreRising (with_rows f n keys)
rising_rows f n [] = tt
rising_rows f n (key ∷ later) =
    rising_row n (children_of f key) (with_rows f (n + 1) later) (from_lower n (n + 1) (with_rows f (n + 1) later) (omega arith) (from_rows f (n + 1) later))
    (rising_rows f (n + 1) later)

from_at : (n : ℕ) (spots : List Spot) (j : ℕ) (b : Spot) → from_row n (map cell_and_row spots) → slice_get spots j ≡ Some b → n ≤ b.row
from_at n [] j b a e = absurd (cc)
from_at n (s ∷ spots) zero b a e = let is : s ≡ b = cc in subst (λ (x : Spot). n ≤ x.row) is a.0
from_at n (s ∷ spots) (suc j) b a e = from_at n spots j b a.1 e

rises_at : (spots : List Spot) (i j : ℕ) (a b : Spot) → AreRising (map cell_and_row spots) → slice_get spots i ≡ Some a → slice_get spots j ≡ Some b → i < j
    → a.row ≤ b.row
rises_at [] i j a b up at_a at_b before = absurd (cc)
rises_at (s ∷ spots) i zero a b up at_a at_b before = absurd (omega (arith, before))
rises_at (s ∷ spots) zero (suc j) a b up at_a at_b before =
    let is : s ≡ a = cc in subst (λ (x : Spot). x.row ≤ b.row) is (from_at s.row spots j b up.0 at_b)
rises_at (s ∷ spots) (suc i) (suc j) a b up at_a at_b before = rises_at spots i j a b up.1 at_a at_b (omega (arith, before))

pub apart : (f : Forest) (table : ℕ) (g : Grid) (i j : ℕ) (a b : Spot) (row c : ℕ) → IsGrid f table g → slice_get g.spots i ≡ Some a
    → slice_get g.spots j ≡ Some b → i < j
    → covers row c a ≡ true → covers row c b ≡ false
apart f table g i j a b row c is at_a at_b before e =
    apart_by f g i j a b row c is.each at_a at_b before
    (rises_at g.spots i j a b (subst AreRising (sym is.cells) (rising_rows f 0 (children_of f table))) at_a at_b before) e

-- ---- one grid

least_is : (x y : ℕ) → x ≤ y → y ≤ x → x ≡ y
least_is x y a b = omega (arith, a, b)

same_spot : (f : Forest) (rows : ℕ) (earlier : List Spot) (a b : Spot) → a.cell ≡ b.cell → a.row ≡ b.row → IsSpot f rows earlier a → IsSpot f rows earlier b
    → a ≡ b
same_spot f rows earlier a b cell row x y =
    let width : a.width ≡ b.width = x.width ∙ ap (column_span f) cell ∙ sym y.width in
    let height : a.height ≡ b.height =
    x.height ∙ ap (λ k. min (row_span f k) (rows - a.row)) cell ∙ ap (λ r. min (row_span f b.cell) (rows - r)) row ∙ sym y.height in
    let free_b : IsFree earlier a.row a.width b.column =
    subst (λ r. IsFree earlier r a.width b.column) (sym row) (subst (λ n. IsFree earlier b.row n b.column) (sym width) y.free) in
    let free_a : IsFree earlier b.row b.width a.column =
    subst (λ r. IsFree earlier r b.width a.column) row (subst (λ n. IsFree earlier a.row n a.column) width x.free) in
    let column : a.column ≡ b.column = least_is a.column b.column (x.least b.column free_b) (y.least a.column free_a) in
    ap (λ k. record { cell = k; row = a.row; column = a.column; height = a.height; width = a.width }) cell
    ∙ ap (λ k. record { cell = b.cell; row = k; column = a.column; height = a.height; width = a.width }) row
    ∙ ap (λ k. record { cell = b.cell; row = b.row; column = k; height = a.height; width = a.width }) column
    ∙ ap (λ k. record { cell = b.cell; row = b.row; column = b.column; height = k; width = a.width }) height
    ∙ ap (λ k. record { cell = b.cell; row = b.row; column = b.column; height = b.height; width = k }) width

are_by : (f : Forest) (rows : ℕ) (earlier spots : List Spot) → ((i : ℕ) (s : Spot) → slice_get spots i ≡ Some s → IsSpot f rows (earlier ++ take i spots) s)
    → AreSpots f rows earlier spots
are_by f rows earlier [] each = tt
are_by f rows earlier (x ∷ spots) each = (
  subst (λ zs. IsSpot f rows zs x) (append-nil earlier) (each 0 x refl),
  are_by f rows (earlier ++ x ∷ []) spots (λ i s e. subst (λ zs. IsSpot f rows zs s) (sym (one_behind earlier x (take i spots))) (each (suc i) s e)),
)

heads : (a b : ℕ × ℕ) (xs ys : List (ℕ × ℕ)) → a ∷ xs ≡ b ∷ ys → a ≡ b
heads a b xs ys e = cc

tails : (a b : ℕ × ℕ) (xs ys : List (ℕ × ℕ)) → a ∷ xs ≡ b ∷ ys → xs ≡ ys
tails a b xs ys e = cc

same_spots : (f : Forest) (rows : ℕ) (earlier xs ys : List Spot) → map cell_and_row xs ≡ map cell_and_row ys → AreSpots f rows earlier xs
    → AreSpots f rows earlier ys → xs ≡ ys
same_spots f rows earlier [] [] e x y = refl
same_spots f rows earlier [] (b ∷ ys) e x y = absurd (cc)
same_spots f rows earlier (a ∷ xs) [] e x y = absurd (cc)
same_spots f rows earlier (a ∷ xs) (b ∷ ys) e x y =
    let head : (a.cell, a.row) ≡ (b.cell, b.row) = heads (a.cell, a.row) (b.cell, b.row) (map cell_and_row xs) (map cell_and_row ys) e in
    let here : a ≡ b = same_spot f rows earlier a b (ap (λ (p : ℕ × ℕ). p.0) head) (ap (λ (p : ℕ × ℕ). p.1) head) x.0 y.0 in
    let rest : xs ≡ ys =
    same_spots f rows (earlier ++ a ∷ []) xs ys (tails (a.cell, a.row) (b.cell, b.row) (map cell_and_row xs) (map cell_and_row ys) e) x.1
    (subst (λ s. AreSpots f rows (earlier ++ s ∷ []) ys) (sym here) y.1) in
    ap (λ s. s ∷ xs) here ∙ ap (λ zs. b ∷ zs) rest

pub one_grid : (f : Forest) (table : ℕ) (g h : Grid) → IsGrid f table g → IsGrid f table h → g ≡ h
one_grid f table g h x y =
    let rows : g.rows ≡ h.rows = x.rows ∙ sym y.rows in
    let spots : g.spots ≡ h.spots =
    same_spots f g.rows [] g.spots h.spots (x.cells ∙ sym y.cells) (are_by f g.rows [] g.spots x.each)
    (subst (λ n. AreSpots f n [] h.spots) (sym rows) (are_by f h.rows [] h.spots y.each)) in
    ap (λ zs. record { spots = zs; rows = g.rows; columns = g.columns }) spots
    ∙ ap (λ n. record { spots = h.spots; rows = n; columns = g.columns }) rows
    ∙ ap (λ n. record { spots = h.spots; rows = h.rows; columns = n }) (x.columns ∙ ap end_column spots ∙ sym y.columns)

pub grids-told : GridsAreTold
grids-told = record { is = grid_of-is; one = one_grid; apart = apart }
