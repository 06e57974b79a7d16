-- A row that was inserted is deleted again, and the grid of the table is as it was.
use Rattle.std.proofs.Common.{◌≡◌, ◌∙◌, ℕ, zero, suc, ◌+◌, ◌-◌, ◌<◌, ◌≤◌, eqb, ◌&&◌, ◌⊎◌, Bool, true, false, cond, List, [], ◌∷◌, length, Some, option_map, refl, sym, ap, subst, arith, inl, inr}
use Rattle.std.specs.Prelude.{min, nat_lt}
use Rattle.std.specs.List.{slice_get, insert}
use Rattle.std.proofs.lemmas.Bool.{cases_Bool}
use Rattle.std.proofs.lemmas.Bool.Decides.{eqb_tells, nat_tests}
use Rattle.lx_trees.specs.Siblings.{is_among, is_named, names_with, names_without}
use Rattle.std.proofs.lemmas.Option.{slice_get_within}
use Rattle.lx_trees.proofs.Siblings.{names_without-absent_list, length-names_with}
use Rattle.lx_trees.proofs.Positions.{names_with-insert, names_without-names_with, is_among-slice_get}
use Rattle.lx_forest.specs.Forest.{Forest, Label}
use Rattle.lx_forest.specs.Lookups.{fields_of, parent_of, children_of, IsForest}
use Rattle.lx_forest.specs.Edits.{take_out}
use Rattle.lx_forest.proofs.Lookups.{NoRepeats-children_of, parent_of-self, label_of-take_out, children_of-take_out}
use Rattle.lx_table.specs.declared.spots.Spot.{Spot}
use Rattle.lx_table.specs.Spots.{is_among_from}
use Rattle.lx_table.specs.Spans.{rows_in, columns_in, read_by, row_span, column_span}
use Rattle.lx_table.specs.Grid.{spots_of}
use Rattle.lx_table.specs.Growing.{crosses_row, crossing}
use Rattle.lx_table.proofs.Alike.{IsAlike}
use Rattle.lx_table_laws.proofs.Opened.{IsOpened}
use Rattle.lx_table.proofs.Own.{IsOwn, spots_own, spot_in_row, row_of_spot, above_is, same_row_own, same_height_own, height_at, height_found, among_passing, cells_in, among_spots}
use Rattle.lx_table.proofs.Spanned.{tell_spans, has_spans, IsSpanned}

-- ---- rows after an inserted one have the next index

abbrev pub IsShifted : ℕ → ℕ → ℕ → Type 0
IsShifted new i j = ((i < new) × (j ≡ i)) ⊎ ((new ≤ i) × (j ≡ i + 1))

shifted_on : (new i j : ℕ) → IsShifted new i j → IsShifted (suc new) (suc i) (suc j)
shifted_on new i j (inl low) = inl (omega (arith, low.0), omega (arith, low.1))
shifted_on new i j (inr high) = inr (omega (arith, high.0), omega (arith, high.1))

pub shifted : (xs : List ℕ) (new x i k : ℕ) → slice_get xs i ≡ Some k → new ≤ length xs → (j : ℕ) × (slice_get (insert xs new x) j ≡ Some k) × IsShifted new i j
shifted [] new x i k at within = absurd (cc)
shifted (y ∷ ys) zero x i k at within = (suc i, at, inr (omega arith, omega arith))
shifted (y ∷ ys) (suc new) x zero k at within = (0, at, inl (omega arith, refl))
shifted (y ∷ ys) (suc new) x (suc i) k at within =
    let r = shifted ys new x i k at (omega (arith, within)) in (suc r.0, r.1, shifted_on new i r.0 r.2)

-- ---- the rows of a cell, as a row comes and goes

crossing_is : (c : Bool) (row height new : ℕ) → (nat_lt row new && is_among_from row height new) ≡ c
    → (c ≡ true → (row < new) × (new < row + height)) × (c ≡ false → row < new → row + height ≤ new)
crossing_is c row height new e =
    (λ is. let t = e ∙ is in (grind (arith, nat_tests, t), grind (arith, nat_tests, t)), λ is low. let t = e ∙ is in grind (arith, nat_tests, t, low))

-- A cell that starts in front of the new row and goes on after it gets a row, and loses it again. Any other stays as high.
back : (i j new most rows height high again : ℕ) (c d : Bool) → i < most → height ≡ min rows (most - i) → (nat_lt i new && is_among_from i height new) ≡ c
    → high ≡ cond c (height + 1) height
    → again ≡ min high (most + 1 - j) → (nat_lt j new && is_among_from j again new) ≡ d → IsShifted new i j
    → min (cond d (again - 1) again) (most - i) ≡ min rows (most - i)
back i j new most rows height high again c d within is crossed higher lower crossed_again shift =
    let a = crossing_is c i height new crossed in
    let b = crossing_is d j again new crossed_again in
    grind (arith, within, is, higher, lower, a, b, shift)

-- a cell that has no spans stays as it is
told : (b c d : Bool) (i j new most rows height high again : ℕ) (first second third fourth : ℕ) → i < most → height ≡ min rows (most - i)
    → (nat_lt i new && is_among_from i height new) ≡ c
    → first ≡ cond b height rows → second ≡ cond (c && b) (height + 1) first → high ≡ second → again ≡ min high (most + 1 - j) → third ≡ cond b again high
    → (nat_lt j new && is_among_from j again new) ≡ d → fourth ≡ cond (d && b) (again - 1) third → IsShifted new i j
    → min fourth (most - i) ≡ min rows (most - i)
told true c d i j new most rows height high again first second third fourth within is crossed e1 e2 e3 e4 e5 crossed_again e6 shift =
    ap (λ n. min n (most - i)) (e6 ∙ ap (λ n. cond (d && true) (again - 1) n) e5 ∙ picked d (again - 1) again)
    ∙ back i j new most rows height high again c d within is crossed (e3 ∙ e2 ∙ ap (λ n. cond (c && true) (height + 1) n) e1 ∙ picked c (height + 1) height) e4
    crossed_again shift
  where
    picked : (d : Bool) (x y : ℕ) → cond (d && true) x y ≡ cond d x y
    picked true x y = refl
    picked false x y = refl
told false c d i j new most rows height high again first second third fourth within is crossed e1 e2 e3 e4 e5 crossed_again e6 shift =
    ap (λ n. min n (most - i)) (e6 ∙ none d (again - 1) third ∙ e5 ∙ e3 ∙ e2 ∙ none c (height + 1) first ∙ e1)
  where
    none : (d : Bool) (x y : ℕ) → cond (d && false) x y ≡ y
    none true x y = refl
    none false x y = refl

-- ---- a cell of a table

at_insert : (xs : List ℕ) (i x : ℕ) → i ≤ length xs → slice_get (insert xs i x) i ≡ Some x
at_insert xs zero x h = refl
at_insert [] (suc i) x h = absurd (omega (arith, h))
at_insert (y ∷ ys) (suc i) x h = at_insert ys i x (omega (arith, h))

-- in how many rows it is from a row on, and whether it goes across another row's upper edge
record Seen (f : Forest) (table new i q : ℕ) : Type 0 where
  pub height : ℕ
  pub among : is_among q (cells_in (spots_of f table)) ≡ true
  pub height_is : height_at (spots_of f table) q ≡ height
  pub is : height ≡ min (row_span f q) (length (children_of f table) - i)
  pub across : is_among q (cells_in (crossing new (spots_of f table))) ≡ (nat_lt i new && is_among_from i height new)

cell_seen : (f : Forest) (table new i k q : ℕ) → IsForest f → slice_get (children_of f table) i ≡ Some k → is_among q (children_of f k) ≡ true
    → Seen f table new i q
cell_seen f table new i k q ordered at among =
    let found = spot_in_row f table i k q at among in
    let s : Spot = found.spot in
    let row : s.row ≡ i = row_of_spot f table i k q s ordered at among found.has found.is in
    let alike : (t : Spot) → IsOwn f (children_of f table) t → t.cell ≡ s.cell → crosses_row new t ≡ crosses_row new s =
    λ t own same.
    ap (λ r. nat_lt r new && is_among_from r t.height new) (same_row_own f table t s ordered own found.has same)
    ∙ ap (λ h. nat_lt s.row new && is_among_from s.row h new) (same_height_own f table t s ordered own found.has same) in
    let across : is_among s.cell (cells_in (crossing new (spots_of f table))) ≡ crosses_row new s =
    among_passing f table ordered (crosses_row new) (spots_of f table) found.index s (spots_own f table) alike found.at in
    record {
      height = s.height;
      among = among_spots f table i k q at among;
      height_is =
          sym (ap (height_at (spots_of f table)) found.is)
          ∙ height_found f table ordered (spots_of f table) found.index s (spots_own f table) found.has found.at;
      is = found.has.height ∙ ap (λ c. min (row_span f c) (length (children_of f table) - s.row)) found.is
          ∙ ap (λ r. min (row_span f q) (length (children_of f table) - r)) row;
      across =
          sym (ap (λ c. is_among c (cells_in (crossing new (spots_of f table)))) found.is) ∙ across
          ∙ ap (λ r. nat_lt r new && is_among_from r s.height new) row;
    }

-- what is known of its rows on the way, read at it
rows_are : (a c p b : Bool) (at height rows after : ℕ) → after ≡ cond (a && p) at rows → a ≡ c → p ≡ b → at ≡ height → after ≡ cond (c && b) height rows
rows_are a c p b at height rows after e is spans same = rw (is, spans, same) at e

-- ---- the forests on the way

-- From a forest to one in which a table's cells have their heights, to one in which those across a new row have a row more, and
-- to one with the row.
pub record HasRow (f : Forest) (table new row : ℕ) (set grown opened : Forest) : Type 0 where
  pub in_order : IsForest f
  pub heights : IsSpanned f set (cells_in (spots_of f table)) (height_at (spots_of f table))
  pub taller : IsSpanned set grown (cells_in (crossing new (spots_of f table))) (λ q. height_at (spots_of f table) q + 1)
  pub made : IsOpened table row new grown opened
  pub below : (p q : ℕ) → is_among q (children_of grown p) ≡ true → (q < row) × (p < row)

-- Heights are set again, and those across the row have a row less.
pub record IsShrunk (table new : ℕ) (opened again shrunk : Forest) : Type 0 where
  pub opened_in_order : IsForest opened
  pub reset : IsSpanned opened again (cells_in (spots_of opened table)) (height_at (spots_of opened table))
  pub lower : IsSpanned again shrunk (cells_in (crossing new (spots_of opened table))) (λ q. height_at (spots_of opened table) q - 1)
  pub shrunk_in_order : IsForest shrunk

module _ (f : Forest) (table new row : ℕ) (set grown opened : Forest) (way : HasRow f table new row set grown opened) where
  grown_children : (q : ℕ) → children_of grown q ≡ children_of f q
  grown_children q = way.taller.children q ∙ way.heights.children q

  -- the row's key is new
  absent : (p : ℕ) → is_among row (children_of f p) ≡ false
  absent p = elim (cases_Bool (is_among row (children_of f p))) [
    | inl e ↦ absurd (let clash : row < row = (way.below p row (ap (is_among row) (grown_children p) ∙ e)).0 in omega (arith, clash))
    | inr e ↦ e
  ]

  pub within : new ≤ length (children_of f table)
  within = subst (λ xs. new ≤ length xs) (grown_children table) way.made.within

  pub opened_rows : children_of opened table ≡ names_with (slice_get (children_of f table) new) (row ∷ []) (children_of f table)
  opened_rows = way.made.rows ∙ ap (λ xs. names_with (slice_get xs new) (row ∷ []) xs) (grown_children table)

  pub inserted_rows : children_of opened table ≡ insert (children_of f table) new row
  inserted_rows = opened_rows ∙ names_with-insert (children_of f table) row new (NoRepeats-children_of f table way.in_order) within

  -- what a row that was there is
  pub record WasThere (i k : ℕ) : Type 0 where
    pub key_below : k < row
    pub other : eqb k table ≡ false
    pub cells : children_of opened k ≡ children_of f k
    pub index : ℕ
    pub at : slice_get (children_of opened table) index ≡ Some k
    pub shift : IsShifted new i index

  pub was_there : (i k : ℕ) → slice_get (children_of f table) i ≡ Some k → WasThere i k
  was_there i k at =
      let among : is_among k (children_of f table) ≡ true = is_among-slice_get (children_of f table) k i at in
      let low : k < row = (way.below table k (ap (is_among k) (grown_children table) ∙ among)).0 in
      let moved = shifted (children_of f table) new row i k at within in
      let up : parent_of f k ≡ Some table = above_is f k table way.in_order among in
      let free : is_named (parent_of f k) k ≡ false = parent_of-self f k way.in_order in
      let other : eqb k table ≡ false = grind (arith, rw up at free, eqb_tells k table, eqb_tells table k) in
      record {
        key_below = low;
        other = other;
        cells = way.made.others k low other ∙ grown_children k;
        index = moved.0;
        at = ap (λ xs. slice_get xs moved.0) inserted_rows ∙ moved.1;
        shift = moved.2;
      }

  -- where the new row is
  pub new_row_at : slice_get (children_of opened table) new ≡ Some row
  new_row_at = ap (λ xs. slice_get xs new) inserted_rows ∙ at_insert (children_of f table) new row within

module _ (f : Forest) (table new row : ℕ) (set grown opened again shrunk : Forest) (way : HasRow f table new row set grown opened)
    (gone : IsShrunk table new opened again shrunk) where
  shrunk_children : (q : ℕ) → children_of shrunk q ≡ children_of opened q
  shrunk_children q = gone.lower.children q ∙ gone.reset.children q

  fields_left : (q : ℕ) → fields_of (take_out row shrunk) q ≡ fields_of shrunk q
  fields_left q = ap (option_map (λ (x : Label). x.fields)) (label_of-take_out row shrunk q gone.shrunk_in_order)

  columns_back : (q : ℕ) → q < row → column_span (take_out row shrunk) q ≡ column_span f q
  columns_back q low =
      ap (read_by columns_in 1) (fields_left q) ∙ gone.lower.columns q ∙ gone.reset.columns q ∙ ap (read_by columns_in 1) (way.made.fields q low)
      ∙ way.taller.columns q ∙ way.heights.columns q

  length_opened : length (children_of opened table) ≡ length (children_of f table) + 1
  length_opened =
      ap length (opened_rows f table new row set grown opened way) ∙ length-names_with (slice_get (children_of f table) new) row (children_of f table)

  rows_back : (i k q : ℕ) → slice_get (children_of f table) i ≡ Some k → is_among q (children_of f k) ≡ true
      → min (row_span (take_out row shrunk) q) (length (children_of f table) - i) ≡ min (row_span f q) (length (children_of f table) - i)
  rows_back i k q at among =
      let there = was_there f table new row set grown opened way i k at in
      let low : q < row = (way.below k q (ap (is_among q) (grown_children f table new row set grown opened way k) ∙ among)).0 in
      let seen : Seen f table new i q = cell_seen f table new i k q way.in_order at among in
      let later : Seen opened table new there.index q =
      cell_seen opened table new there.index k q gone.opened_in_order there.at (ap (is_among q) there.cells ∙ among) in
      let spans_set : has_spans set q ≡ has_spans f q = way.heights.spans q in
      let spans_opened : has_spans opened q ≡ has_spans f q = ap tell_spans (way.made.fields q low) ∙ way.taller.spans q ∙ spans_set in
      let spans_again : has_spans again q ≡ has_spans f q = gone.reset.spans q ∙ spans_opened in
      let c : Bool = nat_lt i new && is_among_from i seen.height new in
      let d : Bool = nat_lt there.index new && is_among_from there.index later.height new in
      let high : later.height ≡ min (row_span opened q) (length (children_of f table) + 1 - there.index) =
      later.is ∙ ap (λ n. min (row_span opened q) (n - there.index)) length_opened in
      ap (λ n. min n (length (children_of f table) - i)) (ap (read_by rows_in 1) (fields_left q))
      ∙ told (has_spans f q) c d i there.index new (length (children_of f table)) (row_span f q) seen.height (row_span opened q) later.height
      (row_span set q) (row_span grown q) (row_span again q) (row_span shrunk q)
      (slice_get_within (children_of f table) i k at) seen.is refl
      (rows_are (is_among q (cells_in (spots_of f table))) true (has_spans f q) (has_spans f q) (height_at (spots_of f table) q) seen.height (row_span f q)
      (row_span set q) (way.heights.rows q) seen.among refl seen.height_is)
      (rows_are (is_among q (cells_in (crossing new (spots_of f table)))) c (has_spans set q) (has_spans f q) (height_at (spots_of f table) q + 1)
      (seen.height + 1) (row_span set q) (row_span grown q) (way.taller.rows q) seen.across spans_set
      (ap (λ n. n + 1) seen.height_is))
      (ap (read_by rows_in 1) (way.made.fields q low))
      high
      (rows_are (is_among q (cells_in (spots_of opened table))) true (has_spans opened q) (has_spans f q) (height_at (spots_of opened table) q) later.height
      (row_span opened q) (row_span again q) (gone.reset.rows q) later.among spans_opened later.height_is)
      refl
      (rows_are (is_among q (cells_in (crossing new (spots_of opened table)))) d (has_spans again q) (has_spans f q) (height_at (spots_of opened table) q - 1)
      (later.height - 1) (row_span again q) (row_span shrunk q) (gone.lower.rows q) later.across spans_again
      (ap (λ n. n - 1) later.height_is))
      there.shift

  pub alike_again : IsAlike f (take_out row shrunk) table
  alike_again = record {
    keys =
        children_of-take_out row shrunk table gone.shrunk_in_order
        ∙ ap (names_without row) (shrunk_children table ∙ opened_rows f table new row set grown opened way)
        ∙ names_without-names_with (slice_get (children_of f table) new) row (children_of f table) (absent f table new row set grown opened way table);
    each = λ i k at.
        let there = was_there f table new row set grown opened way i k at in
        record {
          cells =
              children_of-take_out row shrunk k gone.shrunk_in_order ∙ ap (names_without row) (shrunk_children k ∙ there.cells)
              ∙ names_without-absent_list row (children_of f k) (absent f table new row set grown opened way k);
          columns = λ q among. columns_back q (way.below k q (ap (is_among q) (grown_children f table new row set grown opened way k) ∙ among)).0;
          rows = λ q among. rows_back i k q at among;
        };
  }
