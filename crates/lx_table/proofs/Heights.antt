-- Setting the heights of a table's cells: what it does to their spans, and that it leaves the grid as it was.
use Rattle.std.proofs.Common.{◌≡◌, ◌∙◌, ℕ, ◌-◌, Bool, true, false, cond, length, Some, Ok, refl, sym, ap, arith}
use Rattle.std.specs.Prelude.{min}
use Rattle.std.specs.List.{All, slice_get}
use Rattle.lx_trees.specs.Siblings.{is_among}
use Rattle.lx_forest.specs.Forest.{Forest}
use Rattle.lx_forest.specs.Lookups.{children_of, IsForest}
use Rattle.lx_draft.specs.Working.{Working}
use Rattle.lx_draft.specs.Covering.{IsReady}
use Rattle.lx_table.specs.declared.spots.Spot.{Spot}
use Rattle.lx_table.specs.Spans.{row_span, heights_set}
use Rattle.lx_table.specs.Grid.{spots_of, grid_of}
use Rattle.lx_table.proofs.Alike.{same_grid}
use Rattle.lx_table.proofs.Own.{IsOwn, spots_own, spot_in_row, row_of_spot, height_at, height_found, all_by, cells_in}
use Rattle.lx_table.proofs.Spanned.{IsSpanned, IsDue, spots_spanned}

abbrev height_to_set : Spot → ℕ
height_to_set s = s.height

due_heights : (f : Forest) (table : ℕ) → IsForest f → All (IsDue f height_to_set (height_at (spots_of f table))) (spots_of f table)
due_heights f table ordered =
    all_by (IsDue f height_to_set (height_at (spots_of f table))) (IsOwn f (children_of f table)) (spots_of f table) (spots_own f table)
    (λ i s at own. record { width = own.width; height = sym (height_found f table ordered (spots_of f table) i s (spots_own f table) own at) })

pub heights_spanned : (w v : Working) (table : ℕ) → IsForest w.forest → heights_set (spots_of w.forest table) w ≡ Ok v
    → IsSpanned w.forest v.forest (cells_in (spots_of w.forest table)) (height_at (spots_of w.forest table))
unfolding heights_set
heights_spanned w v table ordered e =
    spots_spanned w.forest height_to_set (height_at (spots_of w.forest table)) (spots_of w.forest table) w v (λ q. refl) (due_heights w.forest table ordered) e

-- a cell is as high as its span says, within the rows that are left
height_is : (f : Forest) (table i k q : ℕ) → IsForest f → slice_get (children_of f table) i ≡ Some k → is_among q (children_of f k) ≡ true
    → height_at (spots_of f table) q ≡ min (row_span f q) (length (children_of f table) - i)
height_is f table i k q ordered at among =
    let found = spot_in_row f table i k q at among in
    let row : found.spot.row ≡ i = row_of_spot f table i k q found.spot ordered at among found.has found.is in
    ap (height_at (spots_of f table)) (sym found.is)
    ∙ height_found f table ordered (spots_of f table) found.index found.spot (spots_own f table) found.has found.at
    ∙ found.has.height ∙ ap (λ c. min (row_span f c) (length (children_of f table) - found.spot.row)) found.is
    ∙ ap (λ r. min (row_span f q) (length (children_of f table) - r)) row

-- so its span, once set to that, says the same
same_within : (is_set : Bool) (height rows most : ℕ) → height ≡ min rows most → min (cond is_set height rows) most ≡ min rows most
same_within true height rows most is = omega (arith, is)
same_within false height rows most is = refl

pub heights_keep : (w v : Working) (table : ℕ) → IsReady w → heights_set (spots_of w.forest table) w ≡ Ok v → grid_of v.forest table ≡ grid_of w.forest table
heights_keep w v table ready e =
    let spanned = heights_spanned w v table ready.in_order e in
    same_grid w.forest v.forest table (record {
      keys = spanned.children table;
      each = λ i k at. record {
        cells = spanned.children k;
        columns = λ q among. spanned.columns q;
        rows = λ q among.
            ap (λ n. min n (length (children_of w.forest table) - i)) (spanned.rows q)
            ∙ same_within _ (height_at (spots_of w.forest table) q) (row_span w.forest q) _ (height_is w.forest table i k q ready.in_order at among);
      };
    })
