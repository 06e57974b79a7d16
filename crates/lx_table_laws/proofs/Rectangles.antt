-- A rectangle that grows by the cells that it meets comes to rest, and is the least that no cell crosses.
use Rattle.std.proofs.Common.{◌≡◌, ◌∙◌, ◌⊎◌, ℕ, zero, suc, ◌+◌, ◌<◌, ◌≤◌, ◌&&◌, ◌||◌, not, Bool, true, false, cond, List, [], ◌∷◌, length, Some, refl, sym, ap, subst, arith, inl, inr}
use Rattle.std.specs.Prelude.{max}
use Rattle.std.specs.List.{list_any, slice_get}
use Rattle.std.proofs.lemmas.Bool.{cases_Bool}
use Rattle.std.proofs.lemmas.Bool.Decides.{nat_tests}
use Rattle.lx_table.specs.declared.spots.Spot.{Spot}
use Rattle.lx_table.specs.declared.rectangles.Rectangle.{Rectangle}
use Rattle.lx_select.specs.declared.selection.Selection.TheVariants.{Cells}
use Rattle.lx_draft.specs.Working.{Working}
use Rattle.lx_draft.specs.Faults.{after}
use Rattle.lx_table.specs.Spots.{covers, spot_of}
use Rattle.lx_table.specs.Grid.{spots_of}
use Rattle.lx_table.specs.Merging.{found, merged_in, merged_between, merged_cells, merge_cells_step}
use Rattle.lx_table.specs.Spans.{heights_set}
use Rattle.lx_table.specs.Places.{are_attached, selected_cells}
use Rattle.lx_table.specs.Reading.{around, both, meet, with_met, grown_over, grown, rectangle_of, starts_in}
use Rattle.lx_table.proofs.Gaps.{grown_still}
use Rattle.lx_table_laws.specs.Rectangles.{lies_within, holds_spot, crosses, Encloses, IsLeast, HasPlaces, has_place, SharePlace}
use Rattle.lx_table_laws.specs.Laws.{RectanglesAreLeast, MergesGoByLeast}

-- ---- edges

pub record AreWithin (r t : Rectangle) : Type 0 where
  pub top : t.top ≤ r.top
  pub left : t.left ≤ r.left
  pub bottom : r.bottom ≤ t.bottom
  pub right : r.right ≤ t.right

edges : (r t : Rectangle) → lies_within r t ≡ true → AreWithin r t
edges r t e = record {
  top = grind (arith, nat_tests, e);
  left = grind (arith, nat_tests, e);
  bottom = grind (arith, nat_tests, e);
  right = grind (arith, nat_tests, e);
}

within : (r t : Rectangle) → t.top ≤ r.top → t.left ≤ r.left → r.bottom ≤ t.bottom → r.right ≤ t.right → lies_within r t ≡ true
within r t a b c d = grind (arith, nat_tests, a, b, c, d)

by_edges : (r t : Rectangle) → AreWithin r t → lies_within r t ≡ true
by_edges r t w = within r t w.top w.left w.bottom w.right

within_self : (r : Rectangle) → AreWithin r r
within_self r = record { top = omega arith; left = omega arith; bottom = omega arith; right = omega arith }

within_on : (r s t : Rectangle) → AreWithin r s → AreWithin s t → AreWithin r t
within_on r s t a b = record {
  top = omega (arith, a.top, b.top);
  left = omega (arith, a.left, b.left);
  bottom = omega (arith, a.bottom, b.bottom);
  right = omega (arith, a.right, b.right);
}

same_edges : (r t : Rectangle) → AreWithin r t → AreWithin t r → r ≡ t
same_edges r t a b =
    let top : r.top ≡ t.top = omega (arith, a.top, b.top) in
    let left : r.left ≡ t.left = omega (arith, a.left, b.left) in
    let bottom : r.bottom ≡ t.bottom = omega (arith, a.bottom, b.bottom) in
    let right : r.right ≡ t.right = omega (arith, a.right, b.right) in
    ap (λ (n : ℕ). let made : Rectangle = record { top = n; left = r.left; bottom = r.bottom; right = r.right } in made) top
    ∙ ap (λ (n : ℕ). let made : Rectangle = record { top = t.top; left = n; bottom = r.bottom; right = r.right } in made) left
    ∙ ap (λ (n : ℕ). let made : Rectangle = record { top = t.top; left = t.left; bottom = n; right = r.right } in made) bottom
    ∙ ap (λ (n : ℕ). let made : Rectangle = record { top = t.top; left = t.left; bottom = t.bottom; right = n } in made) right

-- ---- the rectangle of two

first_in_both : (a b : Rectangle) → AreWithin a (both a b)
first_in_both a b = record { top = omega arith; left = omega arith; bottom = omega arith; right = omega arith }

second_in_both : (a b : Rectangle) → AreWithin b (both a b)
second_in_both a b = record { top = omega arith; left = omega arith; bottom = omega arith; right = omega arith }

both_within : (a b t : Rectangle) → AreWithin a t → AreWithin b t → AreWithin (both a b) t
both_within a b t x y = record {
  top = omega (arith, x.top, y.top);
  left = omega (arith, x.left, y.left);
  bottom = omega (arith, x.bottom, y.bottom);
  right = omega (arith, x.right, y.right);
}

meet_within : (r t b : Rectangle) → AreWithin r t → meet r b ≡ true → meet t b ≡ true
meet_within r t b w e = grind (arith, nat_tests, w.top, w.left, w.bottom, w.right, e)

-- ---- a turn

met_here : (r : Rectangle) (s : Spot) → meet r (around s) ≡ true → with_met r s ≡ both r (around s)
met_here r s e = rw e refl

not_met : (r : Rectangle) (s : Spot) → meet r (around s) ≡ false → with_met r s ≡ r
not_met r s e = rw e refl

-- a cell that is within changes nothing
held : (r : Rectangle) (s : Spot) → AreWithin (around s) r → with_met r s ≡ r
held r s w =
    elim (cases_Bool (meet r (around s))) [
      | inl met ↦ met_here r s met ∙ same_edges (both r (around s)) r (both_within r (around s) r (within_self r) w) (first_in_both r (around s))
      | inr not_there ↦ not_met r s not_there
    ]

within_met : (r : Rectangle) (s : Spot) → AreWithin r (with_met r s)
within_met r s =
    elim (cases_Bool (meet r (around s))) [
      | inl met ↦ subst (AreWithin r) (sym (met_here r s met)) (first_in_both r (around s))
      | inr not_there ↦ subst (AreWithin r) (sym (not_met r s not_there)) (within_self r)
    ]

within_grown : (spots : List Spot) (r : Rectangle) → AreWithin r (grown_over spots r)
within_grown [] r = within_self r
within_grown (s ∷ spots) r = within_on r (with_met r s) (grown_over spots (with_met r s)) (within_met r s) (within_grown spots (with_met r s))

-- ---- it comes to rest

-- how many cells a rectangle holds
abbrev held_count : Rectangle → List Spot → ℕ
held_count r [] = 0
held_count r (s ∷ spots) = cond (holds_spot r s) 1 0 + held_count r spots

hold_further : (r t : Rectangle) (s : Spot) → AreWithin r t → holds_spot r s ≡ true → holds_spot t s ≡ true
hold_further r t s w e = by_edges (around s) t (within_on (around s) r t (edges (around s) r e) w)

one_rises : (r t : Rectangle) (s : Spot) → AreWithin r t → cond (holds_spot r s) 1 0 ≤ cond (holds_spot t s) 1 0
one_rises r t s w =
    elim (cases_Bool (holds_spot r s)) [
      | inl here ↦ let there = hold_further r t s w here in (rw here (rw there (omega arith)))
      | inr out ↦ (rw out (omega arith))
    ]

held_rises : (r t : Rectangle) (spots : List Spot) → AreWithin r t → held_count r spots ≤ held_count t spots
held_rises r t [] w = omega arith
held_rises r t (s ∷ spots) w = omega (arith, one_rises r t s w, held_rises r t spots w)

held_most : (r : Rectangle) (spots : List Spot) → held_count r spots ≤ length spots
held_most r [] = omega arith
held_most r (s ∷ spots) = omega (arith, at_most_one (holds_spot r s), held_most r spots)
  where
    at_most_one : (b : Bool) → cond b 1 0 ≤ 1
    at_most_one true = omega arith
    at_most_one false = omega arith

one_new : (a b : Bool) → a ≡ false → b ≡ true → cond a 1 0 < cond b 1 0
one_new true b e h = absurd (cc)
one_new false true e h = omega arith
one_new false false e h = absurd (cc)

-- a cell changes nothing, or it is held only now
cell_cases : (r : Rectangle) (s : Spot) → (with_met r s ≡ r) ⊎ ((holds_spot r s ≡ false) × (holds_spot (with_met r s) s ≡ true))
cell_cases r s =
    elim (cases_Bool (holds_spot r s)) [
      | inl here ↦ inl (held r s (edges (around s) r here))
      | inr out ↦
          elim (cases_Bool (meet r (around s))) [
            | inl met ↦
                let here : holds_spot (both r (around s)) s ≡ true = by_edges (around s) (both r (around s)) (second_in_both r (around s)) in
                inr (out, ap (λ t. holds_spot t s) (met_here r s met) ∙ here)
            | inr apart ↦ inl (not_met r s apart)
          ]
    ]

-- a turn changes nothing, or more cells are held after it
turn_cases : (spots : List Spot) (r : Rectangle) → (grown_over spots r ≡ r) ⊎ (held_count r spots < held_count (grown_over spots r) spots)
turn_cases [] r = inl refl
turn_cases (s ∷ spots) r =
    elim (cell_cases r s) [
      | inl same ↦
          let is : grown_over spots (with_met r s) ≡ grown_over spots r = ap (grown_over spots) same in
          elim (turn_cases spots r) [
            | inl still ↦ inl (is ∙ still)
            | inr more ↦
                inr (subst (λ t. held_count r (s ∷ spots) < held_count t (s ∷ spots)) (sym is)
                (omega (arith, one_rises r (grown_over spots r) s (within_grown spots r), more)))
          ]
      | inr new ↦ inr (one_more s spots r (with_met r s) new.0 new.1 (within_met r s))
    ]
  where
    one_more : (s : Spot) (spots : List Spot) (r t : Rectangle) → holds_spot r s ≡ false → holds_spot t s ≡ true → AreWithin r t
        → held_count r (s ∷ spots) < held_count (grown_over spots t) (s ∷ spots)
    one_more s spots r t out here w =
        let grows : AreWithin t (grown_over spots t) = within_grown spots t in
        let there : holds_spot (grown_over spots t) s ≡ true = hold_further t (grown_over spots t) s grows here in
        omega (
          arith,
          one_new (holds_spot r s) (holds_spot (grown_over spots t) s) out there,
          held_rises r (grown_over spots t) spots (within_on r t (grown_over spots t) w grows),
        )

-- so as many turns as there are cells that it doesn't hold are enough
rests : (n : ℕ) (spots : List Spot) (r : Rectangle) → length spots ≤ held_count r spots + n
    → grown_over spots (grown n spots r) ≡ grown n spots r
rests zero spots r enough =
    elim (turn_cases spots r) [
      | inl still ↦ still
      | inr more ↦ absurd (omega (arith, enough, more, held_most (grown_over spots r) spots))
    ]
rests (suc n) spots r enough =
    elim (turn_cases spots r) [
      | inl still ↦ let all : grown (suc n) spots r ≡ r = grown_still (suc n) spots r still in ap (grown_over spots) all ∙ still ∙ sym all
      | inr more ↦ rests n spots (grown_over spots r) (omega (arith, enough, more))
    ]

-- ---- at rest no cell crosses its edge

either_false : (a b : Bool) → a ≡ false → b ≡ false → (a || b) ≡ false
either_false true b e h = absurd (cc)
either_false false b e h = h

first_false : (a b : Bool) → (a || b) ≡ false → a ≡ false
first_false true b e = absurd (cc)
first_false false b e = refl

rest_false : (a b : Bool) → (a || b) ≡ false → b ≡ false
rest_false true b e = absurd (cc)
rest_false false b e = e

not_crossed : (r : Rectangle) (s : Spot) → with_met r s ≡ r → crosses r s ≡ false
not_crossed r s same =
    elim (cases_Bool (meet r (around s))) [
      | inl met ↦
          let grows : both r (around s) ≡ r = sym (met_here r s met) ∙ same in
          let here : holds_spot r s ≡ true = by_edges (around s) r (subst (AreWithin (around s)) grows (second_in_both r (around s))) in
          ap (λ x. x && not (holds_spot r s)) met ∙ ap not here
      | inr apart ↦ ap (λ x. x && not (holds_spot r s)) apart
    ]

none_cross : (spots : List Spot) (r : Rectangle) → grown_over spots r ≡ r → list_any (crosses r) spots ≡ false
none_cross [] r still = refl
none_cross (s ∷ spots) r still =
    let same : with_met r s ≡ r =
    same_edges (with_met r s) r (subst (AreWithin (with_met r s)) still (within_grown spots (with_met r s))) (within_met r s) in
    either_false (crosses r s) (list_any (crosses r) spots) (not_crossed r s same) (none_cross spots r (ap (grown_over spots) (sym same) ∙ still))

-- ---- it stays within each that no cell crosses

held_by : (t : Rectangle) (s : Spot) → crosses t s ≡ false → meet t (around s) ≡ true → holds_spot t s ≡ true
held_by t s e met = by_test (meet t (around s)) (holds_spot t s) e met where
  by_test : (x y : Bool) → (x && not y) ≡ false → x ≡ true → y ≡ true
  by_test x true e h = refl
  by_test true false e h = absurd (cc)
  by_test false false e h = absurd (cc)

cell_within : (r t : Rectangle) (s : Spot) → crosses t s ≡ false → AreWithin r t → AreWithin (with_met r s) t
cell_within r t s e w =
    elim (cases_Bool (meet r (around s))) [
      | inl met ↦
          subst (λ x. AreWithin x t) (sym (met_here r s met))
          (both_within r (around s) t w (edges (around s) t (held_by t s e (meet_within r t (around s) w met))))
      | inr apart ↦ subst (λ x. AreWithin x t) (sym (not_met r s apart)) w
    ]

turn_within : (spots : List Spot) (r t : Rectangle) → list_any (crosses t) spots ≡ false → AreWithin r t → AreWithin (grown_over spots r) t
turn_within [] r t e w = w
turn_within (s ∷ spots) r t e w =
    turn_within spots (with_met r s) t (rest_false (crosses t s) (list_any (crosses t) spots) e)
    (cell_within r t s (first_false (crosses t s) (list_any (crosses t) spots) e) w)

turns_within : (n : ℕ) (spots : List Spot) (r t : Rectangle) → list_any (crosses t) spots ≡ false → AreWithin r t
    → AreWithin (grown n spots r) t
turns_within zero spots r t e w = w
turns_within (suc n) spots r t e w = turns_within n spots (grown_over spots r) t e (turn_within spots r t e w)

within_turns : (n : ℕ) (spots : List Spot) (r : Rectangle) → AreWithin r (grown n spots r)
within_turns zero spots r = within_self r
within_turns (suc n) spots r =
    within_on r (grown_over spots r) (grown n spots (grown_over spots r)) (within_grown spots r) (within_turns n spots (grown_over spots r))

-- ---- the rectangle of two cells

rectangle_rests : (spots : List Spot) (a b : Spot) → grown_over spots (rectangle_of spots a b) ≡ rectangle_of spots a b
unfolding rectangle_of
rectangle_rests spots a b = rests (length spots) spots (both (around a) (around b)) (omega arith)

holds_both : (spots : List Spot) (a b : Spot) → AreWithin (both (around a) (around b)) (rectangle_of spots a b)
unfolding rectangle_of
holds_both spots a b = within_turns (length spots) spots (both (around a) (around b))

is_within_each : (spots : List Spot) (a b : Spot) (t : Rectangle) → Encloses spots a b t → AreWithin (rectangle_of spots a b) t
unfolding rectangle_of
is_within_each spots a b t u =
    turns_within (length spots) spots (both (around a) (around b)) t u.uncrossed
    (both_within (around a) (around b) t (edges (around a) t u.first) (edges (around b) t u.second))

is_least : (spots : List Spot) (a b : Spot) → IsLeast spots a b (rectangle_of spots a b)
is_least spots a b = record {
  is = record {
    first = by_edges (around a) _ (within_on (around a) _ _ (first_in_both (around a) (around b)) (holds_both spots a b));
    second = by_edges (around b) _ (within_on (around b) _ _ (second_in_both (around a) (around b)) (holds_both spots a b));
    uncrossed = none_cross spots (rectangle_of spots a b) (rectangle_rests spots a b);
  };
  least = λ t u. by_edges (rectangle_of spots a b) t (is_within_each spots a b t u);
}

is_one : (spots : List Spot) (a b : Spot) (r : Rectangle) → IsLeast spots a b r → r ≡ rectangle_of spots a b
is_one spots a b r l =
    same_edges r (rectangle_of spots a b) (edges r (rectangle_of spots a b) (l.least (rectangle_of spots a b) (is_least spots a b).is))
    (is_within_each spots a b r l.is)

-- ---- cells that start in it

starts_held : (r : Rectangle) (s : Spot) → HasPlaces (around s) → holds_spot r s ≡ true → starts_in r s ≡ true
starts_held r s x e = starts r s x (edges (around s) r e) where
  starts : (r : Rectangle) (s : Spot) → HasPlaces (around s) → AreWithin (around s) r → starts_in r s ≡ true
  starts r s x w = grind (arith, nat_tests, x.rows, x.columns, w.top, w.left, w.bottom, w.right)

starts_meet : (r : Rectangle) (s : Spot) → HasPlaces (around s) → starts_in r s ≡ true → meet r (around s) ≡ true
starts_meet r s x e = grind (arith, nat_tests, x.rows, x.columns, e)

-- a test that one passes exactly as the other
same_tests : (x y : Bool) → (x ≡ true → y ≡ true) → (y ≡ true → x ≡ true) → x ≡ y
same_tests true y f g = sym (f refl)
same_tests false true f g = g refl
same_tests false false f g = refl

at_none : (p : Spot → Bool) (spots : List Spot) (i : ℕ) (s : Spot) → list_any p spots ≡ false → slice_get spots i ≡ Some s
    → p s ≡ false
at_none p [] i s e at = absurd (cc)
at_none p (x ∷ spots) zero s e at = let is : x ≡ s = cc in ap p (sym is) ∙ first_false (p x) (list_any p spots) e
at_none p (x ∷ spots) (suc i) s e at = at_none p spots i s (rest_false (p x) (list_any p spots) e) at

starts_are_held : (spots : List Spot) (a b s : Spot) (i : ℕ) → slice_get spots i ≡ Some s → HasPlaces (around s)
    → starts_in (rectangle_of spots a b) s ≡ holds_spot (rectangle_of spots a b) s
starts_are_held spots a b s i at x =
    let r = rectangle_of spots a b in
    let out : crosses r s ≡ false = at_none (crosses r) spots i s (is_least spots a b).is.uncrossed at in
    same_tests (starts_in r s) (holds_spot r s) (λ e. held_by r s out (starts_meet r s x e)) (starts_held r s x)

-- ---- a place in both

rows_met : (r : Rectangle) (s : Spot) → meet r (around s) ≡ true → HasPlaces r → HasPlaces (around s)
    → (max r.top s.row < r.bottom) × (max r.top s.row < s.row + s.height)
rows_met r s e x y = (grind (arith, nat_tests, e, x.rows), grind (arith, nat_tests, e, y.rows))

columns_met : (r : Rectangle) (s : Spot) → meet r (around s) ≡ true → HasPlaces r → HasPlaces (around s)
    → (max r.left s.column < r.right) × (max r.left s.column < s.column + s.width)
columns_met r s e x y = (grind (arith, nat_tests, e, x.columns), grind (arith, nat_tests, e, y.columns))

place_in : (r : Rectangle) (row column : ℕ) → r.top ≤ row → row < r.bottom → r.left ≤ column → column < r.right
    → has_place r row column ≡ true
place_in r row column a b c d = grind (arith, nat_tests, a, b, c, d)

place_of_cell : (s : Spot) (row column : ℕ) → s.row ≤ row → row < s.row + s.height → s.column ≤ column → column < s.column + s.width
    → covers row column s ≡ true
place_of_cell s row column a b c d = grind (arith, nat_tests, a, b, c, d)

share_by_meet : (r : Rectangle) (s : Spot) → HasPlaces r → HasPlaces (around s) → meet r (around s) ≡ true → SharePlace r s
share_by_meet r s x y e =
    let rows = rows_met r s e x y in
    let columns = columns_met r s e x y in
    record {
      row = max r.top s.row;
      column = max r.left s.column;
      here = place_in r (max r.top s.row) (max r.left s.column) (omega arith) rows.0 (omega arith) columns.0;
      there = place_of_cell s (max r.top s.row) (max r.left s.column) (omega arith) rows.1 (omega arith) columns.1;
    }

meet_by_place : (r : Rectangle) (s : Spot) (row column : ℕ) → has_place r row column ≡ true → covers row column s ≡ true
    → meet r (around s) ≡ true
meet_by_place r s row column here there = grind (arith, nat_tests, here, there)

pub rectangles_are_least : RectanglesAreLeast
rectangles_are_least = record {
  least = is_least;
  one = is_one;
  still = λ spots a b n. grown_still n spots (rectangle_of spots a b) (rectangle_rests spots a b);
  starts = starts_are_held;
  shared = λ r s x y. (share_by_meet r s x y, λ p. meet_by_place r s p.row p.column p.here p.there);
}

-- ---- merging goes by it

merges_selected : (w : Working) (table anchor focus : ℕ) → w.selection ≡ Cells table anchor focus
    → are_attached w.forest table anchor focus ≡ true
    → merge_cells_step w ≡ after (heights_set (spots_of w.forest table) w) (merged_between (spots_of w.forest table) anchor focus)
unfolding merge_cells_step merged_cells selected_cells
merges_selected w table anchor focus selected attached = rw selected (rw attached refl)

pub merges_go_by_least : MergesGoByLeast
merges_go_by_least w v table anchor focus a b r selected attached heights first second least =
    let spots : List Spot = spots_of w.forest table in
    merges_selected w table anchor focus selected attached
    ∙ ap (λ o. after o (merged_between spots anchor focus)) heights
    ∙ ap (λ o. after (found anchor o) (λ x. after (found focus (spot_of spots focus)) (λ y. merged_in spots (rectangle_of spots x y) v))) first
    ∙ ap (λ o. after (found focus o) (λ y. merged_in spots (rectangle_of spots a y) v)) second
    ∙ ap (λ x. merged_in spots x v) (sym (is_one spots a b r least))
