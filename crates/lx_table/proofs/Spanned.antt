-- What sets of spans, one after another, do to each cell.
use Rattle.std.proofs.Common.{◌≡◌, ◌∙◌, ℕ, eqb, ◌||◌, ◌&&◌, Bool, true, false, cond, List, [], ◌∷◌, Option, None, Some, Ok, option_map, refl, sym, ap, subst, arith, inl, inr}
use Rattle.std.specs.Option.{option_or}
use Rattle.std.specs.List.{All}
use Rattle.std.proofs.lemmas.Bool.Decides.{eqb_tells}
use Rattle.std.proofs.lemmas.List.Elements.{All-head, All-tail}
use Rattle.lx_trees.specs.Siblings.{is_among}
use Rattle.lx_node.specs.declared.fields.Extra.{Extra}
use Rattle.lx_node.specs.declared.fields.Extra.TheVariants as extra
use Rattle.lx_node.specs.declared.fields.Fields.{Fields}
use Rattle.lx_node.specs.declared.fields.Fields.TheVariants as fields
use Rattle.lx_forest.specs.Forest.{Forest}
use Rattle.lx_forest.specs.Lookups.{fields_of, children_of}
use Rattle.lx_forest.specs.Edits.{with_fields}
use Rattle.lx_forest.proofs.Lookups.{fields_of-with_fields, children_of-with_fields}
use Rattle.lx_draft.specs.Working.{Working}
use Rattle.lx_draft.specs.Steps.{set_step}
use Rattle.lx_edit.specs.InTurn.{in_turn}
use Rattle.lx_edit.proofs.Climbed.{answered, first_part}
use Rattle.lx_edit.proofs.Paths.{allowed}
use Rattle.lx_table.specs.declared.spots.Spot.{Spot}
use Rattle.lx_table.specs.Spans.{rows_in, columns_in, read_by, row_span, column_span, over_span, spans_in, with_spans, spans_written, span_step}
use Rattle.lx_table.proofs.Own.{cells_in}

-- ---- fields

-- whether fields have spans
abbrev is_cell : Extra → Bool
is_cell (extra.Cell header rows columns background) = true
is_cell _ = false

abbrev pub tell_spans : Option Fields → Bool
tell_spans (Some (fields.Element element)) = is_cell element.extra
tell_spans _ = false

abbrev pub has_spans : Forest → ℕ → Bool
has_spans f q = tell_spans (fields_of f q)

spans_after : (rows columns : ℕ) (x : Fields) → tell_spans (Some (with_spans rows columns x)) ≡ tell_spans (Some x)
spans_after rows columns (fields.Element element) = by_extra element.extra where
  by_extra : (e : Extra) → is_cell (spans_in rows columns e) ≡ is_cell e
  by_extra (extra.Cell header old_rows old_columns background) = refl
  by_extra _ = refl
spans_after rows columns _ = refl

columns_after : (rows columns : ℕ) (x : Fields) → columns ≡ read_by columns_in 1 (Some x)
    → read_by columns_in 1 (Some (with_spans rows columns x)) ≡ read_by columns_in 1 (Some x)
columns_after rows columns (fields.Element element) is = by_extra element.extra is where
  by_extra : (e : Extra) → columns ≡ columns_in e → columns_in (spans_in rows columns e) ≡ columns_in e
  by_extra (extra.Cell header old_rows old_columns background) is = is
  by_extra _ is = refl
columns_after rows columns _ is = refl

rows_after : (rows columns : ℕ) (x : Fields)
    → read_by rows_in 1 (Some (with_spans rows columns x)) ≡ cond (tell_spans (Some x)) rows (read_by rows_in 1 (Some x))
rows_after rows columns (fields.Element element) = by_extra element.extra where
  by_extra : (e : Extra) → rows_in (spans_in rows columns e) ≡ cond (is_cell e) rows (rows_in e)
  by_extra (extra.Cell header old_rows old_columns background) = refl
  by_extra _ = refl
rows_after rows columns _ = refl

fields_here : (k : ℕ) (new old : Fields) (g : Forest) → fields_of g k ≡ Some old → fields_of (with_fields k new g) k ≡ Some new
fields_here k new old g was =
    let here : eqb k k ≡ true = grind (arith, eqb_tells k k) in
    fields_of-with_fields k new g k ∙ ap (option_map (λ o. cond (eqb k k) new o)) was ∙ ap (λ b. Some (cond b new old)) here

fields_elsewhere : (k q : ℕ) (new : Fields) (g : Forest) → eqb q k ≡ false → fields_of (with_fields k new g) q ≡ fields_of g q
fields_elsewhere k q new g other = fields_of-with_fields k new g q ∙ ap (λ b. option_map (λ o. cond b new o) (fields_of g q)) other ∙ same (fields_of g q) where
  same : (o : Option Fields) → option_map (λ (x : Fields). x) o ≡ o
  same None = refl
  same (Some x) = refl

set_forest : (k : ℕ) (x : Fields) (w v : Working) → set_step k x w ≡ Ok v → v.forest ≡ with_fields k x w.forest
unfolding set_step
set_forest k x w v taken = ap (λ (y : Working). y.forest) (answered _ _ v taken)

-- ---- one cell, and one after another

-- The same children are below each node, and each cell has as many columns. Of these cells each has so many rows, where it says
-- spans; any other has as many as before.
pub record IsSpanned (f g : Forest) (cells : List ℕ) (rows_at : ℕ → ℕ) : Type 0 where
  pub children : (q : ℕ) → children_of g q ≡ children_of f q
  pub columns : (q : ℕ) → column_span g q ≡ column_span f q
  pub spans : (q : ℕ) → has_spans g q ≡ has_spans f q
  pub rows : (q : ℕ) → row_span g q ≡ cond (is_among q cells && has_spans f q) (rows_at q) (row_span f q)

turned : (a b : ℕ) → eqb a b ≡ false → eqb b a ≡ false
turned a b e = grind (arith, eqb_tells a b, eqb_tells b a, e)

one_spanned : (f : Forest) (cell rows columns : ℕ) (x : Fields) (rows_at : ℕ → ℕ) → fields_of f cell ≡ Some x → columns ≡ column_span f cell
    → rows ≡ rows_at cell
    → IsSpanned f (with_fields cell (with_spans rows columns x) f) (cell ∷ []) rows_at
one_spanned f cell rows columns x rows_at was width height =
    let new : Fields = with_spans rows columns x in
    let g : Forest = with_fields cell new f in
    let here : eqb cell cell ≡ true = grind (arith, eqb_tells cell cell) in
    let column : column_span g cell ≡ column_span f cell =
    ap (read_by columns_in 1) (fields_here cell new x f was) ∙ columns_after rows columns x (width ∙ ap (read_by columns_in 1) was)
    ∙ sym (ap (read_by columns_in 1) was) in
    let span : has_spans g cell ≡ has_spans f cell = ap tell_spans (fields_here cell new x f was) ∙ spans_after rows columns x ∙ sym (ap tell_spans was) in
    let row : row_span g cell ≡ cond (is_among cell (cell ∷ []) && has_spans f cell) (rows_at cell) (row_span f cell) =
    ap (read_by rows_in 1) (fields_here cell new x f was) ∙ rows_after rows columns x ∙ ap (λ o. cond (tell_spans o) rows (read_by rows_in 1 o)) (sym was)
    ∙ ap (λ n. cond (has_spans f cell) n (row_span f cell)) height
    ∙ ap (λ b. cond ((b || false) && has_spans f cell) (rows_at cell) (row_span f cell)) (sym here) in
    record {
      children = λ q. children_of-with_fields cell new f q;
      columns = λ q. elim (eqb_tells q cell) [
        | inl same ↦ subst (λ c. column_span g c ≡ column_span f c) (sym same.1) column
        | inr other ↦ ap (read_by columns_in 1) (fields_elsewhere cell q new f other.0)
      ];
      spans = λ q. elim (eqb_tells q cell) [
        | inl same ↦ subst (λ c. has_spans g c ≡ has_spans f c) (sym same.1) span
        | inr other ↦ ap tell_spans (fields_elsewhere cell q new f other.0)
      ];
      rows = λ q. elim (eqb_tells q cell) [
        | inl same ↦ subst (λ c. row_span g c ≡ cond (is_among c (cell ∷ []) && has_spans f c) (rows_at c) (row_span f c)) (sym same.1) row
        | inr other ↦
            ap (read_by rows_in 1) (fields_elsewhere cell q new f other.0)
            ∙ ap (λ b. cond ((b || false) && has_spans f q) (rows_at q) (row_span f q)) (sym (turned q cell other.0))
      ];
    }

no_node : (f : Forest) (cell : ℕ) (rows_at : ℕ → ℕ) → fields_of f cell ≡ None → IsSpanned f f (cell ∷ []) rows_at
no_node f cell rows_at was = record { children = λ q. refl; columns = λ q. refl; spans = λ q. refl; rows = each } where
  nothing : (a h : Bool) (x y : ℕ) → h ≡ false → y ≡ cond (a && h) x y
  nothing true true x y e = absurd (cc)
  nothing true false x y e = refl
  nothing false h x y e = refl

  each : (q : ℕ) → row_span f q ≡ cond (is_among q (cell ∷ []) && has_spans f q) (rows_at q) (row_span f q)
  each q = elim (eqb_tells cell q) [
    | inl same ↦ nothing (is_among q (cell ∷ [])) (has_spans f q) (rows_at q) (row_span f q) (sym (ap (λ c. has_spans f c) same.1) ∙ ap tell_spans was)
    | inr other ↦ ap (λ b. cond ((b || false) && has_spans f q) (rows_at q) (row_span f q)) (sym other.0)
  ]

first_or_later : (a b h : Bool) (x y : ℕ) → cond (b && h) x (cond ((a || false) && h) x y) ≡ cond ((a || b) && h) x y
first_or_later true true true x y = refl
first_or_later true true false x y = refl
first_or_later true false true x y = refl
first_or_later true false false x y = refl
first_or_later false true true x y = refl
first_or_later false true false x y = refl
first_or_later false false true x y = refl
first_or_later false false false x y = refl

then_spanned : (f g h : Forest) (cell : ℕ) (cells : List ℕ) (rows_at : ℕ → ℕ) → IsSpanned f g (cell ∷ []) rows_at → IsSpanned g h cells rows_at
    → IsSpanned f h (cell ∷ cells) rows_at
then_spanned f g h cell cells rows_at a b = record {
  children = λ q. b.children q ∙ a.children q;
  columns = λ q. b.columns q ∙ a.columns q;
  spans = λ q. b.spans q ∙ a.spans q;
  rows = λ q.
      b.rows q ∙ ap (λ p. cond (is_among q cells && p) (rows_at q) (row_span g q)) (a.spans q)
      ∙ ap (λ n. cond (is_among q cells && has_spans f q) (rows_at q) n) (a.rows q)
      ∙ first_or_later (eqb cell q) (is_among q cells) (has_spans f q) (rows_at q) (row_span f q);
}

span_spanned : (rows columns cell : ℕ) (rows_at : ℕ → ℕ) (w v : Working) → columns ≡ column_span w.forest cell → rows ≡ rows_at cell
    → span_step rows columns cell w ≡ Ok v
    → IsSpanned w.forest v.forest (cell ∷ []) rows_at
unfolding span_step
span_spanned rows columns cell rows_at w v width height e =
    allowed (λ (x y : Working). IsSpanned x.forest y.forest (cell ∷ []) rows_at) w v (option_or (over_span rows) (over_span columns))
    (λ u. spans_written rows columns cell (fields_of u.forest cell) u)
    (λ taken. by_fields (fields_of w.forest cell) refl taken) e
  where
    by_fields : (o : Option Fields) → fields_of w.forest cell ≡ o → spans_written rows columns cell o w ≡ Ok v → IsSpanned w.forest v.forest (cell ∷ []) rows_at
    by_fields None was taken = let same : w ≡ v =
        cc in subst (λ (y : Working). IsSpanned w.forest y.forest (cell ∷ []) rows_at) same (no_node w.forest cell rows_at was)
    by_fields (Some x) was taken =
        subst (λ g. IsSpanned w.forest g (cell ∷ []) rows_at) (sym (set_forest cell (with_spans rows columns x) w v taken))
        (one_spanned w.forest cell rows columns x rows_at was width height)

-- what a spot is set to
pub record IsDue (f : Forest) (rows : Spot → ℕ) (rows_at : ℕ → ℕ) (s : Spot) : Type 0 where
  pub width : s.width ≡ column_span f s.cell
  pub height : rows s ≡ rows_at s.cell

pub spots_spanned : (f : Forest) (rows : Spot → ℕ) (rows_at : ℕ → ℕ) (spots : List Spot) (w v : Working) → ((q : ℕ) → column_span w.forest q ≡ column_span f q)
    → All (IsDue f rows rows_at) spots
    → in_turn (λ s. span_step (rows s) s.width s.cell) spots w ≡ Ok v → IsSpanned w.forest v.forest (cells_in spots) rows_at
unfolding in_turn
spots_spanned f rows rows_at [] w v columns all e =
    let same : w ≡ v = cc in
    subst (λ (y : Working). IsSpanned w.forest y.forest [] rows_at) same
    (record { children = λ q. refl; columns = λ q. refl; spans = λ q. refl; rows = λ q. refl })
spots_spanned f rows rows_at (s ∷ spots) w v columns all e =
    let parts = first_part (span_step (rows s) s.width s.cell w) (in_turn (λ (t : Spot). span_step (rows t) t.width t.cell) spots) v e in
    let due = All-head (IsDue f rows rows_at) s spots all in
    let here = span_spanned (rows s) s.width s.cell rows_at w parts.0 (due.width ∙ sym (columns s.cell)) due.height parts.1 in
    then_spanned w.forest parts.0.forest v.forest s.cell (cells_in spots) rows_at here
    (spots_spanned f rows rows_at spots parts.0 v (λ q. here.columns q ∙ columns q) (All-tail (IsDue f rows rows_at) s spots all) parts.2)
