-- Of the covered pieces only the first may begin after the start of its text, and that inside it.
use Rattle.std.proofs.Common.{◌≡◌, ◌∙◌, ℕ, ◌<◌, ◌≤◌, zero, suc, Bool, true, false, cond, eqb, ◌&&◌, List, [], ◌∷◌, ◌++◌, map, Option, None, Some, Result, Ok, Err, refl, sym, ap, subst, arith, inl, inr}
use Rattle.std.specs.Prelude.{filter, nat_lt, nat_le, ◌⊎◌}
use Rattle.std.proofs.lemmas.Bool.{cases_lt}
use Rattle.std.specs.List.{slice_get}
use Rattle.std.proofs.lemmas.Bool.Decides.{eqb_tells, nat_tests}
use Rattle.lx_node.specs.Kinds.{has_characters, is_element}
use Rattle.lx_node.specs.declared.kind.Kind.{Kind}
use Rattle.lx_node.specs.declared.kind.Kind.TheVariants.{Text, Tab}
use Rattle.lx_node.specs.declared.cause.Cause.{Cause}
use Rattle.lx_node.specs.declared.cause.Cause.TheVariants.{NoSelection}
use Rattle.lx_node.specs.declared.cause.SelectionKind.TheVariants as kinds
use Rattle.lx_node.specs.declared.cause.Point.{Point}
use Rattle.lx_node.specs.declared.cause.PointKind.{PointKind}
use Rattle.lx_node.specs.declared.cause.PointKind.TheVariants as point
use Rattle.lx_text.specs.Texts.{is_offset}
use Rattle.lx_select.specs.declared.selection.Selection.{Selection}
use Rattle.lx_select.specs.declared.selection.Selection.TheVariants.{Range}
use Rattle.lx_forest.specs.Forest.{Forest}
use Rattle.lx_forest.specs.Lookups.{kind_of, fields_of, is_attached}
use Rattle.lx_draft.specs.Working.{Working}
use Rattle.lx_draft.specs.Selecting.{is_counted_in, is_place, text_of, lies_in}
use Rattle.lx_blocks.specs.declared.ranges.Ranged.{Ranged}
use Rattle.lx_blocks.specs.Blocks.{is_at}
use Rattle.lx_blocks.specs.Places.{comes_first, covered}
use Rattle.lx_blocks.specs.Ranges.{lies, is_fit, range_in, range_of, start_of, end_of, characters_at}
use Rattle.lx_caret.specs.declared.pieces.Piece.{Piece}
use Rattle.lx_caret.specs.Removing.{start_part}
use Rattle.lx_caret.specs.Formatting.{piece, start_piece, end_piece, whole, pieces}
use Rattle.lx_caret.proofs.Covering.{kept}

-- ---- pieces that begin with their texts

AtStart : List Piece → Type 0
AtStart [] = Unit {0}
AtStart (p ∷ ps) = (p.from ≡ 0) × AtStart ps

at_start_append : (xs ys : List Piece) → AtStart xs → AtStart ys → AtStart (xs ++ ys)
unfolding AtStart
at_start_append [] ys a b = b
at_start_append (x ∷ xs) ys a b = (a.0, at_start_append xs ys a.1 b)

at_start_if : (b : Bool) (x : Piece) (xs : List Piece) → x.from ≡ 0 → AtStart xs → AtStart (cond b (x ∷ xs) xs)
unfolding AtStart
at_start_if true x xs a b = (a, b)
at_start_if false x xs a b = b

at_start_kept : (xs : List Piece) → AtStart xs → AtStart (kept xs)
unfolding AtStart
at_start_kept [] a = tt
at_start_kept (x ∷ xs) a = at_start_if (nat_lt x.from x.to) x (kept xs) a.0 (at_start_kept xs a.1)

at_start_wholes : (f : Forest) (ks : List ℕ) → AtStart (map (whole f) ks)
unfolding AtStart
at_start_wholes f [] = tt
at_start_wholes f (k ∷ ks) = (refl, at_start_wholes f ks)

at_start_end : (s e : Point) (kind : PointKind) → AtStart (end_piece s e kind)
unfolding AtStart
at_start_end s e point.Text = by_same (eqb s.key e.key) where
  by_same : (b : Bool) → AtStart (cond b [] (piece e.key 0 e.offset ∷ []))
  by_same true = tt
  by_same false = (refl, tt)
at_start_end s e point.Element = tt

at_start_get : (xs : List Piece) (i : ℕ) (p : Piece) → AtStart xs → slice_get xs i ≡ Some p → p.from ≡ 0
unfolding AtStart
at_start_get [] i p a e = cc
at_start_get (x ∷ xs) zero p a e = let same : x ≡ p = cc in ap (λ (y : Piece). y.from) (sym same) ∙ a.0
at_start_get (x ∷ xs) (suc i) p a e = at_start_get xs i p a.1 e

-- ---- the first piece

begins : (f : Forest) (s e : Point) (kind : PointKind) (rest : List Piece) → AtStart rest
    → (kind ≡ point.Text → s.offset < start_part f s e → s.offset < characters_at f s.key)
    → (i : ℕ) (p : Piece) → slice_get (kept (start_piece f s e kind ++ rest)) i ≡ Some p → 0 < p.from → (i ≡ 0) × (p.from < characters_at f p.key)
begins f s e point.Element rest at inside i p here behind = absurd (omega (arith, behind, at_start_get (kept rest) i p (at_start_kept rest at) here))
begins f s e point.Text rest at inside i p here behind = by_test (ltb_tells s.offset (start_part f s e)) i here where
  ltb_tells : (a b : ℕ) → ((nat_lt a b ≡ true) × (a < b)) ⊎ (nat_lt a b ≡ false)
  ltb_tells a b = elim (cases_lt a b) [ inl lt ↦ inl (grind (arith, lt, nat_tests), lt) | inr ge ↦ inr (grind (arith, ge, nat_tests)) ]

  at_first : (i : ℕ) → s.offset < start_part f s e → slice_get (piece s.key s.offset (start_part f s e) ∷ kept rest) i ≡ Some p
      → (i ≡ 0) × (p.from < characters_at f p.key)
  at_first zero lt is =
      let same : piece s.key s.offset (start_part f s e) ≡ p = cc in
      let P : Piece → Type 0 = λ x. x.from < characters_at f x.key in
      (refl, subst P same (inside refl lt))
  at_first (suc i) lt is = absurd (omega (arith, behind, at_start_get (kept rest) i p (at_start_kept rest at) is))

  by_test : ((nat_lt s.offset (start_part f s e) ≡ true) × (s.offset < start_part f s e)) ⊎ (nat_lt s.offset (start_part f s e) ≡ false) → (i : ℕ)
      → slice_get (cond (nat_lt s.offset (start_part f s e)) (piece s.key s.offset (start_part f s e) ∷ kept rest) (kept rest)) i ≡ Some p
      → (i ≡ 0) × (p.from < characters_at f p.key)
  by_test (inl lt) i is = at_first i lt.1 (rw lt.0 at is)
  by_test (inr away) i is = absurd (omega (arith, behind, at_start_get (kept rest) i p (at_start_kept rest at) (rw away at is)))

-- ---- points that lie in the tree

-- what has characters has no children
no_element : (o : Option Kind) → is_counted_in point.Text o ≡ true → is_counted_in point.Element o ≡ true → ⊥
unfolding has_characters is_element
no_element None a b = cc
no_element (Some Text) a b = cc
no_element (Some Tab) a b = cc
no_element (Some _) a b = cc

both : (a b : Bool) → (a && b) ≡ true → (a ≡ true) × (b ≡ true)
both true true e = (refl, refl)
both true false e = cc
both false b e = cc

end_within : (f : Forest) (s e : Point) → s.kind ≡ point.Text → lies_in f s ≡ true → lies_in f e ≡ true → s.key ≡ e.key → e.offset ≤ characters_at f s.key
end_within f s e text in_s in_e same = by_kind e.kind in_e where
  counted : is_counted_in point.Text (kind_of f s.key) ≡ true
  counted = (both (is_counted_in point.Text (kind_of f s.key)) (is_place f s point.Text)
      (let P : PointKind → Type 0 = λ k. (is_counted_in k (kind_of f s.key) && is_place f s k) ≡ true in subst P text in_s)).0

  by_kind : (k : PointKind) → (is_counted_in k (kind_of f e.key) && is_place f e k) ≡ true → e.offset ≤ characters_at f s.key
  by_kind point.Text h =
      let place = (both (is_counted_in point.Text (kind_of f e.key)) (is_place f e point.Text) h).1 in
      let within = both (nat_le e.offset (characters_at f e.key)) (is_offset e.offset (text_of (fields_of f e.key))) place in
      let le : e.offset ≤ characters_at f e.key = grind (arith, nat_tests, within.0) in
      omega (arith, le, ap (characters_at f) same)
  by_kind point.Element h =
      absurd (no_element (kind_of f e.key) (ap (λ k. is_counted_in point.Text (kind_of f k)) (sym same) ∙ counted)
      (both (is_counted_in point.Element (kind_of f e.key)) (is_place f e point.Element) h).0)

start_inside : (f : Forest) (s e : Point) → lies_in f s ≡ true → lies_in f e ≡ true → s.kind ≡ point.Text → s.offset < start_part f s e
    → s.offset < characters_at f s.key
start_inside f s e in_s in_e text lt = elim (eqb_tells s.key e.key) [
  | inl same ↦ let part : start_part f s e ≡ e.offset = rw same.0 in omega (arith, lt, part, end_within f s e text in_s in_e same.1)
  | inr other ↦ let part : start_part f s e ≡ characters_at f s.key = rw other.0 in omega (arith, lt, part)
]

-- ---- a range that a command has

fit : (f : Forest) (s : Selection) (r : Ranged) → range_in f s ≡ Ok r → is_fit f r.anchor r.focus ≡ true
fit f (Range a b format) r e = by_fit (is_fit f a b) refl e where
  by_fit : (t : Bool) → is_fit f a b ≡ t
      → ◌≡◌ {A = Result Ranged Cause} (cond t (Ok (record { anchor = a; focus = b; format = format })) (Err (NoSelection kinds.Range))) (Ok r)
      → is_fit f r.anchor r.focus ≡ true
  by_fit true is h =
      let m : Ranged = record { anchor = a; focus = b; format = format } in
      let same : m ≡ r = cc in
      let P : Ranged → Type 0 = λ x. is_fit f x.anchor x.focus ≡ true in
      subst P same is
  by_fit false is h = cc
fit f other r e = cc

range_fit : (w : Working) (r : Ranged) → range_of w ≡ Ok r → is_fit w.forest r.anchor r.focus ≡ true
unfolding range_of
range_fit w r e = fit w.forest w.selection r e

lies_both : (f : Forest) (r : Ranged) → is_fit f r.anchor r.focus ≡ true → (lies_in f r.anchor ≡ true) × (lies_in f r.focus ≡ true)
lies_both f r e =
    let pair = both (lies f r.anchor) (lies f r.focus) (both (lies f r.anchor && lies f r.focus) _ e).0 in
    ((both (is_attached f r.anchor.key) (lies_in f r.anchor) pair.0).1, (both (is_attached f r.focus.key) (lies_in f r.focus) pair.1).1)

-- only the first piece may begin after the start of its text, and that inside it
pub edged : (w : Working) (r : Ranged) → range_of w ≡ Ok r → (i : ℕ) (p : Piece)
    → slice_get (pieces w.forest (start_of w.forest r) (end_of w.forest r)) i ≡ Some p → 0 < p.from
    → (i ≡ 0) × (p.from < characters_at w.forest p.key)
edged w r e i p here behind = by_order (comes_first w.forest r.anchor r.focus) here where
  there : (lies_in w.forest r.anchor ≡ true) × (lies_in w.forest r.focus ≡ true)
  there = lies_both w.forest r (range_fit w r e)

  between : (s t : Point) → lies_in w.forest s ≡ true → lies_in w.forest t ≡ true → slice_get (pieces w.forest s t) i ≡ Some p
      → (i ≡ 0) × (p.from < characters_at w.forest p.key)
  between s t in_s in_t is =
      begins w.forest s t s.kind (map (whole w.forest) (filter (is_at has_characters w.forest) (covered w.forest s t)) ++ end_piece s t t.kind)
      (at_start_append (map (whole w.forest) (filter (is_at has_characters w.forest) (covered w.forest s t))) (end_piece s t t.kind)
      (at_start_wholes w.forest (filter (is_at has_characters w.forest) (covered w.forest s t))) (at_start_end s t t.kind))
      (start_inside w.forest s t in_s in_t) i p is behind

  by_order : (b : Bool) → slice_get (pieces w.forest (cond b r.anchor r.focus) (cond b r.focus r.anchor)) i ≡ Some p
      → (i ≡ 0) × (p.from < characters_at w.forest p.key)
  by_order true is = between r.anchor r.focus there.0 there.1 is
  by_order false is = between r.focus r.anchor there.1 there.0 is
