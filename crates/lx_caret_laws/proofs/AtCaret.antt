-- A selection in a text: the range that commands take it for, and the places of its points.
use Rattle.lx_blocks.specs.Ranges.{end_of, is_collapsed, is_fit, lies, range_in, range_of, start_of}
use Rattle.lx_blocks.specs.declared.ranges.Ranged.{Ranged}
use Rattle.lx_caret.proofs.Cleared.{range_lies}
use Rattle.lx_caret.proofs.Fit.{after_tells}
use Rattle.lx_caret.proofs.Lies.{both, text_at}
use Rattle.lx_caret.specs.Removing.{remove_between, remove_text_step, removed_in}
use Rattle.lx_edit_laws.proofs.WrapSteps.{was_same}
use Rattle.lx_node.specs.declared.cause.Cause.{Cause}
use Rattle.lx_caret.specs.Lying.{IsLying}
use Rattle.lx_draft.specs.Faults.{text_in}
use Rattle.lx_draft.specs.Selecting.{is_counted_in, is_place, length_of, length_told, lies_in, text_of}
use Rattle.lx_draft.specs.Working.{Working}
use Rattle.lx_edit.specs.Edits.{text_point}
use Rattle.lx_forest.specs.Forest.{Forest}
use Rattle.lx_forest.specs.Lookups.{is_attached, kind_of, label_of}
use Rattle.lx_node.specs.declared.cause.Cause.TheVariants.{NoSelection}
use Rattle.lx_node.specs.declared.cause.Point.{Point}
use Rattle.lx_node.specs.declared.cause.PointKind.TheVariants as point
use Rattle.lx_node.specs.declared.cause.SelectionKind.TheVariants as selected
use Rattle.lx_node.specs.declared.fields.TextFields.{TextFields}
use Rattle.lx_select.specs.declared.selection.Selection.TheVariants.{Range}
use Rattle.lx_text.specs.Texts.{is_offset}
use Rattle.std.proofs.Common.{Bool, Err, Ok, Result, Some, ap, arith, cond, false, subst, sym, true, ℕ, ◌&&◌, ◌∙◌, ◌≡◌, ◌≤◌}
use Rattle.std.proofs.lemmas.Bool.Decides.{eqb_tells, nat_tests}
use Rattle.std.specs.Prelude.{nat_le}

-- a point that lies in a text is at a place of it
pub place_lies : (f : Forest) (k at : ℕ) (t : TextFields) → text_in (label_of f k) ≡ Some t → lies f (text_point k at) ≡ true
    → (is_offset at t.text ≡ true) × (at ≤ length_told t.text)
place_lies f k at t here e =
    let inner = (both (is_attached f k) (lies_in f (text_point k at)) e).1 in
    let place = (both (is_counted_in point.Text (kind_of f k)) (is_place f (text_point k at) point.Text) inner).1 in
    let now : (nat_le at (length_told t.text) && is_offset at t.text) ≡ true =
    subst (λ x. (nat_le at (length_of x) && is_offset at (text_of x)) ≡ true) (text_at f k t here).fields_are place in
    let parts = both (nat_le at (length_told t.text)) (is_offset at t.text) now in
    (parts.1, grind (arith, nat_tests, parts.0))

-- the range that a command takes
abbrev pub ranged : Point → Point → ℕ → Ranged
ranged a b format = record { anchor = a; focus = b; format = format }

range_is : (f : Forest) (a b : Point) (format : ℕ) (r : Ranged) → range_in f (Range a b format) ≡ Ok r → ranged a b format ≡ r
range_is f a b format r e = by_test (is_fit f a b) e where
  by_test : (t : Bool) → cond t (Ok (ranged a b format)) (Err (NoSelection selected.Range)) ≡ Ok r → ranged a b format ≡ r
  by_test true e = cc
  by_test false e = absurd (cc)

-- what is taken of a selection
pub record IsTaken (a b : Point) (format : ℕ) (w : Working) : Type 0 where
  pub is : range_of w ≡ Ok (ranged a b format)
  pub anchor : lies w.forest a ≡ true
  pub focus : lies w.forest b ≡ true
  pub lying : IsLying w

pub taken : (a b : Point) (format : ℕ) (w : Working) (r : Ranged) → w.selection ≡ Range a b format → range_of w ≡ Ok r → IsTaken a b format w
unfolding range_of
taken a b format w r selects e =
    let same : ranged a b format ≡ r = range_is w.forest a b format r (sym (ap (range_in w.forest) selects) ∙ e) in
    let lying = range_lies w r e in
    record {
      is = e ∙ ap (λ x. Ok x) (sym same);
      anchor = ap (λ x. lies w.forest x.anchor) same ∙ lying.anchor;
      focus = ap (λ x. lies w.forest x.focus) same ∙ lying.focus;
      lying = lying.lying;
    }

pub collapsed : (p : Point) (format : ℕ) → is_collapsed (ranged p p format) ≡ true
collapsed p format = grind (arith, eqb_tells p.key p.key, eqb_tells p.offset p.offset)

-- what is done with a selection
pub record Goes (a b : Point) (format : ℕ) (w v : Working) : Type 0 where
  pub is : IsTaken a b format w
  pub removed : removed_in (ranged a b format) w ≡ Ok v

pub goes : (a b : Point) (format : ℕ) (w v : Working) → w.selection ≡ Range a b format → remove_text_step w ≡ Ok v → Goes a b format w v
unfolding remove_text_step
goes a b format w v selects e =
    let first = after_tells (range_of w) (λ r. removed_in r w) v e in
    let is = taken a b format w first.0 selects first.1.0 in
    let same : first.0 ≡ ranged a b format =
    let both_are : ◌≡◌ {A = Result Ranged Cause} (Ok first.0) (Ok (ranged a b format)) = sym first.1.0 ∙ is.is in cc in
    record { is = is; removed = ap (λ r. removed_in r w) (sym same) ∙ first.1.1 }

-- nothing is removed at a caret
pub at_caret : (p : Point) (format : ℕ) (w v : Working) → w.selection ≡ Range p p format → remove_text_step w ≡ Ok v → IsTaken p p format w × (w ≡ v)
at_caret p format w v caret e =
    let told = goes p p format w v caret e in
    let r : Ranged = ranged p p format in
    let kept : cond (is_collapsed r) (Ok w) (remove_between (start_of w.forest r) (end_of w.forest r) w) ≡ Ok v = told.removed in (
      told.is,
      was_same w v (subst (λ t. cond t (Ok w) (remove_between (start_of w.forest r) (end_of w.forest r) w) ≡ Ok v) (collapsed p format) kept),
    )
