-- The points of a committed selection are on nodes of the tree.
use Rattle.std.proofs.Common.{◌≡◌, ◌∙◌, ℕ, ◌&&◌, Bool, true, false, Option, None, Some, is_some, refl, sym, arith}
use Rattle.std.specs.Option.{option_or}
use Rattle.lx_node.specs.declared.kind.Kind.{Kind}
use Rattle.lx_node.specs.declared.cause.Point.{Point}
use Rattle.lx_node.specs.declared.cause.PointKind.{PointKind}
use Rattle.lx_select.specs.declared.selection.Selection.{Selection}
use Rattle.lx_select.specs.declared.selection.Selection.TheVariants.{Nothing, Range, Nodes, Cells}
use Rattle.lx_forest.specs.Forest.{Forest}
use Rattle.lx_forest.specs.Lookups.{has, kind_of, is_attached}
use Rattle.lx_draft.specs.Selecting.{is_counted_in, lies_in, lost_point}
use Rattle.lx_draft.proofs.Touched.{is_some-kind_of}
use Rattle.lx_caret.specs.Lying.{EachPoint}
use Rattle.lx_editor.specs.Standing.{IsState}

counted_there : (kind : PointKind) (o : Option Kind) (b : Bool) → (is_counted_in kind o && b) ≡ true → is_some o ≡ true
counted_there kind None b e = absurd (cc)
counted_there kind (Some found) b e = refl

lies_there : (f : Forest) (p : Point) → lies_in f p ≡ true → has p.key f ≡ true
lies_there f p e = sym (is_some-kind_of f p.key) ∙ counted_there p.kind (kind_of f p.key) _ e

not_lost : (f : Forest) (p : Point) (b : Bool) → lies_in f p ≡ b → lost_point f p ≡ None → b ≡ true
not_lost f p true e lost = refl
not_lost f p false e lost = absurd (grind (arith, e, lost))

neither : {A : Type 0} (a b : Option A) → option_or a b ≡ None → (a ≡ None) × (b ≡ None)
neither None b e = (refl, e)
neither (Some a) b e = absurd (cc)

pub points_attached : (f : Forest) (s : Selection) (next : ℕ) → IsState f s next → EachPoint (λ p. is_attached f p.key ≡ true) s
points_attached f (Range a b format) next state =
    let found = neither (lost_point f a) (lost_point f b) state.selected in
    let there = λ (p : Point) (kept : lost_point f p ≡ None). state.start.whole p.key (lies_there f p (not_lost f p (lies_in f p) refl kept)) in
    (there a found.0, there b found.1)
points_attached f Nothing next state = tt
points_attached f (Nodes keys) next state = tt
points_attached f (Cells table a b) next state = tt
