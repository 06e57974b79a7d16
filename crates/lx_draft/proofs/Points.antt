-- Points that an edit leaves where they are.
use Rattle.std.proofs.Common.{◌≡◌, ℕ, false, Option, None, Some, refl, arith}
use Rattle.lx_node.specs.declared.cause.Point.{Point}
use Rattle.lx_node.specs.declared.cause.PointKind.{PointKind}
use Rattle.lx_node.specs.declared.cause.PointKind.TheVariants as point
use Rattle.lx_select.specs.declared.selection.Selection.{Selection}
use Rattle.lx_select.specs.declared.selection.Selection.TheVariants.{Nothing, Range, Nodes, Cells}
use Rattle.lx_select.specs.Selection.{each_point}
use Rattle.lx_select.specs.Rules.{take_moves, is_behind, is_counting_children}
use Rattle.lx_draft.specs.Steps as steps

element_point : (kind : PointKind) → is_counting_children kind ≡ steps.is_element_point kind
unfolding is_counting_children
element_point point.Text = refl
element_point point.Element = refl

take_moves-elsewhere : (parent index : ℕ) (p : Point) → steps.counts_children_of parent p ≡ false → take_moves parent index p ≡ p
unfolding take_moves is_behind
take_moves-elsewhere parent index p h = grind (arith, h, element_point p.kind)

take_moves-apart : (parent index : ℕ) (s : Selection) → steps.has_point_counting parent s ≡ false → each_point (take_moves parent index) s ≡ s
take_moves-apart parent index Nothing h = refl
take_moves-apart parent index (Range a b format) h =
    rw (take_moves-elsewhere parent index a (grind (arith, h)), take_moves-elsewhere parent index b (grind (arith, h))) refl
take_moves-apart parent index (Nodes keys) h = refl
take_moves-apart parent index (Cells table a b) h = refl

-- where no point counts the parent's children, taking one of them moves none
pub no_points_taken : (above index : Option ℕ) (parent : ℕ) (s : Selection) → above ≡ Some parent → steps.has_point_counting parent s ≡ false
    → steps.take_points above index s ≡ s
no_points_taken above None parent s e h = rw e refl
no_points_taken above (Some index) parent s e h = rw e (take_moves-apart parent index s h)
