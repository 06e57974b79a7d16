-- Equality of selections, part by part.
use Rattle.std.specs.Prelude.{Bool, true, false, ◌==◌, ◌&&◌}
use Rattle.lx_node.specs.Same.{same_text}
use Rattle.lx_node.specs.declared.cause.Point.{Point}
use Rattle.lx_node.specs.declared.cause.PointKind.{PointKind}
use Rattle.lx_node.specs.declared.cause.PointKind.TheVariants as point
use Rattle.lx_select.specs.declared.selection.Selection.{Selection}
use Rattle.lx_select.specs.declared.selection.Selection.TheVariants.{Nothing, Range, Nodes, Cells}

-- both points count code units, or both count children
abbrev pub same_point_kind : PointKind → PointKind → Bool
same_point_kind point.Text point.Text = true
same_point_kind point.Element point.Element = true
same_point_kind _ _ = false

-- whether two points are equal, part by part
abbrev pub same_point : Point → Point → Bool
same_point a b = (a.key == b.key) && ((a.offset == b.offset) && same_point_kind a.kind b.kind)

-- whether two selections are equal, part by part: two lists of keys are the same as two texts of the same numbers are
unfoldable pub same_selection : Selection → Selection → Bool
same_selection Nothing Nothing = true
same_selection (Range a b format) (Range c d other_format) = same_point a c && (same_point b d && (format == other_format))
same_selection (Nodes keys) (Nodes other_keys) = same_text keys other_keys
same_selection (Cells table a b) (Cells other_table c d) = (table == other_table) && ((a == c) && (b == d))
same_selection _ _ = false
