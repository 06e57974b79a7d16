-- What a selection is, where its points are, and a selection whose points were moved.
use Rattle.std.specs.Prelude.{ℕ, ◌==◌, ◌||◌, Bool, false, Option, None, Some, if◌then◌else◌}
use Rattle.lx_node.specs.declared.cause.Point.{Point}
use Rattle.lx_node.specs.declared.cause.SelectionKind.{SelectionKind}
use Rattle.lx_node.specs.declared.cause.SelectionKind.TheVariants as kind
use Rattle.lx_select.specs.declared.selection.Selection.{Selection}
use Rattle.lx_select.specs.declared.selection.Selection.TheVariants.{Nothing, Range, Nodes, Cells}

-- what a selection is: nothing, a range, nodes, or cells
abbrev pub kind_of_selection : Selection → SelectionKind
kind_of_selection Nothing = kind.Nothing
kind_of_selection (Range anchor focus format) = kind.Range
kind_of_selection (Nodes keys) = kind.Nodes
kind_of_selection (Cells table anchor focus) = kind.Cells

-- the two points of a range moved; any other selection as it is
abbrev pub each_point : (Point → Point) → Selection → Selection
each_point moved Nothing = Nothing
each_point moved (Range anchor focus format) = Range (moved anchor) (moved focus) format
each_point moved (Nodes keys) = Nodes keys
each_point moved (Cells table anchor focus) = Cells table anchor focus

-- a range with another format; any other selection as it is
abbrev pub with_format : ℕ → Selection → Selection
with_format new (Range anchor focus format) = Range anchor focus new
with_format new other = other

-- ---- where points are

-- a point of the selection is on the key
abbrev pub has_point_on : ℕ → Selection → Bool
has_point_on key (Range anchor focus format) = anchor.key == key || focus.key == key
has_point_on key other = false

-- the two points of a range
abbrev pub ends_of : Selection → Option (Point × Point)
ends_of (Range anchor focus format) = Some (anchor, focus)
ends_of other = None

-- ---- points that go along

-- of where a point was before edits and where they left it: one that was on the key goes where a rule sends it from
-- there
abbrev pub carried_point : ℕ → (Point → Point) → Point → Point → Point
carried_point key moved before now = if before.key == key then moved before else now

-- of where the two points of a range were before edits: those that were on the key are brought along, and all others
-- are where the edits left them
abbrev pub carried : ℕ → (Point → Point) → Option (Point × Point) → Selection → Selection
carried key moved (Some (anchor, focus)) (Range a b format) =
    Range (carried_point key moved anchor a) (carried_point key moved focus b) format
carried key moved before now = now
