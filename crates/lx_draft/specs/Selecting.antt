-- Which selections a forest has a place for.
use Rattle.std.specs.Prelude.{ℕ, Bool, false, ◌&&◌, nat_le, if◌then◌else◌, List, [], ◌∷◌, Option, None, Some}
use Rattle.std.specs.Option.{option_or}
use Rattle.lx_node.specs.Kinds.{is_element, has_characters, is_table, is_cell}
use Rattle.lx_node.specs.declared.kind.Kind.{Kind}
use Rattle.lx_node.specs.declared.fields.Fields.{Fields}
use Rattle.lx_node.specs.declared.fields.Fields.TheVariants as fields
use Rattle.lx_node.specs.declared.cause.Point.{Point}
use Rattle.lx_node.specs.declared.cause.PointKind.{PointKind}
use Rattle.lx_node.specs.declared.cause.PointKind.TheVariants as point
use Rattle.lx_node.specs.declared.cause.Cause.{Cause}
use Rattle.lx_node.specs.declared.cause.Cause.TheVariants.{WrongKind, BadPlace, SelectionLost}
use Rattle.lx_node.specs.declared.cause.Lost.TheVariants as lost
use Rattle.lx_text.specs.Texts.{is_offset}
pub use Rattle.lx_text.specs.Texts.{length_told}
use Rattle.lx_select.specs.declared.selection.Selection.{Selection}
use Rattle.lx_select.specs.declared.selection.Selection.TheVariants.{Nothing, Range, Nodes, Cells}
use Rattle.lx_forest.specs.Forest.{Forest}
use Rattle.lx_forest.specs.Lookups.{has, kind_of, fields_of, size_of, is_within}
use Rattle.lx_links.specs.Faults.{unknown}

-- a point may count in a node of the kind: code units in a text or tab, and children in an element
abbrev pub counts_in : PointKind → Kind → Bool
counts_in point.Text kind = has_characters kind
counts_in point.Element kind = is_element kind

-- the text in fields, and none in others
abbrev pub text_of : Option Fields → List ℕ
text_of (Some (fields.Text text)) = text.text
text_of other = []

-- how long the text in fields is, as offsets count it, and 0 for others
abbrev pub length_of : Option Fields → ℕ
length_of (Some (fields.Text text)) = length_told text.text
length_of other = 0

-- how far a point may be in a node
abbrev pub extent : Forest → Point → PointKind → ℕ
extent f p point.Text = length_of (fields_of f p.key)
extent f p point.Element = size_of f p.key

-- whether the offset is one of a place: not after the end, nor inside a surrogate pair of a text
abbrev pub is_place : Forest → Point → PointKind → Bool
is_place f p point.Text = nat_le p.offset (extent f p point.Text) && is_offset p.offset (text_of (fields_of f p.key))
is_place f p point.Element = nat_le p.offset (extent f p point.Element)

-- ---- why a selection is refused

-- `WrongKind`, where the node's kind doesn't pass the test
abbrev pub unlike : (Kind → Bool) → Option Kind → Option Cause
unlike test None = None
unlike test (Some kind) = if test kind then None else Some (WrongKind kind)

-- `WrongKind`, where the point doesn't count what its node has
abbrev pub misfit_point : Forest → Point → Option Cause
misfit_point f p = unlike (counts_in p.kind) (kind_of f p.key)

-- `BadPlace`, where the offset isn't one of a place in the node
abbrev pub outside_point : Forest → Point → Option Cause
outside_point f p = if is_place f p p.kind then None else Some (BadPlace p.offset)

-- `BadPlace`, where the cell isn't below the table
abbrev pub outside_table : Forest → ℕ → ℕ → Option Cause
outside_table f table cell = if is_within f table cell then None else Some (BadPlace cell)

-- `UnknownNode`, of the first of these nodes that isn't there
abbrev pub unknown_among : Forest → List ℕ → Option Cause
unknown_among f [] = None
unknown_among f (k ∷ ks) = option_or (unknown f k) (unknown_among f ks)

-- why a range is refused: by the nodes first, then by their kinds, then by the offsets
abbrev pub range_fault : Forest → Point → Point → Option Cause
range_fault f a b =
    option_or (unknown f a.key) (option_or (unknown f b.key)
    (option_or (misfit_point f a) (option_or (misfit_point f b)
    (option_or (outside_point f a) (outside_point f b)))))

-- why two cells of a table are refused: by the nodes first, then by their kinds, then by where they are
abbrev pub cells_fault : Forest → ℕ → ℕ → ℕ → Option Cause
cells_fault f table a b =
    option_or (unknown f table) (option_or (unknown f a) (option_or (unknown f b)
    (option_or (unlike is_table (kind_of f table)) (option_or (unlike is_cell (kind_of f a)) (option_or (unlike is_cell (kind_of f b))
    (option_or (outside_table f table a) (outside_table f table b)))))))

-- why a selection is refused, the first cause
abbrev pub select_fault : Selection → Forest → Option Cause
select_fault Nothing f = None
select_fault (Range a b format) f = range_fault f a b
select_fault (Nodes keys) f = unknown_among f keys
select_fault (Cells table a b) f = cells_fault f table a b

-- ---- what of a selection isn't in the tree any more

-- a point can count in a node of this kind, if there is such a node
abbrev pub is_counted_in : PointKind → Option Kind → Bool
is_counted_in kind None = false
is_counted_in kind (Some found) = counts_in kind found

-- a point lies in the forest: its node is one that it counts in, and its offset is one of a place there
abbrev pub lies_in : Forest → Point → Bool
lies_in f p = is_counted_in p.kind (kind_of f p.key) && is_place f p p.kind

-- `SelectionLost`, where the point doesn't lie in the forest
abbrev pub lost_point : Forest → Point → Option Cause
lost_point f p = if lies_in f p then None else Some (SelectionLost (lost.Point p))

-- `SelectionLost`, where the node isn't in the forest
abbrev pub lost_key : Forest → ℕ → Option Cause
lost_key f k = if has k f then None else Some (SelectionLost (lost.Key k))

-- `SelectionLost`, of the first of a table and two cells that isn't in the forest
abbrev pub lost_cells : Forest → ℕ → ℕ → ℕ → Option Cause
lost_cells f table a b = option_or (lost_key f table) (option_or (lost_key f a) (lost_key f b))

-- the first part of a selection that is lost: the anchor before the focus, and the table before both
abbrev pub selection_lost : Selection → Forest → Option Cause
selection_lost (Range a b format) f = option_or (lost_point f a) (lost_point f b)
selection_lost (Cells table a b) f = lost_cells f table a b
selection_lost other f = None
