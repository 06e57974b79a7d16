-- Points in order, and the nodes before and after a point.
use Rattle.std.specs.Prelude.{ℕ, ◌==◌, Bool, true, false, not, nat_lt, nat_le, if◌then◌else◌, List, [], ◌∷◌, length, slice_get, filter, Option, None, Some}
use Rattle.std.specs.declared.cmp.Ordering.{Ordering}
use Rattle.std.specs.declared.cmp.Ordering.TheVariants as ordering
use Rattle.lx_trees.specs.Siblings.{first_of, is_named, is_among}
use Rattle.lx_node.specs.declared.cause.Point.{Point}
use Rattle.lx_node.specs.declared.cause.PointKind.{PointKind}
use Rattle.lx_node.specs.declared.cause.PointKind.TheVariants as point
use Rattle.lx_forest.specs.Forest.{Forest}
use Rattle.lx_forest.specs.Lookups.{children_of, parent_of, is_within, order_of, preorder, from, behind}

-- ---- order

-- of these children, those that come before the one in whose tree the key is: all where it is in none
abbrev pub before_holder : Forest → ℕ → List ℕ → List ℕ
before_holder f k [] = []
before_holder f k (child ∷ children) = if is_within f child k then [] else child ∷ before_holder f k children

-- the children of a node that come before the one in whose tree the key is: all where it is in none
abbrev pub children_before : Forest → ℕ → ℕ → List ℕ
children_before f outer k = before_holder f k (children_of f outer)

-- the order is that of less
abbrev pub is_less : Option Ordering → Bool
is_less (Some ordering.Less) = true
is_less other = false

-- whether the first point comes before the second, or is at its place: one in an element comes before all below the
-- child at its offset, and after all below the children before
abbrev pub comes_first : Forest → Point → Point → Bool
comes_first f a b =
    if a.key == b.key then nat_le a.offset b.offset
    else if is_within f a.key b.key then nat_le a.offset (length (children_before f a.key b.key))
    else if is_within f b.key a.key then nat_lt (length (children_before f b.key a.key)) b.offset
    else is_less (order_of f a.key b.key)

-- ---- nodes before and after

-- the nodes from the child on, or those after the parent where there is no child at that index
abbrev pub from_child : Forest → ℕ → Option ℕ → List ℕ
from_child f p None = behind f p
from_child f p (Some child) = from f child

-- the nodes after a point, by its parts
abbrev pub behind_place : Forest → ℕ → ℕ → PointKind → List ℕ
behind_place f k offset point.Text = behind f k
behind_place f k offset point.Element = from_child f k (slice_get (children_of f k) offset)

-- the nodes after a point, in preorder
abbrev pub nodes_behind : Forest → Point → List ℕ
nodes_behind f p = behind_place f p.key p.offset p.kind

-- those of a list of nodes that come before this one: all where none is named or it isn't there
abbrev pub until : Option ℕ → List ℕ → List ℕ
until end [] = []
until end (k ∷ ks) = if is_named end k then [] else k ∷ until end ks

-- of nodes in preorder, those that lie wholly before a point: it isn't in their trees
abbrev pub wholly_before : Forest → Point → List ℕ → List ℕ
wholly_before f p ks = filter (λ k. not (is_within f k p.key)) (until (first_of (nodes_behind f p)) ks)

-- the nodes of the root's tree that aren't after a point
abbrev pub nodes_up_to : Forest → Point → List ℕ
nodes_up_to f p = until (first_of (nodes_behind f p)) (preorder f)

-- the nodes of the root's tree that lie wholly before a point
abbrev pub nodes_ahead : Forest → Point → List ℕ
nodes_ahead f p = wholly_before f p (preorder f)

-- the nodes that lie wholly between two points
abbrev pub covered : Forest → Point → Point → List ℕ
covered f start end = wholly_before f end (nodes_behind f start)

-- the parent, if there is one, is among these
abbrev pub stands_below : Option ℕ → List ℕ → Bool
stands_below None ks = false
stands_below (Some p) ks = is_among p ks

-- of these nodes, those that are below none of them
abbrev pub outermost : Forest → List ℕ → List ℕ
outermost f ks = filter (λ k. not (stands_below (parent_of f k) ks)) ks
