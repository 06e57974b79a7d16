-- What is read of a tree: which heading has a node at or below it, what its text is, and how many reads that takes.
use Rattle.std.specs.Prelude.{◌≡◌, ℕ, ◌+◌, ◌*◌, ◌==◌, ◌||◌, ◌&&◌, ◌++◌, length, sum_by, Bool, false, is_some, if◌then◌else◌, List, [], ◌∷◌, Option, None, Some}
use Rattle.std.specs.List.{list_any}
use Rattle.lx_trees.specs.Siblings.{is_named}
use Rattle.lx_trees.specs.Trees.{nil, tree}
use Rattle.lx_trees.specs.NamedTrees.{total}
use Rattle.lx_node.specs.declared.kind.Kind.{Kind}
use Rattle.lx_node.specs.declared.kind.Kind.TheVariants as kind
use Rattle.lx_forest.specs.Forest.{Label, Forest}
use Rattle.lx_forest.specs.Lookups.{kind_of, label_of, parent_of, children_of, depth, from}
use Rattle.lx_forest.specs.Weights.{own_weight}
use Rattle.lx_outline.specs.declared.event.Event.{Event}
use Rattle.lx_outline.specs.declared.event.Event.TheVariants.{Destroyed, Created, Updated}
use Rattle.lx_outline.specs.Outline.{piece_of, level_of}

-- ---- events

-- the key that an event is about
abbrev pub key_in : Event → ℕ
key_in (Destroyed k) = k
key_in (Created k) = k
key_in (Updated k) = k

-- whether one of the events is about the key
abbrev pub is_named_in : List Event → ℕ → Bool
is_named_in events q = list_any (λ e. key_in e == q) events

-- what the nodes that events are about weigh in a tree
abbrev pub weight_among : (Label → ℕ) → Forest → List Event → ℕ
weight_among of f events = sum_by (λ e. own_weight of f (key_in e)) events

-- a weight of 1 for each node
abbrev pub one_in : Label → ℕ
one_in l = 1

-- ---- the text of a heading, as it is read

-- what a node puts into a heading's text, if it is there
abbrev pub label_piece : Option Label → List ℕ
label_piece None = []
label_piece (Some l) = piece_of l.kind l.fields

-- what the node of a key puts into a heading's text
abbrev pub piece_at : Forest → ℕ → List ℕ
piece_at f k = label_piece (label_of f k)

-- what each of these gives, one after another
abbrev pub gathered : (ℕ → List ℕ) → List ℕ → List ℕ
gathered piece [] = []
gathered piece (k ∷ ks) = piece k ++ gathered piece ks

-- a node's piece, and those of its children
abbrev pub with_below : Forest → ℕ → List ℕ
with_below f k = piece_at f k ++ gathered (piece_at f) (children_of f k)

-- how many reads a node's piece and those of its children take
abbrev pub reads_of : Forest → ℕ → ℕ
reads_of f k = 1 + length (children_of f k)

-- how many reads a heading takes
abbrev pub heading_reads : Forest → ℕ → ℕ
heading_reads f k = 1 + sum_by (reads_of f) (children_of f k)

-- ---- the heading that has a node at or below it

-- the key, where its kind is a heading's
abbrev pub if_heading : ℕ → Option Kind → Option ℕ
if_heading q (Some (kind.Heading level)) = Some q
if_heading q other = None

-- the heading in which a link is, if it is in one
abbrev pub over_link : Forest → Option ℕ → Option ℕ
over_link f None = None
over_link f (Some q) = if_heading q (kind_of f q)

-- the heading that a parent of this kind is, or that the parent is in where it is a link
abbrev pub holder_by : Forest → ℕ → Option Kind → Option ℕ
holder_by f p (Some kind.Link) = over_link f (parent_of f p)
holder_by f p k = if_heading p k

-- the heading right above, or above the link that is right above: a heading holds inline nodes, and a link no other link
abbrev pub heading_over : Forest → Option ℕ → Option ℕ
heading_over f None = None
heading_over f (Some p) = holder_by f p (kind_of f p)

-- the key where its kind is a heading's, or else the heading over it
abbrev pub heading_by : Forest → ℕ → Option Kind → Option ℕ
heading_by f q (Some (kind.Heading level)) = Some q
heading_by f q k = heading_over f (parent_of f q)

-- the heading that has a node at or below it, if there is one
abbrev pub heading_of : Forest → ℕ → Option ℕ
heading_of f q = heading_by f q (kind_of f q)

-- whether a heading has one of the nodes that events are about at or below it
abbrev pub is_over_one : Forest → List Event → ℕ → Bool
is_over_one f events q = list_any (λ e. is_named (heading_of f (key_in e)) q) events

-- ---- a walk through a tree

-- the keys from this one on in preorder, if there is one, which is so deep
abbrev pub left_from : Forest → Option (ℕ × ℕ) → List ℕ
left_from f None = []
left_from f (Some at) = from f at.0

-- the key is so deep in the tree, if there is one
abbrev pub IsAt : Forest → Option (ℕ × ℕ) → Type 0
IsAt f None = Unit {0}
IsAt f (Some at) = depth f at.0 ≡ Some at.1

-- ---- the most reads

-- whether an event says of a node that it was created or updated
abbrev pub is_about : ℕ → Event → Bool
is_about q (Destroyed k) = false
is_about q (Created k) = k == q
is_about q (Updated k) = k == q

-- whether one of the events says of a node that it was created or updated
abbrev pub is_changed : List Event → ℕ → Bool
is_changed events q = list_any (is_about q) events

-- whether one of the nodes of trees passes the test
abbrev pub has_one : (ℕ → Bool) → Forest → Bool
has_one test nil = false
has_one test (tree l below rest) = test l.key || (has_one test below || has_one test rest)

-- how many nodes the headings have that have a node at or below them which passes the test
abbrev pub headings_size : (ℕ → Bool) → Forest → ℕ
headings_size test nil = 0
headings_size test (tree l below rest) =
    (if is_some (level_of l.kind) && (test l.key || has_one test below) then 1 + total below else 0)
    + headings_size test below + headings_size test rest

-- the most reads by which an outline follows these events to this tree
abbrev pub most_reads : List Event → Forest → ℕ
most_reads events new = 64 * (length events + headings_size (is_changed events) new + 1)
