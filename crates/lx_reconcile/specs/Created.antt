-- The operations that make a host for each node of trees, and the hosts that they make.
use Rattle.std.specs.Prelude.{ℕ, ◌+◌, ◌++◌, List, [], ◌∷◌, map, Option, None, Some}
use Rattle.lx_trees.specs.Trees.{Trees, nil, tree}
use Rattle.lx_trees.specs.NamedTrees.{total}
use Rattle.lx_node.specs.declared.kind.Kind.{Kind}
use Rattle.lx_host.specs.declared.tag.Name.{Name}
use Rattle.lx_host.specs.declared.op.Op.{Op}
use Rattle.lx_host.specs.declared.op.Op.TheVariants.{Create, Place, Text, Attr}
use Rattle.lx_host.specs.Hosts.{Face, Host}
use Rattle.lx_forest.specs.Forest.{Label, Forest}
use Rattle.lx_render.specs.Render.{tag_of, attributes_of, text_of, last_kind, needs_break}

-- trees of faces as hosts, whose ids go on from this one in preorder
abbrev pub numbered : ℕ → Trees Face → Trees Host
numbered id nil = nil
numbered id (tree face below rest) =
    tree (record { id = id; face = face }) (numbered (id + 1) below) (numbered (id + 1 + total below) rest)

-- the operation that makes the host of a node, whose last child is of this kind
abbrev pub create_op : ℕ → Label → Option Kind → Op
create_op id label last =
    Create id label.key (tag_of label.kind label.fields) (attributes_of label.kind label.fields) (text_of label.fields) (needs_break label.kind last)

-- The operations that make the hosts of these trees at the end of a host's children, with ids that go on from this one:
-- each node's host is created, then those below it, and then it is placed.
abbrev pub creations : ℕ → ℕ → Forest → List Op
creations parent id nil = []
creations parent id (tree label below rest) =
    (create_op id label (last_kind below) ∷ creations id (id + 1) below)
    ++ Place parent id None ∷ creations parent (id + 1 + total below) rest

-- the same of one tree, whose host isn't placed
abbrev pub creation : ℕ → Label → Forest → List Op
creation id label below = create_op id label (last_kind below) ∷ creations id (id + 1) below

-- and of the first of these trees
abbrev pub creation_of : ℕ → Forest → List Op
creation_of id nil = []
creation_of id (tree label below rest) = creation id label below

-- ---- a new host tree

-- the operation that gives a host an attribute
abbrev pub attribute_op : ℕ → Name × List ℕ → Op
attribute_op id attribute = Attr id attribute.0 (Some attribute.1)

-- the operations that give a host these attributes
abbrev pub attribute_ops : ℕ → List (Name × List ℕ) → List Op
attribute_ops id attributes = map (attribute_op id) attributes

-- the operation that gives a host a text, if there is one
abbrev pub text_ops : ℕ → Option (List ℕ) → List Op
text_ops id None = []
text_ops id (Some text) = Text id text ∷ []

-- The operations that make a new host tree show the first of these trees, whose label is the root's: host 0 is there, and
-- has no attributes yet.
abbrev pub fresh_ops : Forest → List Op
fresh_ops nil = []
fresh_ops (tree label below rest) =
    attribute_ops 0 (attributes_of label.kind label.fields) ++ text_ops 0 (text_of label.fields) ++ creations 0 1 below
