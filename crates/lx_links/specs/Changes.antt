-- What changes in a node where an edit changes its links or its fields.
use Rattle.std.specs.Prelude.{Bool, if◌then◌else◌}
use Rattle.lx_joints.specs.declared.links.Links.{Links}
use Rattle.lx_node.specs.declared.fields.Fields.{Fields}
use Rattle.lx_node.specs.declared.node.Node.{Node}

-- the links of a node
abbrev pub links_of : Node → Links
links_of n = record { parent = n.parent; prev = n.prev; next = n.next; first = n.first; last = n.last; size = n.size }

-- a node with these links
abbrev pub with_links : Links → Node → Node
with_links l n =
    record n { parent = l.parent; prev = l.prev; next = l.next; first = l.first; last = l.last; size = l.size }

-- a node with these fields, if it is the one that gets them
abbrev pub with_content : Fields → Bool → Node → Node
with_content fields here n = record n { fields = (if here then fields else n.fields) }
