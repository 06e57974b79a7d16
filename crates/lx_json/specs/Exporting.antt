-- The document of a tree.
use Rattle.serde_json.specs.Data.{Data, null, object, Items, no_items, item, no_members, member}
use Rattle.std.specs.Prelude.{codes}
use Rattle.lx_trees.specs.Trees.{nil, tree}
use Rattle.lx_forest.specs.Forest.{Forest}
use Rattle.lx_fields.specs.Exporting.{node_data}

-- what is written for trees, one after another
unfoldable pub trees_data : Forest → Items
trees_data nil = no_items
trees_data (tree l below rest) = item (node_data l.kind l.fields (trees_data below)) (trees_data rest)

-- the first of some values, or null where there is none
abbrev pub first_data : Items → Data
first_data no_items = null
first_data (item d ds) = d

-- the document of a tree: {"root":NODE}, of the first tree, which is the root's
unfoldable pub exported : Forest → Data
exported f = object (member (codes "root") (first_data (trees_data f)) no_members)
