-- Trees whose nodes' fields are given back by what is written for them.
use Rattle.std.specs.Prelude.{◌≡◌, Ok}
use Rattle.serde_json.specs.Data.{Items}
use Rattle.lx_trees.specs.Trees.{nil, tree}
use Rattle.lx_node.specs.OfKind.{IsOfKind}
use Rattle.lx_forest.specs.Forest.{Forest, Label}
use Rattle.lx_fields.specs.Documents.{document_fields}
use Rattle.lx_fields.specs.Exporting.{node_data}
use Rattle.lx_json.specs.Exporting.{trees_data}

-- the fields of a node are of its kind, and its object gives them back
pub record IsGivenBack (l : Label) (below : Items) : Type 0 where
  pub of_kind : IsOfKind l.kind l.fields
  pub fields : document_fields l.kind (node_data l.kind l.fields below) ≡ Ok l.fields

-- Each node of the trees is given back. It is said of the trees that a value is written for, since how wide numbers are
-- is known of nodes in links alone.
abbrev pub AreGivenBack : Forest → Type 0
AreGivenBack nil = Unit {0}
AreGivenBack (tree l below rest) = IsGivenBack l (trees_data below) × AreGivenBack below × AreGivenBack rest
