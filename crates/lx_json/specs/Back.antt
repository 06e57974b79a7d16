-- What is read back from the document of a tree.
use Rattle.std.specs.Prelude.{◌≡◌, ℕ, Ok}
use Rattle.serde_json.specs.Data.{Data}
use Rattle.lx_trees.specs.Trees.{Trees, nil, tree}
use Rattle.lx_forest.specs.Forest.{Forest}
use Rattle.lx_draft.specs.Working.{Working}
use Rattle.lx_json.specs.Reading.{Piece}
use Rattle.lx_json.specs.Importing.{imported}

-- the nodes of trees, without their keys
abbrev pub pieces_of : Forest → Trees Piece
pieces_of nil = nil
pieces_of (tree l below rest) = tree (record { kind = l.kind; fields = l.fields }) (pieces_of below) (pieces_of rest)

-- imported with this next key, the document makes a draft of the same tree, up to keys
pub record ReadsBack (d : Data) (next : ℕ) (f : Forest) : Type 0 where
  pub draft : Working
  pub read : imported d next ≡ Ok draft
  pub same : pieces_of draft.forest ≡ pieces_of f
