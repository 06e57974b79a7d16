-- Forests whose nodes have fields of their kinds.
use Rattle.std.specs.Prelude.{◌≡◌, ℕ, Bool, true, Option, None, Some}
use Rattle.lx_node.specs.OfKind.{is_of_kind}
use Rattle.lx_forest.specs.Forest.{Forest, Label}
use Rattle.lx_forest.specs.Lookups.{label_of}

-- the fields of a node, if there is one, are of its kind
abbrev pub is_suited : Option Label → Bool
is_suited None = true
is_suited (Some l) = is_of_kind l.kind l.fields

-- the fields of each node are of its kind
pub record IsSuited (f : Forest) : Type 0 where
  pub each : (q : ℕ) → is_suited (label_of f q) ≡ true
