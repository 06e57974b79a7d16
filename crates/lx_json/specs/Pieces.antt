-- What holds of the kind that a node's object gives.
use Rattle.std.specs.Prelude.{◌≡◌, Bool, true, false, is_some, Option, None}
use Rattle.lx_node.specs.Kinds.{is_possible}
use Rattle.lx_node.specs.declared.kind.Kind.{Kind}
use Rattle.lx_node.specs.declared.kind.Kind.TheVariants.{Root}

-- the root's kind
abbrev pub is_root : Kind → Bool
is_root Root = true
is_root kind = false

-- A kind that a node may have, below a parent of a kind or at the root: it is the root's at the root alone.
pub record IsToldKind (above : Option Kind) (kind : Kind) : Type 0 where
  pub possible : is_possible kind ≡ true
  pub below : is_some above ≡ true → is_root kind ≡ false
  pub top : above ≡ None → kind ≡ Root
