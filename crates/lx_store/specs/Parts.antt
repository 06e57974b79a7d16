-- Equal nodes, part by part.
use Rattle.std.specs.Prelude.{◌≡◌}
use Rattle.lx_node.specs.declared.node.Node.{Node}

-- each part of the one is the other's
pub record HasEqualParts (a b : Node) : Type 0 where
  pub parent : a.parent ≡ b.parent
  pub previous : a.prev ≡ b.prev
  pub next : a.next ≡ b.next
  pub first : a.first ≡ b.first
  pub last : a.last ≡ b.last
  pub size : a.size ≡ b.size
  pub kind : a.kind ≡ b.kind
  pub fields : a.fields ≡ b.fields
