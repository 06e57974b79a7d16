use Rattle.lx_store.proofs.Ends.{equal_by_parts, equal_parts}
use Rattle.lx_store.proofs.node.NodeItem.is_equal.Goals as goal

pub returns : goal.returns
returns c = (
  λ same. equal_by_parts c.args.self.now c.args.other.now (c.has_equal_parts.ensures.0 same),
  λ equal. c.has_equal_parts.ensures.1 (equal_parts c.args.self.now c.args.other.now equal),
)
