use Rattle.std.proofs.Common.{◌≡◌}
use Rattle.std.specs.List.{list_any}
use Rattle.lx_node.specs.Kinds.{is_inline}
use Rattle.lx_forest.specs.Lookups.{children_of}
use Rattle.lx_blocks.specs.Blocks.{is_at}
use Rattle.lx_blocks.proofs.blocks.has_inline.Given as goal

-- none was passed
abbrev pub invariant-loop-child : goal.invariant-loop-child
invariant-loop-child l = list_any (is_at is_inline l.links) l.child-iterator ≡ list_any (is_at is_inline l.links) (children_of l.links l.fn.key)
