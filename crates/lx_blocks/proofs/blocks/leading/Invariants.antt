use Rattle.std.proofs.Common.{◌≡◌, ◌++◌}
use Rattle.lx_blocks.specs.Blocks.{leading_in}
use Rattle.lx_blocks.proofs.blocks.leading.Given as goal

-- the keys so far, and those of what is left
abbrev pub invariant-loop-child : goal.invariant-loop-child
invariant-loop-child l = l.keys.items ++ leading_in l.links l.child-iterator ≡ leading_in l.links l.initial.child-iterator
