use Rattle.std.proofs.Common.{◌+◌, ◌-◌, length}
use Rattle.lx_forest.specs.Lookups.{size_of}
use Rattle.lx_blocks.proofs.Passing.{IsPassing}
use Rattle.lx_blocks.proofs.children.children_from.Given as goal

-- the child that is reached comes right after those that were kept
abbrev pub invariant-loop-at : goal.invariant-loop-at
invariant-loop-at l = IsPassing l.links l.fn.key l.index l.at l.keys.items

abbrev pub decreases-loop-at : goal.decreases-loop-at
decreases-loop-at l = size_of l.links l.fn.key - (l.index + length l.keys.items)
