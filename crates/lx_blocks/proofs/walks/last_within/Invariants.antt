use Rattle.std.proofs.Common.{◌≡◌, true}
use Rattle.lx_trees.specs.NamedTrees.{total}
use Rattle.lx_trees.specs.Siblings.{last_of}
use Rattle.lx_forest.specs.Lookups.{has, alone, keys_within}
use Rattle.lx_blocks.proofs.walks.last_within.Given as goal

-- the trees on the way down have one last node
abbrev pub invariant-loop-child : goal.invariant-loop-child
invariant-loop-child l = (has l.at l.links ≡ true) × (last_of (keys_within l.links l.fn.key) ≡ last_of (keys_within l.links l.at))

abbrev pub decreases-loop-child : goal.decreases-loop-child
decreases-loop-child l = total (alone l.at l.links)
