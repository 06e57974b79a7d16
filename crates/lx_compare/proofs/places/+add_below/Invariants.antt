use Rattle.lx_trees.specs.NamedTrees.{total}
use Rattle.lx_forest.specs.Lookups.{alone}
use Rattle.lx_compare.proofs.Listed.{AreBelow}
use Rattle.lx_compare.proofs.places.+add_below.Given as goal

-- each child is left, or its tree is among the keys
abbrev pub invariant-loop-child : goal.invariant-loop-child
invariant-loop-child l = AreBelow l.links l.fn.keys.items l.keys.items l.initial.child-iterator l.child-iterator

abbrev pub decreases-add_below : goal.decreases-add_below
decreases-add_below l = total (alone l.key l.links.now)
