use Rattle.lx_trees.specs.NamedTrees.{total}
use Rattle.lx_forest.specs.Lookups.{alone}
use Rattle.lx_json.proofs.BackWritten.{IsWrittenUpTo}
use Rattle.lx_json.proofs.exporting.+tree_value.Given as goal

-- the objects of the children so far, and those that are left
abbrev pub invariant-loop-child : goal.invariant-loop-child
invariant-loop-child l = IsWrittenUpTo l.links l.initial.child-iterator l.child-iterator l.children.items

abbrev pub decreases-tree_value : goal.decreases-tree_value
decreases-tree_value l = total (alone l.key l.links.now)
