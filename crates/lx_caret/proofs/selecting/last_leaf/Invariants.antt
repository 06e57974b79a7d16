use Rattle.std.proofs.Common.{◌≡◌}
use Rattle.lx_trees.specs.NamedTrees.{total}
use Rattle.lx_trees.specs.Siblings.{last_of}
use Rattle.lx_forest.specs.Lookups.{alone, is_attached, keys_within}
use Rattle.lx_caret.proofs.selecting.last_leaf.Given as goal

-- the node is in the root's tree, and the last one below it is that of all
abbrev pub invariant-loop-child : goal.invariant-loop-child
invariant-loop-child l = record {
  attached : is_attached l.links l.at ≡ is_attached l.links 0;
  same : last_of (keys_within l.links l.at) ≡ last_of (keys_within l.links 0);
}

abbrev pub decreases-loop-child : goal.decreases-loop-child
decreases-loop-child l = total (alone l.at l.links)
