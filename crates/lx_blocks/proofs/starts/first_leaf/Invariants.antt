use Rattle.std.proofs.Common.{◌≡◌, true}
use Rattle.std.specs.Prelude.{find}
use Rattle.lx_trees.specs.NamedTrees.{total}
use Rattle.lx_forest.specs.Lookups.{has, alone, keys_within}
use Rattle.lx_blocks.proofs.Downward.{is_leaf}
use Rattle.lx_blocks.proofs.starts.first_leaf.Given as goal

-- the first leaf of the node's tree is that of all
abbrev pub invariant-loop-child : goal.invariant-loop-child
invariant-loop-child l = record {
  there : has l.at l.links ≡ true;
  same : find (is_leaf l.links) (keys_within l.links l.at) ≡ find (is_leaf l.links) (keys_within l.links l.fn.key);
}

abbrev pub decreases-loop-child : goal.decreases-loop-child
decreases-loop-child l = total (alone l.at l.links)
