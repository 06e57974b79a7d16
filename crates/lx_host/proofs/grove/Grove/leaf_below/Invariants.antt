use Rattle.std.proofs.Common.{◌≡◌, true}
use Rattle.lx_trees.specs.NamedTrees.{total}
use Rattle.lx_host.specs.Hosts.{id_of, alone}
use Rattle.lx_trees.specs.Lookups as lookups
use Rattle.lx_host.proofs.grove.Grove.leaf_below.Given as goal

abbrev pub invariant-loop-child : goal.invariant-loop-child
invariant-loop-child l = lookups.is_within id_of l.self.hosts l.fn.id l.at ≡ true

abbrev pub decreases-loop-child : goal.decreases-loop-child
decreases-loop-child l = total (alone l.at l.self.hosts)
