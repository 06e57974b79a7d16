use Rattle.std.proofs.Common.{◌≡◌, length}
use Rattle.lx_trees.specs.Walks.{ancestors}
use Rattle.lx_host.specs.Hosts.{id_of}
use Rattle.lx_trees.specs.Lookups as lookups
use Rattle.lx_host.proofs.grove.Grove.is_within.Given as goal

abbrev pub invariant-loop-at : goal.invariant-loop-at
invariant-loop-at l = lookups.is_within id_of l.self.hosts l.fn.outer l.fn.id ≡ lookups.is_within id_of l.self.hosts l.fn.outer l.at

abbrev pub decreases-loop-at : goal.decreases-loop-at
decreases-loop-at l = length (ancestors id_of l.self.hosts l.at)
