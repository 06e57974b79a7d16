use Rattle.std.proofs.Common.{◌≡◌, ◌≤◌, true, []}
use Rattle.lx_trees.specs.NamedTrees.{total}
use Rattle.lx_host.specs.Hosts.{id_of, without}
use Rattle.lx_trees.specs.Lookups as lookups
use Rattle.lx_host.specs.Weights.{AreKeyed}
use Rattle.indexmap.specs.IndexMap.{spare}
use Rattle.lx_host.proofs.removal.remove_tree.Given as goal

abbrev pub invariant-loop-at : goal.invariant-loop-at
invariant-loop-at l = record {
  rest : without l.fn.id l.grove.hosts ≡ without l.fn.id l.fn.grove.hosts;
  within : lookups.is_within id_of l.grove.hosts l.fn.id l.at ≡ true;
  leaf : lookups.children_of id_of l.grove.hosts l.at ≡ [];
  room : l.fn.grove.room ≤ l.grove.room;
  ordered : lookups.IsOrdered id_of l.grove.hosts;
  keyed : AreKeyed l.keys l.grove.hosts;
  keys_room : spare l.fn.keys ≤ spare l.keys;
}

abbrev pub decreases-loop-at : goal.decreases-loop-at
decreases-loop-at l = total l.grove.hosts
