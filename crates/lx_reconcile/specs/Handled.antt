-- What operations have made of the host of one node and of what is below it.
use Rattle.std.specs.Prelude.{ℕ, ◌+◌, ◌≤◌, List, Some}
use Rattle.lx_trees.specs.Trees.{Trees}
use Rattle.lx_reconcile.specs.Allowed.{unkept}
use Rattle.lx_host.specs.declared.op.Op.{Op}
use Rattle.lx_host.specs.Hosts.{Host, HostTree, alone}
use Rattle.lx_forest.specs.Forest.{Forest}
use Rattle.lx_forest.specs.Lookups as forest
use Rattle.lx_reconcile.specs.Reconciled.{LeadsAt, host_in, AreReconciled, IsAt}

-- From the next id n the operations lead from the host of k and what is below it, as the view has them, to trees that show
-- the new node, and to the next id m. They give out no more ids than there are nodes below it that aren't kept.
pub record IsReconciled (old new : Forest) (v : HostTree) (k n : ℕ) (ops : List Op) (m : ℕ) : Type 0 where
  pub to : Trees Host
  pub leads : LeadsAt (host_in v k) (alone (host_in v k) v.hosts) n ops to m
  pub at : IsAt (host_in v k) to
  pub shown : AreReconciled old new v k to
  pub rises : n ≤ m
  pub grows : m ≤ n + unkept old (Some k) (forest.trees_of new (forest.children_of new k))
