use Rattle.lx_host.proofs.Changed.{ok_was}
use Rattle.lx_host.proofs.Kept.{root_kept}
use Rattle.lx_host.proofs.tree.HostTree.new.Goals as goal

pub invariant_of-result : goal.invariant_of-result
invariant_of-result c =
    root_kept c.new-keys.result c.insert.new.self c.in_ok-grove.grove.hosts c.in_ok-grove.ensures c.new-keys.ensures.empty
    (ok_was c.insert.result _ c.in_ok-insert.was c.insert.ensures.updates).0
