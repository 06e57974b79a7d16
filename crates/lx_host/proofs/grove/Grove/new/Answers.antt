use Rattle.lx_host.specs.Hosts.{one_host, root_face}
use Rattle.lx_host.specs.Stands.{hosts_in-is}
use Rattle.lx_host.proofs.Changed.{made_root, root_linked, ok_was}
use Rattle.lx_host.proofs.grove.Grove.new.Goals as goal

pub invariant_of-result : goal.invariant_of-result
invariant_of-result c = (
  record {
    value = one_host 0 root_face;
    stands =
        made_root c.new-table.result c.insert.new.self _
        (root_linked c.root.result c.of.result c.new.result.items c.root.ensures c.of.ensures c.new.ensures.items) c.new-table.ensures.empty
        (ok_was c.insert.result _ c.in_ok-insert.was c.insert.ensures.updates).0;
  },
  tt,
)

pub returns : goal.returns
returns c =
    hosts_in-is _ _ _
    (made_root c.new-table.result c.insert.new.self _ (root_linked c.root.result c.of.result c.new.result.items c.root.ensures c.of.ensures c.new.ensures.items)
    c.new-table.ensures.empty (ok_was c.insert.result _ c.in_ok-insert.was c.insert.ensures.updates).0)
