use Rattle.std.proofs.Common.{◌∙◌, ap}
use Rattle.lx_host.specs.Stands.{GroveView, hosts_in}
use Rattle.lx_host.proofs.Copied.{same_hosts, stands_again}
use Rattle.lx_host.proofs.grove.Grove.copy.Goals as goal

pub invariant_of-result : goal.invariant_of-result
invariant_of-result c = (
  record {
    value = hosts_in c.self.inside.table c.self.inside.stands;
    stands = stands_again c.self.inside.table c.in_ok-table.table c.self.inside.stands c.in_ok-table.ensures;
  },
  tt,
)

pub returns : goal.returns
returns c = same_hosts c.self.inside.table c.in_ok-table.table c.self.inside.stands _ c.in_ok-table.ensures ∙ ap (λ (v : GroveView). v.hosts) c.self.view_is
