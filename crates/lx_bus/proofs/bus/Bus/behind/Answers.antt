use Rattle.lx_bus.specs.Offers.{behind}
use Rattle.lx_bus.proofs.bus.Bus.behind.Goals as goal

pub returns-clause-order : goal.returns-clause-order
unfolding behind
returns-clause-order c = c.offers.ensures.order
