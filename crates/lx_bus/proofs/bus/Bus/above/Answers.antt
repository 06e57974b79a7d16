use Rattle.lx_bus.specs.Offers.{above}
use Rattle.lx_bus.proofs.bus.Bus.above.Goals as goal

pub returns-clause-order : goal.returns-clause-order
unfolding above
returns-clause-order c = c.offers.ensures.order
