use Rattle.std.proofs.Common.{◌∙◌, chars}
use Rattle.lx_bus.specs.Offers.{offers}
use Rattle.lx_bus.proofs.Parted.{offers_parted}
use Rattle.lx_bus.proofs.bus.Bus.order.Goals as goal

pub returns-clause-order : goal.returns-clause-order
unfolding offers
returns-clause-order c = c.offers.ensures.order

pub returns-clause-parts : goal.returns-clause-parts
unfolding offers
returns-clause-parts c = c.offers.ensures.order ∙ offers_parted (chars c.args.name.now) c.args.self.now
