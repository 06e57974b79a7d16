use Rattle.std.proofs.Common.{subst}
use Rattle.lx_host.specs.Stocked.{AreRoomy}
use Rattle.lx_host.proofs.Roomy.{roomy_last}
use Rattle.lx_host.proofs.stock.Stock.take.Goals as goal

pub invariant_of-self : goal.invariant_of-self
invariant_of-self c = (roomy_last c.pop.new.self.items c.in-Some.roomy (subst AreRoomy (rw c.in-Some.is at c.pop.ensures.items) c.self.invariant)).0

pub returns-clause-empty : goal.returns-clause-empty
returns-clause-empty c = (roomy_last c.pop.new.self.items c.in-Some.roomy (subst AreRoomy (rw c.in-Some.is at c.pop.ensures.items) c.self.invariant)).1

pub returns-clause-roomy : goal.returns-clause-roomy
returns-clause-roomy c = (roomy_last c.pop.new.self.items c.in-Some.roomy (subst AreRoomy (rw c.in-Some.is at c.pop.ensures.items) c.self.invariant)).2
