use Rattle.std.proofs.Common.{sym, ap}
use Rattle.lx_forest.specs.Weights.{weight}
use Rattle.lx_links.specs.declared.sums.Sums.{Sums}
use Rattle.lx_links.specs.Sums.{items_in}
use Rattle.lx_links.proofs.Stood.{stood_by, failed_by}
use Rattle.lx_links.proofs.Summed.{counted_by}
use Rattle.lx_links.proofs.links.Links.items.Goals as goal

pub returns-in-Some : goal.returns-in-Some
returns-in-Some c =
    let h = stood_by _ c.self.inside.stands _ c.in-Some.field-0 c.self.view_is c.in-Some.is in
    ap (λ (s : Sums). s.items) (counted_by _ _ c.self.inside.stands _ _ c.self.view_is h c.self.invariant)

pub returns-in-None : goal.returns-in-None
returns-in-None c = sym (ap (weight items_in) (failed_by c.self.inside.held c.self.inside.stands _ c.self.view_is c.in-None.is))
