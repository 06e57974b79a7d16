use Rattle.lx_links.proofs.Stood.{stood_by, failed_by, held_living}
use Rattle.lx_links.proofs.links.Links.living.Goals as goal

pub returns-in-Some-clause-living : goal.returns-in-Some-clause-living
returns-in-Some-clause-living c =
    held_living c.in-Some.field-0 c.args.self.now (stood_by c.self.inside.held c.self.inside.stands _ c.in-Some.field-0 c.self.view_is c.in-Some.is)

pub returns-in-None-clause-failed : goal.returns-in-None-clause-failed
returns-in-None-clause-failed c = failed_by c.self.inside.held c.self.inside.stands _ c.self.view_is c.in-None.is
