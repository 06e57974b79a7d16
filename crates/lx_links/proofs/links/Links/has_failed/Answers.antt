use Rattle.lx_links.proofs.Stood.{stood_by, failed_by, held_living, sound}
use Rattle.lx_links.proofs.links.Links.has_failed.Goals as goal

pub returns-in-Some-clause-living : goal.returns-in-Some-clause-living
returns-in-Some-clause-living c lives =
    held_living c.in-Some.field-0 c.args.self.now (stood_by c.self.inside.held c.self.inside.stands _ c.in-Some.field-0 c.self.view_is c.in-Some.is)

pub returns-in-Some-clause-sound : goal.returns-in-Some-clause-sound
returns-in-Some-clause-sound c = sound c.self.inside.held c.self.inside.stands _ c.self.view_is

pub returns-in-None-clause-failed : goal.returns-in-None-clause-failed
returns-in-None-clause-failed c is = failed_by c.self.inside.held c.self.inside.stands _ c.self.view_is c.in-None.is

pub returns-in-None-clause-sound : goal.returns-in-None-clause-sound
returns-in-None-clause-sound c = sound c.self.inside.held c.self.inside.stands _ c.self.view_is
