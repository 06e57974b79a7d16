use Rattle.std.proofs.Common.{◌∙◌}
use Rattle.lx_links.proofs.Placed.{behind_of}
use Rattle.lx_links.proofs.links.Links.gap.Goals as goal

pub returns-in-Some-clause-prev : goal.returns-in-Some-clause-prev
returns-in-Some-clause-prev c =
    c.number_of.ensures ∙ c.previous.ensures.previous
    ∙ behind_of c.args.self.now c.args.parent c.in-Some.before c.args.before.now c.previous.ensures.sound c.in-Some.is c.requires
