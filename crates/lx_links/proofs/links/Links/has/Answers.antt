use Rattle.std.proofs.Common.{◌∙◌}
use Rattle.lx_links.proofs.Seen.{is_some_in}
use Rattle.lx_links.proofs.links.Links.has.Goals as goal

pub returns-clause-has : goal.returns-clause-has
returns-clause-has c = c.is_some.ensures ∙ is_some_in _ _ _ c.node.ensures.node
