use Rattle.std.proofs.Common.{◌∙◌}
use Rattle.lx_outline.proofs.Kept.{lookup_seen}
use Rattle.lx_outline.proofs.headings.Headings.find.Goals as goal

pub returns : goal.returns
returns c = c.get.ensures.value ∙ lookup_seen c.args.self.now c.self.inside.held.entries c.number.result c.args.key (cc) c.number.ensures
