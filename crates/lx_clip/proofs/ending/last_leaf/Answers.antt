use Rattle.std.proofs.Common.{◌∙◌, sym}
use Rattle.lx_clip.proofs.Lasts.{none_within}
use Rattle.lx_clip.proofs.ending.last_leaf.Goals as goal

pub returns-else-has : goal.returns-else-has
returns-else-has c = none_within c.args.links.now c.args.key (sym c.has.ensures.has ∙ c.if-has.false)
