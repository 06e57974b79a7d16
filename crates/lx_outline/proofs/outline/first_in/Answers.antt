use Rattle.std.proofs.Common.{◌∙◌, sym}
use Rattle.lx_outline.proofs.Listed.{first_left, first_deep, none_left}
use Rattle.lx_outline.proofs.outline.first_in.Goals as goal

pub returns-then-has-clause-left : goal.returns-then-has-clause-left
returns-then-has-clause-left c = first_left c.args.links.now c.root-root.result c.root-root.ensures c.has.ensures.sound (sym c.has.ensures.has ∙ c.if-has.true)

pub returns-then-has-clause-at : goal.returns-then-has-clause-at
returns-then-has-clause-at c = first_deep c.args.links.now c.root-root.result c.root-root.ensures c.has.ensures.sound (sym c.has.ensures.has ∙ c.if-has.true)

pub returns-clause-left : goal.returns-clause-left
returns-clause-left c = none_left c.args.links.now c.root-root.result c.root-root.ensures (sym c.has.ensures.has ∙ c.if-has.false)
