use Rattle.std.proofs.Common.{◌∙◌, sym}
use Rattle.lx_compare.specs.Differing.{itself, parent_before, parent_after}
use Rattle.lx_compare.proofs.Raised.{where_some}
use Rattle.lx_compare.proofs.marking.mark_difference.Goals as goal

pub mark_node-requires-clause-affected : goal.mark_node-requires-clause-affected
mark_node-requires-clause-affected c = itself c.args.key c.requires.differs

pub mark_optional-requires-clause-affected : goal.mark_optional-requires-clause-affected
mark_optional-requires-clause-affected c =
    where_some c.parent.result _ (λ p is. parent_before c.args.key p c.requires.differs (sym c.parent.ensures.parent ∙ is))

pub mark_optional-requires-2-clause-affected : goal.mark_optional-requires-2-clause-affected
mark_optional-requires-2-clause-affected c =
    where_some c.parent-2.result _ (λ p is. parent_after c.args.key p c.requires.differs (sym c.parent-2.ensures.parent ∙ is))
