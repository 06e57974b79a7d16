use Rattle.std.proofs.Common.{Result, subst}
use Rattle.lx_node.specs.declared.cause.Cause.{Cause}
use Rattle.lx_draft.specs.Working.{Working}
use Rattle.lx_edit.specs.Standing.{Does}
use Rattle.lx_caret.specs.Stretches.{reach_of}
use Rattle.lx_caret.proofs.Erased.{erased_by}
use Rattle.lx_caret.proofs.deleting.erase.Goals as goal

pub returns : goal.returns
returns c =
    subst (λ (step : Result Working Cause). Does step c.erase_to.new.draft c.erase_to.result)
    (erased_by c.args.back (reach_of c.args.stretch c.args.back) c.args.key c.args.at c.end_in-end.result c.args.draft.now c.end_in-end.ensures)
    c.erase_to.ensures
