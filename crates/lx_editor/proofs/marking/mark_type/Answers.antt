use Rattle.lx_draft.specs.Steps.{mark_uncounted_step}
use Rattle.lx_draft.proofs.CoveredSteps.{covered-mark_uncounted}
use Rattle.lx_edit.proofs.Covered.{covered-edits}
use Rattle.lx_editor.proofs.Told.{told_ok}
use Rattle.lx_editor.proofs.marking.mark_type.Goals as goal

pub returns-clause-covered : goal.returns-clause-covered
returns-clause-covered c =
    told_ok c.mark_all.result _ _ c.mark_all.ensures.ok
    (λ marked ready. covered-edits.turns mark_uncounted_step covered-mark_uncounted c.as_slice.result.now c.args.draft.now c.mark_all.new.draft ready marked)
