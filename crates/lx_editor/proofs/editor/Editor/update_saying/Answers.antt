use Rattle.lx_editor.specs.Updated.{IsUpdatedBy, left_by}
use Rattle.lx_editor.proofs.Judged.{may_conclude, taken_in}
use Rattle.lx_editor.proofs.Changed.{uncommitted_pending}
use Rattle.lx_editor.proofs.Told.{told}
use Rattle.lx_editor.proofs.editor.Editor.update_saying.Goals as goal

pub conclude-requires-clause-may : goal.conclude-requires-clause-may
conclude-requires-clause-may g c =
    let mid = c.take_draft.new.self in
    may_conclude (left_by mid.rules mid.listeners c.args.steps.now c.in_ok-draft.draft) mid c.in_ok-verdict.verdict c.in_ok-verdict.ensures.judged

pub returns-clause-updated : goal.returns-clause-updated
unfolding IsUpdatedBy
returns-clause-updated g c =
    let old = c.args.self.now in
    let mid = c.take_draft.new.self in
    told c.conclude.result _ _ c.conclude.ensures.concluded
    (λ said (outcome, done, tells). (
      outcome,
      taken_in (λ e w. left_by e.rules e.listeners c.args.steps.now w) old mid c.in_ok-draft.draft c.args.how c.recording-all.result c.in_ok-verdict.verdict
          outcome c.conclude.new.self
          c.take_draft.ensures.taken c.in_ok-draft.ensures.begun c.recording-all.ensures c.in_ok-verdict.ensures.judged done,
      tells old (uncommitted_pending old mid c.take_draft.ensures.taken),
    ))
