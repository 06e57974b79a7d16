use Rattle.lx_editor.specs.Gathering.{recording}
use Rattle.lx_editor.specs.Updated.{IsUpdatedBy}
use Rattle.lx_editor.proofs.Said.{outcome_said}
use Rattle.lx_editor.proofs.editor.Editor.update.Goals as goal

pub returns-clause-updated : goal.returns-clause-updated
returns-clause-updated c =
    outcome_said c.update_saying.result
    (λ outcome. IsUpdatedBy c.args.self.now c.args.steps.now (recording c.args.tags c.args.moment) outcome c.update_saying.new.self)
    c.update_saying.ensures.updated
