use Rattle.lx_editor.specs.Gathering.{IsDeferred}
use Rattle.lx_editor.proofs.Said.{outcome_said}
use Rattle.lx_editor.proofs.editor.Editor.defer.Goals as goal

pub returns-clause-deferred : goal.returns-clause-deferred
returns-clause-deferred c =
    outcome_said c.defer_saying.result (λ outcome. IsDeferred c.args.self.now c.args.steps.now c.args.tags outcome c.defer_saying.new.self)
    c.defer_saying.ensures.deferred
