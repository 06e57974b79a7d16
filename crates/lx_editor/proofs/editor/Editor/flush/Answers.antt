use Rattle.lx_editor.specs.Gathering.{recording}
use Rattle.lx_editor.specs.Updated.{IsFlushed}
use Rattle.lx_editor.proofs.Said.{outcome_said}
use Rattle.lx_editor.proofs.editor.Editor.flush.Goals as goal

pub returns-clause-flushed : goal.returns-clause-flushed
returns-clause-flushed c =
    outcome_said c.flush_saying.result (λ outcome. IsFlushed c.args.self.now (recording c.args.tags c.args.moment) outcome c.flush_saying.new.self)
    c.flush_saying.ensures.flushed
