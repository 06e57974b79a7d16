use Rattle.lx_editor.specs.Registered.{IsRegistered}
use Rattle.lx_editor.proofs.Said.{outcome_said}
use Rattle.lx_editor.proofs.editor.Editor.register_rule.Goals as goal

pub returns-clause-registered : goal.returns-clause-registered
returns-clause-registered c =
    outcome_said c.register_saying.result (λ outcome. IsRegistered c.args.self.now c.args.rule c.args.moment outcome c.register_saying.new.self)
    c.register_saying.ensures.registered
