use Rattle.std.proofs.lemmas.Result.{on_err_weaker}
use Rattle.lx_editor.proofs.Waiting.{left_by_line}
use Rattle.lx_editor.proofs.answer.answer_line.Goals as goal

pub returns-in-Ok-clause-unchanged : goal.returns-in-Ok-clause-unchanged
returns-in-Ok-clause-unchanged c =
    on_err_weaker c.line.result
    (left_by_line c.args.editor.now c.line.new.self c.args.line.now c.in-Ok.line c.in-Ok.ensures.tells)
    c.line.ensures.unchanged
