use Rattle.std.proofs.Common.{IfOk, subst}
use Rattle.std.proofs.lemmas.Result.{IfOk-weaker}
use Rattle.lx_editor.specs.Follows.{AnswersLine}
use Rattle.lx_serving.specs.Served.{Served, AnswersIn}
use Rattle.lx_serving.proofs.Plain.{served, answered_plain}
use Rattle.lx_serving.proofs.served.Served.answer.Goals as goal

pub returns-in-Plain-clause-answer : goal.returns-in-Plain-clause-answer
returns-in-Plain-clause-answer c =
    let old = c.self.inside.editor in
    let new = c.answer_line.new.editor in
    let l = c.self.inside.layer in
    let line = c.args.line.now in
    subst (λ (s : Served). IfOk c.answer_line.result (λ bytes. AnswersIn s line bytes.items (served new l))) c.self.view_is
    (IfOk-weaker c.answer_line.result
    (λ bytes. AnswersLine old line bytes.items new)
    (λ bytes. AnswersIn (served old l) line bytes.items (served new l))
    (λ bytes answers. answered_plain old new l line bytes.items c.in-Plain.is answers)
    c.answer_line.ensures.answer)
