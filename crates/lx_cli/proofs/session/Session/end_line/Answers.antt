use Rattle.std.proofs.Common.{◌++◌, ◌∷◌, [], ◌∙◌, List, ℕ, subst}
use Rattle.lx_serving.specs.Served.{AnswersIn}
use Rattle.lx_cli.specs.Run.{sink_seen}
use Rattle.lx_cli.specs.Steps.{IsPieceCutOff}
use Rattle.lx_cli.proofs.Answering.{AreUnanswered-one}
use Rattle.lx_cli.proofs.session.Session.end_line.Goals as goal

pub returns-clause-lines : goal.returns-clause-lines
returns-clause-lines g c =
    let seen = sink_seen g.K.Sink.taken g.K.Sink.faults g.K.Sink.writes in
    let old = c.args.self.now.served in
    let new = c.answer-answer.new.self in
    let line = c.args.self.now.pending.items in
    let answer = c.in-Ok.reply.items in
    let answers : AnswersIn old line answer new =
    subst (λ (bytes : List ℕ). AnswersIn old bytes answer new) c.deref.ensures.value c.in-Ok.ensures.answer in
    let cut_off : IsPieceCutOff (answer ++ 10 ∷ []) (seen c.args.sink.now) (seen c.write_all.new.sink) =
    subst (λ (piece : List ℕ). IsPieceCutOff piece (seen c.args.sink.now) (seen c.write_all.new.sink))
    (c.deref-2.ensures.value ∙ c.in-Ok-push.ensures.items) c.in-Err-write_all.ensures in
    AreUnanswered-one old new (seen c.args.sink.now) (seen c.write_all.new.sink) line answer answers cut_off
