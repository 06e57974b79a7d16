use Rattle.std.proofs.Common.{[], ◌∷◌, ◌++◌, ◌∙◌, List, ℕ, subst}
use Rattle.lx_arguments.specs.Arguments.{delay_asked}
use Rattle.lx_generator.specs.Sessions.{IsSummary}
use Rattle.lx_cli.specs.Run.{sink_seen}
use Rattle.lx_cli.specs.Steps.{AreWritten, IsPieceCutOff}
use Rattle.lx_cli.proofs.Generating.{IsGeneratedRun-cut_off, IsGeneratedRun-done, IsGeneratedRun-none}
use Rattle.lx_cli.proofs.program.generate.Goals as goal

pub returns-in-Err : goal.returns-in-Err
returns-in-Err g c words source is =
    ([], IsGeneratedRun-none c.args.session words source (sink_seen g.K.Sink.taken g.K.Sink.faults g.K.Sink.writes c.args.sink.now))

pub returns-in-Err-push : goal.returns-in-Err-push
returns-in-Err-push g c words source is =
    ([], IsGeneratedRun-none c.args.session words source (sink_seen g.K.Sink.taken g.K.Sink.faults g.K.Sink.writes c.args.sink.now))

pub returns-in-Ok-write_all : goal.returns-in-Ok-write_all
returns-in-Ok-write_all g c words source is =
    let seen = sink_seen g.K.Sink.taken g.K.Sink.faults g.K.Sink.writes in
    let summary = c.in-Ok.summary.items in
    let told : IsSummary c.args.session (delay_asked words) summary = subst (λ (d : ℕ). IsSummary c.args.session d summary) is c.in-Ok.ensures in
    let written : AreWritten (summary ++ 10 ∷ []) (seen c.args.sink.now) (seen c.write_all.new.sink) =
    subst (λ (piece : List ℕ). AreWritten piece (seen c.args.sink.now) (seen c.write_all.new.sink))
    (c.deref.ensures.value ∙ c.in-Ok-push.ensures.items) c.in-Ok-write_all.ensures in
    (summary ++ 10 ∷ [], IsGeneratedRun-done c.args.session words summary source (seen c.args.sink.now) (seen c.write_all.new.sink) told written)

pub returns : goal.returns
returns g c words source is =
    let seen = sink_seen g.K.Sink.taken g.K.Sink.faults g.K.Sink.writes in
    let summary = c.in-Ok.summary.items in
    let told : IsSummary c.args.session (delay_asked words) summary = subst (λ (d : ℕ). IsSummary c.args.session d summary) is c.in-Ok.ensures in
    let cut : IsPieceCutOff (summary ++ 10 ∷ []) (seen c.args.sink.now) (seen c.write_all.new.sink) =
    subst (λ (piece : List ℕ). IsPieceCutOff piece (seen c.args.sink.now) (seen c.write_all.new.sink))
    (c.deref.ensures.value ∙ c.in-Ok-push.ensures.items) c.in-Err-write_all.ensures in
    (cut.written, IsGeneratedRun-cut_off c.args.session words summary source (seen c.args.sink.now) (seen c.write_all.new.sink) told cut)
