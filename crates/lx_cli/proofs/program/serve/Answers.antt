use Rattle.std.proofs.Common.{[], refl, subst}
use Rattle.lx_serving.specs.declared.setup.Setup.{Setup}
use Rattle.lx_serving.specs.Served.{FollowsIn}
use Rattle.lx_cli.specs.Run.{served_with, source_seen, sink_seen}
use Rattle.lx_cli.specs.Steps.{IsNew}
use Rattle.lx_cli.proofs.Runs.{IsAnsweredRun-none}
use Rattle.lx_cli.proofs.program.serve.Goals as goal

pub returns-in-Err : goal.returns-in-Err
returns-in-Err g c words taken is = (
  [],
  [],
  IsAnsweredRun-none (FollowsIn (served_with words)) (served_with words, (refl, refl)) words
      (source_seen g.S.Source.left g.S.Source.faults g.S.Source.reads c.args.source.now)
      (sink_seen g.K.Sink.taken g.K.Sink.faults g.K.Sink.writes c.args.sink.now),
)

pub returns-in-Err-new_buffer : goal.returns-in-Err-new_buffer
returns-in-Err-new_buffer g c words taken is = (
  [],
  [],
  IsAnsweredRun-none (FollowsIn (served_with words)) (served_with words, (refl, refl)) words
      (source_seen g.S.Source.left g.S.Source.faults g.S.Source.reads c.args.source.now)
      (sink_seen g.K.Sink.taken g.K.Sink.faults g.K.Sink.writes c.args.sink.now),
)

pub returns : goal.returns
returns g c words taken is =
    c.answer_all.ensures words taken (subst (λ (s : Setup). IsNew s c.in-Ok.session) is c.in-Ok.ensures)
