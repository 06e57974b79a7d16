use Rattle.lx_cli.specs.Run.{sink_seen}
use Rattle.lx_cli.proofs.Runs.{IsUnended-new, spent-end, HasRun-stopped, HasRun-done, HasRun-last_unanswered}
use Rattle.lx_cli.proofs.program.answer_all.Goals as goal

pub read_lines-requires-clause-unended : goal.read_lines-requires-clause-unended
read_lines-requires-clause-unended g c = IsUnended-new _ _ c.requires.session.1

pub finish-requires : goal.finish-requires
finish-requires g c = spent-end _ _ _ _ c.requires.session.1 c.in-End.ensures.stops

pub returns-in-Ok : goal.returns-in-Ok
returns-in-Ok g c words taken new =
    HasRun-done words taken _ _ c.finish.new.self.served _ new c.in-End.ensures c.in-Ok.ensures

pub returns-in-Err : goal.returns-in-Err
returns-in-Err g c words taken new =
    let sink = sink_seen g.K.Sink.taken g.K.Sink.faults g.K.Sink.writes c.finish.new.sink in
    HasRun-last_unanswered words taken _ c.in-Err.unanswered _ _ sink c.status.ensures new c.in-End.ensures c.in-Err.ensures

pub returns-in_default : goal.returns-in_default
returns-in_default g c words taken new =
    HasRun-stopped words taken _ c.read_lines.result _ _ c.status-in_default.ensures new c.in_default.not-End c.read_lines.ensures
