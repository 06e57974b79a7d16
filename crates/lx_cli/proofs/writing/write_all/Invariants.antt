use Rattle.std.proofs.Common.{length, take, ◌-◌, ◌≤◌}
use Rattle.lx_cli.specs.Run.{sink_seen}
use Rattle.lx_cli.specs.Steps.{AreWritten}
use Rattle.lx_cli.proofs.writing.write_all.Given as goal

abbrev pub invariant-loop-start : goal.invariant-loop-start
invariant-loop-start g l =
    (l.start ≤ length l.piece)
    × AreWritten (take l.start l.piece)
    (sink_seen g.K.Sink.taken g.K.Sink.faults g.K.Sink.writes l.initial.sink)
    (sink_seen g.K.Sink.taken g.K.Sink.faults g.K.Sink.writes l.sink)

abbrev pub decreases-loop-start : goal.decreases-loop-start
decreases-loop-start g l = length l.piece - l.start
