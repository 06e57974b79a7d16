use Rattle.std.proofs.Common.{◌+◌, ◌<◌, ◌≤◌, length, take, drop, arith}
use Rattle.std.proofs.lemmas.List.{take-append-drop, length-drop, take_rest}
use Rattle.lx_cli.specs.Run.{sink_seen}
use Rattle.lx_cli.proofs.Devices.{AreWritten-more, AreCutOff-failed}
use Rattle.lx_cli.proofs.writing.write_all.Goals as goal

pub loop-start-preserved : goal.loop-start-preserved
loop-start-preserved g c =
    let seen = sink_seen g.K.Sink.taken g.K.Sink.faults g.K.Sink.writes in
    let piece = c.args.piece.now in
    let start = c.loop-start.start in
    let whole = take_rest piece start in
    let left = length-drop start piece in
    let count_within = rw whole at c.in-Ok.ensures.within in
    let count_some = rw whole at c.in-Ok.ensures.some in
    let front = rw whole at c.in-Ok.ensures.front in
    let within : start + c.in-Ok.count ≤ length piece = omega (arith, left) in
    let some : 0 < c.in-Ok.count = count_some (omega (arith, left)) in (
      within,
      AreWritten-more (seen c.args.sink.now) (seen c.loop-start.sink) (seen c.write.new.self)
          start c.in-Ok.count piece c.loop-start.invariant.1
          some within front c.in-Ok.ensures.cause c.write.ensures.counted,
    )

pub returns-in-Err : goal.returns-in-Err
returns-in-Err g c =
    let seen = sink_seen g.K.Sink.taken g.K.Sink.faults g.K.Sink.writes in
    let piece = c.args.piece.now in
    let start = c.loop-start.start in
    record {
      written = take start piece;
      later = drop start piece;
      front = take-append-drop start piece;
      sink = AreCutOff-failed (seen c.args.sink.now) (seen c.loop-start.sink) (seen c.write.new.self)
          (take start piece) c.loop-start.invariant.1
          c.in-Err.ensures.failed c.in-Err.ensures.cause.1 c.write.ensures.counted;
    }
