use Rattle.std.proofs.Common.{◌++◌, [], refl, length-append, arith}
use Rattle.lx_cli.specs.Run.{source_seen, sink_seen}
use Rattle.lx_cli.specs.Steps.{moment}
use Rattle.lx_cli.proofs.Pieces.{GoesOn-none, GoesOn-append, Stops-behind, spent-behind, IsUnended-behind}
use Rattle.lx_cli.proofs.reading.read_lines.Goals as goal

pub loop-count-init : goal.loop-count-init
loop-count-init g c = ([], refl, GoesOn-none _ _ c.requires.unended)

pub read_piece-requires : goal.read_piece-requires
read_piece-requires g c =
    let before = c.loop-count.invariant in
    record {
      buffer = omega arith;
      limit = omega (arith, before.1);
      unended = IsUnended-behind _ _ _ _ before.2;
      room = omega (arith, spent-behind _ _ _ _ _ before.1 before.2);
    }

pub loop-count-preserved : goal.loop-count-preserved
loop-count-preserved g c =
    let before = c.loop-count.invariant in
    let piece = c.in-Ok.ensures.read in (
      before.0 ++ piece.bytes,
      omega (arith, length-append before.0 piece.bytes, before.1, piece.counted, piece.goes_on.within),
      GoesOn-append _ _ _ _ _ _ _ before.1 before.2 piece.goes_on,
    )

pub returns-in-Err : goal.returns-in-Err
returns-in-Err g c =
    let source = source_seen g.S.Source.left g.S.Source.faults g.S.Source.reads in
    let sink = sink_seen g.K.Sink.taken g.K.Sink.faults g.K.Sink.writes in
    let after = moment c.read_piece.new.session (source c.read_piece.new.source) (sink c.read_piece.new.sink) in
    let before = c.loop-count.invariant in
    let stopped = c.in-Err.ensures.stopped in
    record {
      bytes = before.0 ++ stopped.bytes;
      stops = Stops-behind c.in-Err.stop _ _ after _ c.loop-count.may_come before.0 stopped.bytes before.1 before.2 stopped.stops;
    }
