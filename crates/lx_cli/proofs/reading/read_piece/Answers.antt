use Rattle.std.proofs.Common.{[], take, arith}
use Rattle.std.specs.Prelude.{Err}
use Rattle.std.proofs.lemmas.List.{length-take}
use Rattle.lx_cli.specs.Run.{source_seen, sink_seen}
use Rattle.lx_cli.specs.declared.session.Unanswered.{Unanswered}
use Rattle.lx_cli.specs.declared.session.Unanswered.TheVariants.{WriteFault, Memory}
use Rattle.lx_cli.specs.Steps.{BytesEnd, IsUnanswered, moment}
use Rattle.lx_cli.proofs.Pieces.{AreBrokenOff-failed, IsUnanswered-one}
use Rattle.lx_cli.proofs.Taking.{AreTaken-none}
use Rattle.lx_cli.proofs.reading.read_piece.Given.{Over}
use Rattle.lx_cli.proofs.reading.read_piece.Goals as goal
use Rattle.lx_cli.proofs.reading.read_piece.Goals.{After-take_piece}

-- what was read is not all answered, as what was taken of it shows
unanswered : (g : Over) (c : After-take_piece g) (why : Unanswered)
    → BytesEnd (Err why) (take c.min-within.result c.read.new.into) c.args.session.now c.take_piece.new.self
    (sink_seen g.K.Sink.taken g.K.Sink.faults g.K.Sink.writes c.args.sink.now) (sink_seen g.K.Sink.taken g.K.Sink.faults g.K.Sink.writes c.take_piece.new.sink)
    → IsUnanswered why c.args.may_come (take c.in-Ok.count c.read.new.into)
    (moment c.args.session.now (source_seen g.S.Source.left g.S.Source.faults g.S.Source.reads c.args.source.now)
    (sink_seen g.K.Sink.taken g.K.Sink.faults g.K.Sink.writes c.args.sink.now))
    (moment c.take_piece.new.self (source_seen g.S.Source.left g.S.Source.faults g.S.Source.reads c.read.new.self)
    (sink_seen g.K.Sink.taken g.K.Sink.faults g.K.Sink.writes c.take_piece.new.sink))
unanswered g c why told =
    let cut = length-take c.min-room.result c.args.buffer.now in
    IsUnanswered-one why _ c.in-Ok.count c.min-within.result c.read.new.into _ _
    (omega arith) (omega (arith, cut, c.in-Ok.ensures.within)) (omega (arith, cut, c.in-Ok.ensures.within)) (omega arith) (omega arith)
    c.in-Ok.ensures.front c.in-Ok.ensures.cause c.read.ensures.counted told

pub returns-in-Err-clause-stopped : goal.returns-in-Err-clause-stopped
returns-in-Err-clause-stopped g c = record {
  bytes = [];
  stops = record {
    within = omega arith;
    source = AreBrokenOff-failed _ _ c.in-Err.ensures.failed c.in-Err.ensures.cause.1 c.read.ensures.counted;
    taken = AreTaken-none _ _ c.requires.unended;
  };
}

pub returns-in-Err-WriteFault-clause-stopped : goal.returns-in-Err-WriteFault-clause-stopped
returns-in-Err-WriteFault-clause-stopped g c = record {
  bytes = take c.in-Ok.count c.read.new.into;
  stops = unanswered g (goal.at.returns-in-Err-WriteFault-clause-stopped g c).After-take_piece WriteFault
      (rw c.in-Err-WriteFault.field-0-is at c.in-Err-WriteFault.ensures);
}

pub returns-in-Err-Memory-clause-stopped : goal.returns-in-Err-Memory-clause-stopped
returns-in-Err-Memory-clause-stopped g c = record {
  bytes = take c.in-Ok.count c.read.new.into;
  stops = unanswered g (goal.at.returns-in-Err-Memory-clause-stopped g c).After-take_piece Memory (rw c.in-Err-Memory.field-0-is at c.in-Err-Memory.ensures);
}
