use Rattle.std.proofs.Common.{◌≡◌, ℕ, ◌+◌, List, length}
use Rattle.lx_cli.specs.Run.{input_limit, source_seen, sink_seen}
use Rattle.lx_cli.specs.Steps.{ReadsOn, moment}
use Rattle.lx_cli.proofs.reading.read_lines.Given as goal

abbrev pub invariant-loop-count : goal.invariant-loop-count
invariant-loop-count g l =
    let source = source_seen g.S.Source.left g.S.Source.faults g.S.Source.reads in
    let sink = sink_seen g.K.Sink.taken g.K.Sink.faults g.K.Sink.writes in
    (bytes : List ℕ) × (length bytes + l.may_come ≡ input_limit)
    × ReadsOn input_limit bytes
    (moment l.initial.session (source l.initial.source) (sink l.initial.sink))
    (moment l.session (source l.source) (sink l.sink))

abbrev pub decreases-loop-count : goal.decreases-loop-count
decreases-loop-count g l = l.may_come
