use Rattle.std.proofs.Common.{◌≡◌, ◌++◌, List, ℕ, length}
use Rattle.lx_cli.specs.Run.{sink_seen}
use Rattle.lx_cli.specs.Steps.{AreTaken}
use Rattle.lx_cli.proofs.session.Session.take_piece.Given as goal

-- what comes before the rest is taken
abbrev pub invariant-lines : goal.invariant-lines
invariant-lines g l =
    (front : List ℕ) × (front ++ l.rest ≡ l.piece) × AreTaken front l.initial.self l.self
    (sink_seen g.K.Sink.taken g.K.Sink.faults g.K.Sink.writes l.initial.sink)
    (sink_seen g.K.Sink.taken g.K.Sink.faults g.K.Sink.writes l.sink)

abbrev pub decreases-lines : goal.decreases-lines
decreases-lines g l = length l.rest
