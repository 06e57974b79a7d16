use Rattle.std.proofs.Common.{◌<◌, ◌+◌, ◌-◌, ◌++◌, ◌∷◌, ◌∙◌, [], List, ℕ, length, take, drop, refl, sym, ap, subst, arith, append_assoc, length-append, length-take}
use Rattle.std.proofs.lemmas.List.{take_rest}
use Rattle.lx_cli.specs.Run.{sink_seen}
use Rattle.lx_cli.specs.Lines.{lines_ended}
use Rattle.lx_cli.specs.Steps.{AreUnanswered, LackMemory}
use Rattle.lx_cli.proofs.Lines.{length-ended-le}
use Rattle.lx_cli.proofs.Taking.{AreTaken-none, AreTaken-line, AreTaken-rest, AreUnanswered-line, LackMemory-rest, around_end, no_end_before, no_end_in}
use Rattle.lx_cli.proofs.session.Session.take_piece.Goals as goal

pub lines-init : goal.lines-init
lines-init g c =
    ([], refl, AreTaken-none c.args.self.now (sink_seen g.K.Sink.taken g.K.Sink.faults g.K.Sink.writes c.args.sink.now) c.requires.unended)

pub lines-smaller : goal.lines-smaller
lines-smaller g c =
    let rest = c.lines.rest.now in
    let next = c.in-Some.end + 1 in
    let less : length (take (length rest - next) (drop next rest)) < length rest = omega (arith, c.in-Some.ensures.0.high, length-take (length rest - next) (drop next rest)) in
    less

pub end_line_with-requires : goal.end_line_with-requires
end_line_with-requires g c =
    let inv = c.lines.invariant in
    let waits = c.args.self.now.pending.items in
    omega (arith, length-ended-le (waits ++ inv.0), length-append waits inv.0, ap length inv.1, length-append inv.0 c.lines.rest.now)

pub lines-preserved : goal.lines-preserved
lines-preserved g c =
    let seen = sink_seen g.K.Sink.taken g.K.Sink.faults g.K.Sink.writes in
    let inv = c.lines.invariant in
    let rest = c.lines.rest.now in
    let end = c.in-Some.end in
    let found = c.in-Some.ensures in
    let line = take end rest in (
      inv.0 ++ (line ++ 10 ∷ []),
      ap (λ later. (inv.0 ++ (line ++ 10 ∷ [])) ++ later) (take_rest rest (end + 1))
          ∙ append_assoc inv.0 (line ++ 10 ∷ []) (drop (end + 1) rest)
          ∙ ap (λ bytes. inv.0 ++ bytes) (sym (around_end rest end found.0.high found.1)) ∙ inv.1,
      AreTaken-line c.args.self.now c.lines.self c.end_line_with.new.self (seen c.args.sink.now) (seen c.lines.sink) (seen c.end_line_with.new.sink)
          inv.0 line inv.2 (no_end_before rest end (omega (arith, found.0.high)) found.0.before) c.in-Ok.ensures.lines c.in-Ok.ensures.emptied,
    )

pub returns-in-Err : goal.returns-in-Err
returns-in-Err g c =
    let seen = sink_seen g.K.Sink.taken g.K.Sink.faults g.K.Sink.writes in
    let inv = c.lines.invariant in
    let rest = c.lines.rest.now in
    let end = c.in-Some.end in
    let found = c.in-Some.ensures in
    let old = c.args.self.now in
    subst (λ (bytes : List ℕ). AreUnanswered c.in-Err.unanswered (lines_ended (old.pending.items ++ bytes)) old.served (seen c.args.sink.now)
    (seen c.end_line_with.new.sink))
    (ap (λ bytes. inv.0 ++ bytes) (sym (around_end rest end found.0.high found.1)) ∙ inv.1)
    (AreUnanswered-line c.in-Err.unanswered old c.lines.self (seen c.args.sink.now) (seen c.lines.sink) (seen c.end_line_with.new.sink)
    inv.0 (take end rest) (drop (end + 1) rest) inv.2 (no_end_before rest end (omega (arith, found.0.high)) found.0.before) c.in-Err.ensures.lines)

pub returns-in-Ok-extend_from_slice : goal.returns-in-Ok-extend_from_slice
returns-in-Ok-extend_from_slice g c =
    let seen = sink_seen g.K.Sink.taken g.K.Sink.faults g.K.Sink.writes in
    let inv = c.lines.invariant in
    rw (sym inv.1) (AreTaken-rest c.args.self.now c.lines.self _ (seen c.args.sink.now) (seen c.lines.sink) inv.0 c.lines.rest.now inv.2
    (no_end_in c.lines.rest.now c.in_default.ensures) refl c.in-Ok-extend_from_slice.ensures.items)

pub returns-in-Err-extend_from_slice : goal.returns-in-Err-extend_from_slice
returns-in-Err-extend_from_slice g c =
    let seen = sink_seen g.K.Sink.taken g.K.Sink.faults g.K.Sink.writes in
    let inv = c.lines.invariant in
    let old = c.args.self.now in
    subst (λ (bytes : List ℕ). LackMemory (lines_ended (old.pending.items ++ bytes)) old.served (seen c.args.sink.now) (seen c.lines.sink)) inv.1
    (LackMemory-rest old c.lines.self (seen c.args.sink.now) (seen c.lines.sink) inv.0 c.lines.rest.now inv.2 (no_end_in c.lines.rest.now c.in_default.ensures))
