-- What a run may be for all arguments: over the input, with views that lag, with an outline or with neither, or of a
-- session that is generated.
use Rattle.std.specs.Prelude.{◌≡◌, ◌<◌, ◌⊎◌, ℕ, ◌+◌, List, [], ◌∷◌, ◌++◌, length, if◌then◌else◌}
use Rattle.lx_io.specs.Devices.{Appends, HasRisen, IsCounted, last_count}
use Rattle.lx_arguments.specs.declared.options.Generated.{Generated}
use Rattle.lx_arguments.specs.declared.options.Mode.{Mode}
use Rattle.lx_arguments.specs.declared.options.Mode.TheVariants.{Plain, Hub, Outline, Generate}
use Rattle.lx_arguments.specs.Arguments.{are_taken, asked_for, delay_asked}
use Rattle.lx_generator.specs.Sessions.{IsSummary}
use Rattle.lx_cli.specs.Run.{Seen, IsFaultless, IsRun, IsServedRun}
use Rattle.lx_cli.specs.declared.status.Status.{Status}
use Rattle.lx_cli.specs.declared.status.Status.TheVariants.{Done, Usage, ReadFault, WriteFault, Memory, InputTooLong}

-- A session with the delay of the arguments was run, and its summary and a line end are written.
pub record IsToldWhole (session : Generated) (run : Seen) : Type 0 where
  pub summary : List ℕ
  pub told : IsSummary session (delay_asked run.words) summary
  pub written : run.written ≡ summary ++ 10 ∷ []
  pub faultless : IsFaultless run

-- A front of the summary and the line end is written, and then a write failed.
pub record IsToldInPart (session : Generated) (run : Seen) : Type 0 where
  pub summary : List ℕ
  pub later : List ℕ
  pub told : IsSummary session (delay_asked run.words) summary
  pub front : run.written ++ later ≡ summary ++ 10 ∷ []
  pub sink : HasRisen run.sink_before.faults run.sink_after.faults

-- Memory ran out before anything was written.
pub record IsUntold (run : Seen) : Type 0 where
  pub written : run.written ≡ []
  pub faultless : IsFaultless run

-- what each status says of a session that is generated
unfoldable pub GeneratedEnds : Status → Generated → Seen → Type 0
GeneratedEnds Done session run = IsToldWhole session run
GeneratedEnds WriteFault session run = IsToldInPart session run
GeneratedEnds Memory session run = IsUntold run
GeneratedEnds Usage session run = ⊥
GeneratedEnds ReadFault session run = ⊥
GeneratedEnds InputTooLong session run = ⊥

-- A run that generates a session and ended so. Nothing is read, and the source is as it was. What it wrote went to the sink,
-- in at most one call more than the bytes. Where no write fails it is done, unless memory ran out.
pub record IsGeneratedRun (status : Status) (session : Generated) (run : Seen) : Type 0 where
  pub ends : GeneratedEnds status session run
  pub read : run.read ≡ []
  pub source : run.source_after ≡ run.source_before
  pub appends : Appends run.sink_before.taken run.sink_after.taken run.written
  pub writes : IsCounted run.sink_before.writes run.sink_after.writes (length run.written + 1)
  pub complete : IsFaultless run → run.sink_before.faults < last_count → (status ≡ Done) ⊎ (status ≡ Memory)

-- the mode that the arguments ask for, or the plain one where they aren't taken
abbrev pub mode_for : List (List ℕ) → Mode
mode_for words = if are_taken words then (asked_for words).mode else Plain

-- A run as its mode has it: the input is answered, with lines about views or about the outline among it in their modes, or a session
-- is generated.
abbrev pub RunsBy : Mode → Status → Seen → Type 0
RunsBy Plain status run = IsRun status run
RunsBy Hub status run = IsServedRun status run
RunsBy Outline status run = IsServedRun status run
RunsBy (Generate session) status run = IsGeneratedRun status session run

-- a run as its arguments have it
abbrev pub RunsAsAsked : Status → Seen → Type 0
RunsAsAsked status run = RunsBy (mode_for run.words) status run
