-- What a session in memory is answered with.
use Rattle.std.specs.Prelude.{◌≡◌, ℕ, List, [], Some}
use Rattle.lx_cli.specs.Ends.{number_of_status}
use Rattle.lx_cli.specs.Generating.{RunsAsAsked}
use Rattle.lx_cli.specs.Run.{SourceSeen, SinkSeen, Seen}
use Rattle.lx_cli.specs.declared.status.Status.{Status}

-- a source in memory that has these bytes, before it is read
abbrev pub unread : List ℕ → SourceSeen
unread input = record { left = Some input; faults = 0; reads = Some 0 }

-- a sink in memory, before it is written to
abbrev pub unwritten : SinkSeen
unwritten = record { taken = Some []; faults = 0; writes = Some 0 }

-- The program was run without words over these bytes of input, ended so, and wrote these bytes.
pub record HasRun (status : Status) (input written : List ℕ) : Type 0 where
  pub seen : Seen
  pub words : seen.words ≡ []
  pub source : seen.source_before ≡ unread input
  pub sink : seen.sink_before ≡ unwritten
  pub replies : seen.written ≡ written
  pub run : RunsAsAsked status seen

-- The number is that of the status with which such a run ended.
pub record IsAnswered (number : ℕ) (input written : List ℕ) : Type 0 where
  pub status : Status
  pub told : number ≡ number_of_status status
  pub run : HasRun status input written
