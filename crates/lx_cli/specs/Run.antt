-- What a run of the program may be.
use Rattle.std.specs.Prelude.{◌≡◌, ℕ, true, false, ◌+◌, ◌<◌, ◌≤◌, ◌⊎◌, List, [], ◌++◌, length, take, Option}
use Rattle.lx_io.specs.Devices.{Consumes, Appends, IsAtEnd, HasRisen, IsCounted, last_count}
use Rattle.lx_editor.specs.Editor.{Editor, new_editor}
use Rattle.lx_editor.specs.Follows.{Follows}
use Rattle.lx_arguments.specs.Arguments.{are_taken, asked_for, asks_view, delay_asked}
use Rattle.lx_arguments.specs.declared.options.Mode.{Mode}
use Rattle.lx_arguments.specs.declared.options.Mode.TheVariants.{Plain, Hub, Outline, Generate}
use Rattle.lx_arguments.specs.declared.options.Options.{Options}
use Rattle.lx_serving.specs.Served.{Served, FollowsIn, new_served}
use Rattle.lx_serving.specs.declared.setup.Setup.{Setup}
use Rattle.lx_serving.specs.declared.setup.Beside.{Beside}
use Rattle.lx_serving.specs.declared.setup.Beside.TheVariants as beside
use Rattle.lx_cli.specs.Lines.{lines_ended, lines_of}
use Rattle.lx_cli.specs.declared.status.Status.{Status}
use Rattle.lx_cli.specs.declared.status.Status.TheVariants.{Done, Usage, ReadFault, WriteFault, Memory, InputTooLong}

-- the editor that a run begins with: its replies to commits include the view where the arguments ask for it, and its
-- history has the delay that they ask for
abbrev pub begun_with : List (List ℕ) → Editor
begun_with words = new_editor (asks_view words) (delay_asked words)

-- what is kept beside the editor in a mode; beside a session that is generated nothing is
abbrev pub beside_in : Mode → Beside
beside_in Plain = beside.Nothing
beside_in Hub = beside.Hub
beside_in Outline = beside.Outline
beside_in (Generate session) = beside.Nothing

-- what the editor begins with, by what is asked for
abbrev pub setup_of : Options → Setup
setup_of options = record { beside = beside_in options.mode; view = options.view; delay = options.delay }

-- the editor that a run begins with, and what is beside it in the mode that the arguments ask for
abbrev pub served_with : List (List ℕ) → Served
served_with words = new_served (setup_of (asked_for words))

-- the most bytes that the input may have
abbrev pub input_limit : ℕ
input_limit = 16777216

-- what can be seen of a source: the bytes that it has left and how often it was read, where it says so, and its count
-- of faults
pub record SourceSeen : Type 0 where
  pub left : Option (List ℕ)
  pub faults : ℕ
  pub reads : Option ℕ

-- what can be seen of a sink: the bytes that it took and how often it was written to, where it says so, and its count
-- of faults
pub record SinkSeen : Type 0 where
  pub taken : Option (List ℕ)
  pub faults : ℕ
  pub writes : Option ℕ

-- what can be seen of a source, by what is read of it
abbrev pub source_seen : {S : Type 0} → (S → Option (List ℕ)) → (S → ℕ) → (S → Option ℕ) → S → SourceSeen
source_seen left faults reads source = record { left = left source; faults = faults source; reads = reads source }

-- what can be seen of a sink, by what is read of it
abbrev pub sink_seen : {K : Type 0} → (K → Option (List ℕ)) → (K → ℕ) → (K → Option ℕ) → K → SinkSeen
sink_seen taken faults writes sink = record { taken = taken sink; faults = faults sink; writes = writes sink }

-- A run as it is seen from outside: the arguments, the bytes that it read and wrote, and the source and the sink before
-- it and after it.
pub record Seen : Type 0 where
  pub words : List (List ℕ)
  pub read : List ℕ
  pub written : List ℕ
  pub source_before : SourceSeen
  pub source_after : SourceSeen
  pub sink_before : SinkSeen
  pub sink_after : SinkSeen

-- no fault was counted in the run
pub record IsFaultless (run : Seen) : Type 0 where
  pub source : run.source_after.faults ≡ run.source_before.faults
  pub sink : run.sink_after.faults ≡ run.sink_before.faults

-- What was written is the front of replies to a front of the lines, where it is said which bytes may be the replies to which
-- lines.
pub record IsFrontOfReplies (AreReplies : List (List ℕ) → List ℕ → Type 0) (lines : List (List ℕ)) (written : List ℕ) : Type 0 where
  pub answered : List (List ℕ)
  pub later_lines : List (List ℕ)
  pub front : answered ++ later_lines ≡ lines
  pub replies : List ℕ
  pub later_bytes : List ℕ
  pub follows : AreReplies answered replies
  pub begun : written ++ later_bytes ≡ replies

-- The lines that may be answered: those that ended in what was read, without the byte past the limit, and what is
-- after the last line end only where the input was read to its end and is within the limit.
abbrev pub MayAnswer : Seen → List (List ℕ) → Type 0
MayAnswer run lines =
    (lines ≡ lines_ended (take input_limit run.read))
    ⊎ (IsAtEnd run.source_after.left × (length run.read ≤ input_limit) × (lines ≡ lines_of run.read))

-- The input was read to its end, and all of its lines are answered.
pub record IsDone (AreReplies : List (List ℕ) → List ℕ → Type 0) (run : Seen) : Type 0 where
  pub taken : are_taken run.words ≡ true
  pub at_end : IsAtEnd run.source_after.left
  pub short : length run.read ≤ input_limit
  pub follows : AreReplies (lines_of run.read) run.written
  pub faultless : IsFaultless run

-- The arguments aren't taken, and nothing was read or written: neither the source nor the sink was called.
pub record IsUsage (run : Seen) : Type 0 where
  pub refused : are_taken run.words ≡ false
  pub read : run.read ≡ []
  pub written : run.written ≡ []
  pub source : run.source_after ≡ run.source_before
  pub sink : run.sink_after ≡ run.sink_before

-- A read failed, and the lines that had ended are answered.
pub record IsReadFault (AreReplies : List (List ℕ) → List ℕ → Type 0) (run : Seen) : Type 0 where
  pub taken : are_taken run.words ≡ true
  pub short : length run.read ≤ input_limit
  pub follows : AreReplies (lines_ended run.read) run.written
  pub source : HasRisen run.source_before.faults run.source_after.faults
  pub sink : run.sink_after.faults ≡ run.sink_before.faults

-- A write failed, and a front of the replies to lines that may be answered is written.
pub record IsWriteFault (AreReplies : List (List ℕ) → List ℕ → Type 0) (run : Seen) : Type 0 where
  pub taken : are_taken run.words ≡ true
  pub lines : List (List ℕ)
  pub may : MayAnswer run lines
  pub front : IsFrontOfReplies AreReplies lines run.written
  pub source : run.source_after.faults ≡ run.source_before.faults
  pub sink : HasRisen run.sink_before.faults run.sink_after.faults

-- Memory ran out, and a front of the replies to lines that may be answered is written. Where the arguments may not be
-- taken, it ran out before they were looked at, and nothing was read or written.
pub record IsOutOfMemory (AreReplies : List (List ℕ) → List ℕ → Type 0) (run : Seen) : Type 0 where
  pub taken : (are_taken run.words ≡ true) ⊎ ((run.read ≡ []) × (run.written ≡ []))
  pub lines : List (List ℕ)
  pub may : MayAnswer run lines
  pub front : IsFrontOfReplies AreReplies lines run.written
  pub faultless : IsFaultless run

-- One byte more than the limit was read, and the lines that had ended before it are answered.
pub record IsTooLong (AreReplies : List (List ℕ) → List ℕ → Type 0) (run : Seen) : Type 0 where
  pub taken : are_taken run.words ≡ true
  pub long : length run.read ≡ input_limit + 1
  pub follows : AreReplies (lines_ended (take input_limit run.read)) run.written
  pub faultless : IsFaultless run

-- what each status says of a run
unfoldable pub Ends : (List (List ℕ) → List ℕ → Type 0) → Status → Seen → Type 0
Ends AreReplies Done run = IsDone AreReplies run
Ends AreReplies Usage run = IsUsage run
Ends AreReplies ReadFault run = IsReadFault AreReplies run
Ends AreReplies WriteFault run = IsWriteFault AreReplies run
Ends AreReplies Memory run = IsOutOfMemory AreReplies run
Ends AreReplies InputTooLong run = IsTooLong AreReplies run

-- Both counts of faults are where they were, and not at their last value.
pub record HasNoFault (run : Seen) : Type 0 where
  pub faultless : IsFaultless run
  pub source : run.source_before.faults < last_count
  pub sink : run.sink_before.faults < last_count

-- A run that ended so, where it is said which bytes may be the replies to which lines. What it read is gone from the source,
-- and what it wrote went to the sink. It reads at most one byte more than the limit. The calls are at most one more than the
-- bytes: reads than were read, writes than were written. Where the arguments are taken, and there are no fault and not too many
-- bytes, it is done, unless memory ran out.
pub record IsAnsweredRun (AreReplies : List (List ℕ) → List ℕ → Type 0) (status : Status) (run : Seen) : Type 0 where
  pub ends : Ends AreReplies status run
  pub consumes : Consumes run.source_before.left run.source_after.left run.read
  pub appends : Appends run.sink_before.taken run.sink_after.taken run.written
  pub bounded : length run.read ≤ input_limit + 1
  pub reads : IsCounted run.source_before.reads run.source_after.reads (length run.read + 1)
  pub writes : IsCounted run.sink_before.writes run.sink_after.writes (length run.written + 1)
  pub complete : are_taken run.words ≡ true → HasNoFault run → length run.read ≤ input_limit → (status ≡ Done) ⊎ (status ≡ Memory)

-- a run in which the editor that the arguments ask for answers the lines
abbrev pub IsRun : Status → Seen → Type 0
IsRun status run = IsAnsweredRun (Follows (begun_with run.words)) status run

-- a run in which that editor answers them with what is beside it
abbrev pub IsServedRun : Status → Seen → Type 0
IsServedRun status run = IsAnsweredRun (FollowsIn (served_with run.words)) status run
