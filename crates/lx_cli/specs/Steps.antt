-- What the parts of a run do.
use Rattle.std.specs.Prelude.{◌≡◌, ℕ, ◌+◌, ◌<◌, ◌≤◌, List, [], ◌++◌, length, take, Result, Ok, Err}
use Rattle.lx_io.specs.Devices.{Consumes, Appends, IsAtEnd, HasRisen, IsCounted}
use Rattle.lx_io.specs.declared.fault.Failed.{Failed}
use Rattle.lx_serving.specs.declared.setup.Setup.{Setup}
use Rattle.lx_serving.specs.Served.{Served, FollowsIn, FollowsInTo, new_served, spent}
use Rattle.lx_cli.specs.declared.session.Session.{Session}
use Rattle.lx_cli.specs.declared.session.Unanswered.{Unanswered}
use Rattle.lx_cli.specs.declared.session.Unanswered.TheVariants as unanswered
use Rattle.lx_cli.specs.declared.reading.Stop.{Stop}
use Rattle.lx_cli.specs.declared.reading.Stop.TheVariants.{End, ReadFault, WriteFault, Memory, TooLong}
use Rattle.lx_cli.specs.declared.status.Status.{Status}
use Rattle.lx_cli.specs.declared.status.Status.TheVariants as status
use Rattle.lx_cli.specs.Lines.{lines_ended, unended}
use Rattle.lx_cli.specs.Run.{SourceSeen, SinkSeen, IsFrontOfReplies}

-- All of these bytes went to the sink, and each write took one of them.
pub record AreWritten (bytes : List ℕ) (old new : SinkSeen) : Type 0 where
  pub appends : Appends old.taken new.taken bytes
  pub faults : new.faults ≡ old.faults
  pub writes : IsCounted old.writes new.writes (length bytes)

-- These bytes went to the sink, and then a write failed.
pub record AreCutOff (bytes : List ℕ) (old new : SinkSeen) : Type 0 where
  pub appends : Appends old.taken new.taken bytes
  pub faults : HasRisen old.faults new.faults
  pub writes : IsCounted old.writes new.writes (length bytes + 1)

-- A front of the piece went to the sink, and then a write failed.
pub record IsPieceCutOff (piece : List ℕ) (old new : SinkSeen) : Type 0 where
  pub written : List ℕ
  pub later : List ℕ
  pub front : written ++ later ≡ piece
  pub sink : AreCutOff written old new

-- what comes of a piece that is to be written
abbrev pub PieceEnds : Result Unit Failed → List ℕ → SinkSeen → SinkSeen → Type 0
PieceEnds (Ok done) piece old new = AreWritten piece old new
PieceEnds (Err failed) piece old new = IsPieceCutOff piece old new

-- All of the lines are answered, and the replies are written.
pub record AreAnswered (lines : List (List ℕ)) (old new : Served) (sink_old sink_new : SinkSeen) : Type 0 where
  pub written : List ℕ
  pub follows : FollowsInTo old lines written new
  pub few : spent new ≤ spent old + length lines
  pub sink : AreWritten written sink_old sink_new

-- A front of the replies is written, and then a write failed.
pub record AreLinesCutOff (lines : List (List ℕ)) (old : Served) (sink_old sink_new : SinkSeen) : Type 0 where
  pub written : List ℕ
  pub front : IsFrontOfReplies (FollowsIn old) lines written
  pub sink : AreCutOff written sink_old sink_new

-- A front of the replies is written, and then memory ran out.
pub record LackMemory (lines : List (List ℕ)) (old : Served) (sink_old sink_new : SinkSeen) : Type 0 where
  pub written : List ℕ
  pub front : IsFrontOfReplies (FollowsIn old) lines written
  pub sink : AreWritten written sink_old sink_new

-- why not all of the lines are answered
abbrev pub AreUnanswered : Unanswered → List (List ℕ) → Served → SinkSeen → SinkSeen → Type 0
AreUnanswered unanswered.WriteFault lines old sink_old sink_new = AreLinesCutOff lines old sink_old sink_new
AreUnanswered unanswered.Memory lines old sink_old sink_new = LackMemory lines old sink_old sink_new

-- what comes of lines that are to be answered
abbrev pub LinesEnd : Result Unit Unanswered → List (List ℕ) → Served → Served → SinkSeen → SinkSeen → Type 0
LinesEnd (Ok done) lines old new sink_old sink_new = AreAnswered lines old new sink_old sink_new
LinesEnd (Err why) lines old new sink_old sink_new = AreUnanswered why lines old sink_old sink_new

-- a session of a run that begins, with what its editor begins with
pub record IsNew (setup : Setup) (session : Session) : Type 0 where
  pub served : session.served ≡ new_served setup
  pub pending : session.pending.items ≡ []

-- no line end is among these bytes
pub record IsUnended (bytes : List ℕ) : Type 0 where
  pub none : lines_ended bytes ≡ []
  pub all : unended bytes ≡ bytes

-- The bytes came after those that waited: the lines that they ended are answered, and the rest waits.
pub record AreTaken (bytes : List ℕ) (old new : Session) (sink_old sink_new : SinkSeen) : Type 0 where
  pub answered : AreAnswered (lines_ended (old.pending.items ++ bytes)) old.served new.served sink_old sink_new
  pub waiting : new.pending.items ≡ unended (old.pending.items ++ bytes)

-- what comes of bytes after those that wait
abbrev pub BytesEnd : Result Unit Unanswered → List ℕ → Session → Session → SinkSeen → SinkSeen → Type 0
BytesEnd (Ok done) bytes old new sink_old sink_new = AreTaken bytes old new sink_old sink_new
BytesEnd (Err why) bytes old new sink_old sink_new =
    AreUnanswered why (lines_ended (old.pending.items ++ bytes)) old.served sink_old sink_new

-- These bytes were read, and each read gave one of them.
pub record AreRead (bytes : List ℕ) (old new : SourceSeen) : Type 0 where
  pub consumes : Consumes old.left new.left bytes
  pub faults : new.faults ≡ old.faults
  pub reads : IsCounted old.reads new.reads (length bytes)

-- These bytes were read, and then a read found the end.
pub record AreReadToEnd (bytes : List ℕ) (old new : SourceSeen) : Type 0 where
  pub consumes : Consumes old.left new.left bytes
  pub at_end : IsAtEnd new.left
  pub faults : new.faults ≡ old.faults
  pub reads : IsCounted old.reads new.reads (length bytes + 1)

-- These bytes were read, and then a read failed.
pub record AreBrokenOff (bytes : List ℕ) (old new : SourceSeen) : Type 0 where
  pub consumes : Consumes old.left new.left bytes
  pub faults : HasRisen old.faults new.faults
  pub reads : IsCounted old.reads new.reads (length bytes + 1)

-- what the session, the source and the sink are at one time
pub record Moment : Type 0 where
  pub session : Session
  pub source : SourceSeen
  pub sink : SinkSeen

-- These bytes, no more than may come, were read and taken.
pub record ReadsOn (may_come : ℕ) (bytes : List ℕ) (old new : Moment) : Type 0 where
  pub within : length bytes ≤ may_come
  pub source : AreRead bytes old.source new.source
  pub taken : AreTaken bytes old.session new.session old.sink new.sink

-- The input ended after these bytes, and they are taken.
pub record IsEnd (may_come : ℕ) (bytes : List ℕ) (old new : Moment) : Type 0 where
  pub within : length bytes ≤ may_come
  pub source : AreReadToEnd bytes old.source new.source
  pub taken : AreTaken bytes old.session new.session old.sink new.sink

-- A read failed after these bytes, and they are taken.
pub record IsBrokenOff (may_come : ℕ) (bytes : List ℕ) (old new : Moment) : Type 0 where
  pub within : length bytes ≤ may_come
  pub source : AreBrokenOff bytes old.source new.source
  pub taken : AreTaken bytes old.session new.session old.sink new.sink

-- These bytes were read, and not all of the lines are answered that those which may come ended.
pub record IsUnanswered (why : Unanswered) (may_come : ℕ) (bytes : List ℕ) (old new : Moment) : Type 0 where
  pub within : length bytes ≤ may_come + 1
  pub source : AreRead bytes old.source new.source
  pub unanswered :
      AreUnanswered why (lines_ended (old.session.pending.items ++ take may_come bytes)) old.session.served old.sink new.sink

-- One byte more than may come was read, and those before it are taken.
pub record IsPastLimit (may_come : ℕ) (bytes : List ℕ) (old new : Moment) : Type 0 where
  pub long : length bytes ≡ may_come + 1
  pub source : AreRead bytes old.source new.source
  pub taken : AreTaken (take may_come bytes) old.session new.session old.sink new.sink

-- why no more is read, where so many bytes may come and these came
abbrev pub Stops : Stop → ℕ → List ℕ → Moment → Moment → Type 0
Stops End may_come bytes old new = IsEnd may_come bytes old new
Stops ReadFault may_come bytes old new = IsBrokenOff may_come bytes old new
Stops WriteFault may_come bytes old new = IsUnanswered unanswered.WriteFault may_come bytes old new
Stops Memory may_come bytes old new = IsUnanswered unanswered.Memory may_come bytes old new
Stops TooLong may_come bytes old new = IsPastLimit may_come bytes old new

-- these three at one time
abbrev pub moment : Session → SourceSeen → SinkSeen → Moment
moment session source sink = record { session = session; source = source; sink = sink }

-- So many bytes, at least one, were read and taken.
pub record GoesOnBy (count may_come : ℕ) (old new : Moment) : Type 0 where
  pub some : 0 < count
  pub bytes : List ℕ
  pub counted : length bytes ≡ count
  pub goes_on : ReadsOn may_come bytes old new

-- No more is read, after some bytes.
pub record HasStopped (stop : Stop) (may_come : ℕ) (old new : Moment) : Type 0 where
  pub bytes : List ℕ
  pub stops : Stops stop may_come bytes old new

-- how a run ends where not all lines are answered
abbrev pub unanswered_status : Unanswered → Status
unanswered_status unanswered.WriteFault = status.WriteFault
unanswered_status unanswered.Memory = status.Memory

-- how a run ends where no more is read
abbrev pub stop_status : Stop → Status
stop_status End = status.Done
stop_status ReadFault = status.ReadFault
stop_status WriteFault = status.WriteFault
stop_status Memory = status.Memory
stop_status TooLong = status.InputTooLong
