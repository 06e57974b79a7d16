-- Whole runs.
use Rattle.std.proofs.Common.{◌≡◌, ◌≢◌, ℕ, true, false, ◌+◌, ◌<◌, ◌≤◌, ◌⊎◌, inl, inr, List, [], ◌++◌, length, take, sym, ap, ◌∙◌, refl, subst, length-append, arith}
use Rattle.lx_node.specs.Limits.{last_u32}
use Rattle.lx_io.specs.Devices.{Consumes, IsAtEnd, HasRisen, IsCounted, last_count}
use Rattle.lx_serving.specs.declared.setup.Setup.{Setup}
use Rattle.lx_arguments.specs.Arguments.{are_taken, asked_for}
use Rattle.lx_serving.specs.Served.{Served, spent}
use Rattle.lx_serving.proofs.Plain.{spent_new}
use Rattle.lx_cli.specs.declared.session.Session.{Session}
use Rattle.lx_cli.specs.declared.session.Unanswered.{Unanswered}
use Rattle.lx_cli.specs.declared.session.Unanswered.TheVariants as unanswered
use Rattle.lx_cli.specs.declared.reading.Stop.{Stop}
use Rattle.lx_cli.specs.declared.reading.Stop.TheVariants as stop
use Rattle.lx_cli.specs.declared.status.Status.{Status}
use Rattle.lx_cli.specs.declared.status.Status.TheVariants.{Done, Usage, ReadFault, Memory, InputTooLong}
use Rattle.lx_cli.specs.Lines.{lines_ended, unended, last_line, lines_of}
use Rattle.lx_cli.specs.Run.{served_with, setup_of, input_limit, SourceSeen, SinkSeen, Seen, Ends, IsAnsweredRun, IsServedRun}
use Rattle.lx_cli.specs.Steps.{AreAnswered, AreUnanswered, AreTaken, IsUnended, IsNew, Moment, IsEnd, IsBrokenOff, IsUnanswered, IsPastLimit, HasStopped, unanswered_status, stop_status}
use Rattle.lx_cli.proofs.Lines.{IsUnended-none, length-ended-le}
use Rattle.lx_cli.proofs.Devices.{Consumes-none, Appends-none, IsCounted-none, IsCounted-within, AreWritten-append}
use Rattle.lx_cli.proofs.Answering.{FollowsInTo-append, AreUnanswered-append}

-- a run with arguments
abbrev pub worded : List (List ℕ) → List ℕ → List ℕ → SourceSeen → SourceSeen → SinkSeen → SinkSeen → Seen
worded words read written q r s t = record {
  words = words;
  read = read;
  written = written;
  source_before = q;
  source_after = r;
  sink_before = s;
  sink_after = t;
}

pub HasRisen-not : (old new : ℕ) → HasRisen old new → new ≡ old → old < last_count → ⊥
HasRisen-not old new risen same below = elim risen [ inl p ↦ omega arith | inr p ↦ omega arith ]

-- a run that did nothing, where nothing is the reply to no lines
pub IsAnsweredRun-none : (AreReplies : List (List ℕ) → List ℕ → Type 0) → AreReplies [] []
    → (words : List (List ℕ)) (q : SourceSeen) (s : SinkSeen) → IsAnsweredRun AreReplies Memory (worded words [] [] q q s s)
unfolding Ends
IsAnsweredRun-none AreReplies none words q s = record {
  ends = record {
    taken = inr (refl, refl);
    lines = lines_ended (take input_limit []);
    may = inl refl;
    front = record {
      answered = [];
      later_lines = lines_ended (take input_limit []);
      front = refl;
      replies = [];
      later_bytes = [];
      follows = none;
      begun = refl;
    };
    faultless = record { source = refl; sink = refl };
  };
  consumes = Consumes-none q.left;
  appends = Appends-none s.taken;
  bounded = omega arith;
  reads = IsCounted-none q.reads 1;
  writes = IsCounted-none s.writes 1;
  complete = λ taken faults short. inr refl;
}

pub IsAnsweredRun-usage : (AreReplies : List (List ℕ) → List ℕ → Type 0) (words : List (List ℕ)) (q : SourceSeen) (s : SinkSeen) → are_taken words ≡ false
    → IsAnsweredRun AreReplies Usage (worded words [] [] q q s s)
unfolding Ends
IsAnsweredRun-usage AreReplies words q s refused = record {
  ends = record {
    refused = refused;
    read = refl;
    written = refl;
    source = refl;
    sink = refl;
  };
  consumes = Consumes-none q.left;
  appends = Appends-none s.taken;
  bounded = omega arith;
  reads = IsCounted-none q.reads 1;
  writes = IsCounted-none s.writes 1;
  complete = λ taken faults short. absurd (cc);
}

pub IsUnended-new : (setup : Setup) (session : Session) → IsNew setup session → IsUnended session.pending.items
IsUnended-new options session new = subst IsUnended (sym new.pending) IsUnended-none

-- there are numbers for a last line
pub spent-end : (setup : Setup) (a b : Moment) (read : List ℕ) → IsNew setup a.session → IsEnd input_limit read a b → spent b.session.served < last_u32
spent-end options a b read new p =
    let waits = a.session.pending.items in
    omega (
      arith,
      length-ended-le (waits ++ read),
      length-append waits read,
      ap length new.pending,
      ap spent new.served ∙ spent_new options,
      p.taken.answered.few,
      p.within,
    )

module _ (words : List (List ℕ)) (is_taken : are_taken words ≡ true) where
  -- so it ended, whatever was written
  abbrev pub Ran : Status → List ℕ → SourceSeen → SourceSeen → SinkSeen → SinkSeen → Type 0
  Ran status read q r s t = (written : List ℕ) × IsServedRun status (worded words read written q r s t)

  -- what is taken in a run from its begin
  taken_new : (a b : Session) (s t : SinkSeen) (bytes : List ℕ) → IsNew (setup_of (asked_for words)) a → AreTaken bytes a b s t
      → AreAnswered (lines_ended bytes) (served_with words) b.served s t
  taken_new a b s t bytes new p =
      subst (λ (served : Served). AreAnswered (lines_ended bytes) served b.served s t) new.served
      (subst (λ (waits : List ℕ). AreAnswered (lines_ended (waits ++ bytes)) a.served b.served s t) new.pending p.answered)

  waiting_new : (a b : Session) (s t : SinkSeen) (bytes : List ℕ) → IsNew (setup_of (asked_for words)) a → AreTaken bytes a b s t → b.pending.items ≡ unended bytes
  waiting_new a b s t bytes new p = p.waiting ∙ ap (λ waits. unended (waits ++ bytes)) new.pending

  pub Ran-done : (a b : Moment) (end : Served) (t : SinkSeen) (read : List ℕ) → IsNew (setup_of (asked_for words)) a.session → IsEnd input_limit read a b
      → AreAnswered (last_line b.session.pending.items) b.session.served end b.sink t
      → Ran Done read a.source b.source a.sink t
  unfolding Ends
  Ran-done a b end t read new p q =
      let lines = taken_new a.session b.session a.sink b.sink read new p.taken in
      let last : AreAnswered (last_line (unended read)) b.session.served end b.sink t =
      subst (λ (waits : List ℕ). AreAnswered (last_line waits) b.session.served end b.sink t)
      (waiting_new a.session b.session a.sink b.sink read new p.taken) q in
      let sink = AreWritten-append a.sink b.sink t lines.written last.written lines.sink last.sink in
      let written : List ℕ = lines.written ++ last.written in (
        written,
        record {
          ends = record {
            taken = is_taken;
            at_end = p.source.at_end;
            short = p.within;
            follows = (
              end,
              FollowsInTo-append (served_with words) b.session.served end (lines_ended read) (last_line (unended read)) lines.written last.written
                  lines.follows last.follows,
            );
            faultless = record { source = p.source.faults; sink = sink.faults };
          };
          consumes = p.source.consumes;
          appends = sink.appends;
          bounded = omega (arith, p.within);
          reads = p.source.reads;
          writes = IsCounted-within a.sink.writes t.writes (length written) (length written + 1) (omega arith) sink.writes;
          complete = λ all faults short. inl refl;
        },
      )

  pub Ran-read_fault : (a b : Moment) (read : List ℕ) → IsNew (setup_of (asked_for words)) a.session → IsBrokenOff input_limit read a b
      → Ran ReadFault read a.source b.source a.sink b.sink
  unfolding Ends
  Ran-read_fault a b read new p =
      let lines = taken_new a.session b.session a.sink b.sink read new p.taken in (
        lines.written,
        record {
          ends = record {
            taken = is_taken;
            short = p.within;
            follows = (b.session.served, lines.follows);
            source = p.source.faults;
            sink = lines.sink.faults;
          };
          consumes = p.source.consumes;
          appends = lines.sink.appends;
          bounded = omega (arith, p.within);
          reads = p.source.reads;
          writes = IsCounted-within a.sink.writes b.sink.writes (length lines.written) (length lines.written + 1) (omega arith) lines.sink.writes;
          complete = λ all faults short. absurd (HasRisen-not a.source.faults b.source.faults p.source.faults faults.faultless.source faults.source);
        },
      )

  pub Ran-too_long : (a b : Moment) (read : List ℕ) → IsNew (setup_of (asked_for words)) a.session → IsPastLimit input_limit read a b
      → Ran InputTooLong read a.source b.source a.sink b.sink
  unfolding Ends
  Ran-too_long a b read new p =
      let lines = taken_new a.session b.session a.sink b.sink (take input_limit read) new p.taken in (
        lines.written,
        record {
          ends = record {
            taken = is_taken;
            long = p.long;
            follows = (b.session.served, lines.follows);
            faultless = record { source = p.source.faults; sink = lines.sink.faults };
          };
          consumes = p.source.consumes;
          appends = lines.sink.appends;
          bounded = omega (arith, p.long);
          reads = IsCounted-within a.source.reads b.source.reads (length read) (length read + 1) (omega arith) p.source.reads;
          writes = IsCounted-within a.sink.writes b.sink.writes (length lines.written) (length lines.written + 1) (omega arith) lines.sink.writes;
          complete = λ all faults short. absurd (omega (arith, p.long));
        },
      )

  ran_unanswered : (why : Unanswered) (q r : SourceSeen) (s t : SinkSeen) (read : List ℕ) (lines : List (List ℕ))
      → length read ≤ input_limit + 1 → Consumes q.left r.left read → r.faults ≡ q.faults → IsCounted q.reads r.reads (length read + 1)
      → (lines ≡ lines_ended (take input_limit read)) ⊎ (IsAtEnd r.left × (length read ≤ input_limit) × (lines ≡ lines_of read))
      → AreUnanswered why lines (served_with words) s t → Ran (unanswered_status why) read q r s t
  unfolding Ends
  ran_unanswered unanswered.WriteFault q r s t read lines bounded consumes faults reads may p = (
    p.written,
    record {
      ends = record { taken = is_taken; lines = lines; may = may; front = p.front; source = faults; sink = p.sink.faults };
      consumes = consumes;
      appends = p.sink.appends;
      bounded = bounded;
      reads = reads;
      writes = p.sink.writes;
      complete = λ all none short. absurd (HasRisen-not s.faults t.faults p.sink.faults none.faultless.sink none.sink);
    },
  )
  ran_unanswered unanswered.Memory q r s t read lines bounded consumes faults reads may p = (
    p.written,
    record {
      ends = record { taken = inl is_taken; lines = lines; may = may; front = p.front; faultless = record { source = faults; sink = p.sink.faults } };
      consumes = consumes;
      appends = p.sink.appends;
      bounded = bounded;
      reads = reads;
      writes = IsCounted-within s.writes t.writes (length p.written) (length p.written + 1) (omega arith) p.sink.writes;
      complete = λ all none short. inr refl;
    },
  )

  -- where a line that had ended is not answered
  pub Ran-unanswered : (why : Unanswered) (a b : Moment) (read : List ℕ) → IsNew (setup_of (asked_for words)) a.session → IsUnanswered why input_limit read a b
      → Ran (unanswered_status why) read a.source b.source a.sink b.sink
  Ran-unanswered why a b read new p =
      let may = take input_limit read in
      let lines : AreUnanswered why (lines_ended may) (served_with words) a.sink b.sink =
      subst (λ (served : Served). AreUnanswered why (lines_ended may) served a.sink b.sink) new.served
      (subst (λ (waits : List ℕ). AreUnanswered why (lines_ended (waits ++ may)) a.session.served a.sink b.sink) new.pending p.unanswered) in
      ran_unanswered why a.source b.source a.sink b.sink read (lines_ended may) p.within p.source.consumes p.source.faults
      (IsCounted-within a.source.reads b.source.reads (length read) (length read + 1) (omega arith) p.source.reads)
      (inl refl) lines

  -- where the last line is not answered
  pub Ran-last_unanswered : (why : Unanswered) (a b : Moment) (t : SinkSeen) (read : List ℕ) → IsNew (setup_of (asked_for words)) a.session → IsEnd input_limit read a b
      → AreUnanswered why (last_line b.session.pending.items) b.session.served b.sink t
      → Ran (unanswered_status why) read a.source b.source a.sink t
  Ran-last_unanswered why a b t read new p q =
      let lines = taken_new a.session b.session a.sink b.sink read new p.taken in
      let last : AreUnanswered why (last_line (unended read)) b.session.served b.sink t =
      subst (λ (waits : List ℕ). AreUnanswered why (last_line waits) b.session.served b.sink t)
      (waiting_new a.session b.session a.sink b.sink read new p.taken) q in
      ran_unanswered why a.source b.source a.sink t read (lines_of read) (omega (arith, p.within)) p.source.consumes p.source.faults p.source.reads
      (inr (p.source.at_end, p.within, refl))
      (AreUnanswered-append why (served_with words) b.session.served a.sink b.sink t (lines_ended read) (last_line (unended read)) lines last)

  stopped : (why : Stop) (a b : Moment) → IsNew (setup_of (asked_for words)) a.session → why ≢ stop.End → HasStopped why input_limit a b
      → (read written : List ℕ) × IsServedRun (stop_status why) (worded words read written a.source b.source a.sink b.sink)
  stopped stop.End a b new early p = absurd (early refl)
  stopped stop.ReadFault a b new early p = let run = Ran-read_fault a b p.bytes new p.stops in (p.bytes, run.0, run.1)
  stopped stop.WriteFault a b new early p = let run = Ran-unanswered unanswered.WriteFault a b p.bytes new p.stops in (p.bytes, run.0, run.1)
  stopped stop.Memory a b new early p = let run = Ran-unanswered unanswered.Memory a b p.bytes new p.stops in (p.bytes, run.0, run.1)
  stopped stop.TooLong a b new early p = let run = Ran-too_long a b p.bytes new p.stops in (p.bytes, run.0, run.1)

  -- where no more was read before the end
  pub HasRun-stopped : (r : Status) (why : Stop) (a b : Moment) → r ≡ stop_status why → IsNew (setup_of (asked_for words)) a.session → why ≢ stop.End
      → HasStopped why input_limit a b
      → (read written : List ℕ) × IsServedRun r (worded words read written a.source b.source a.sink b.sink)
  HasRun-stopped r why a b is new early p =
      subst (λ (r : Status). (read written : List ℕ) × IsServedRun r (worded words read written a.source b.source a.sink b.sink)) (sym is)
      (stopped why a b new early p)

  pub HasRun-done : (a b : Moment) (end : Served) (t : SinkSeen) → IsNew (setup_of (asked_for words)) a.session → HasStopped stop.End input_limit a b
      → AreAnswered (last_line b.session.pending.items) b.session.served end b.sink t
      → (read written : List ℕ) × IsServedRun Done (worded words read written a.source b.source a.sink t)
  HasRun-done a b end t new p q = let run = Ran-done a b end t p.bytes new p.stops q in (p.bytes, run.0, run.1)

  pub HasRun-last_unanswered : (r : Status) (why : Unanswered) (a b : Moment) (t : SinkSeen) → r ≡ unanswered_status why → IsNew (setup_of (asked_for words)) a.session
      → HasStopped stop.End input_limit a b
      → AreUnanswered why (last_line b.session.pending.items) b.session.served b.sink t
      → (read written : List ℕ) × IsServedRun r (worded words read written a.source b.source a.sink t)
  HasRun-last_unanswered r why a b t is new p q =
      let run = Ran-last_unanswered why a b t p.bytes new p.stops q in
      subst (λ (r : Status). (read written : List ℕ) × IsServedRun r (worded words read written a.source b.source a.sink t)) (sym is) (p.bytes, run.0, run.1)
