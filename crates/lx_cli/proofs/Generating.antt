-- Runs as their arguments have them, and runs that generate a session.
use Rattle.std.proofs.Common.{◌≡◌, ◌∙◌, ℕ, true, false, ◌+◌, inl, inr, List, [], ◌∷◌, ◌++◌, length, refl, ap, sym, subst, arith}
use Rattle.lx_arguments.specs.declared.options.Generated.{Generated}
use Rattle.lx_arguments.specs.declared.options.Mode.{Mode}
use Rattle.lx_arguments.specs.declared.options.Options.{Options}
use Rattle.lx_arguments.specs.declared.options.Mode.TheVariants.{Plain, Hub, Outline, Generate}
use Rattle.lx_arguments.specs.Arguments.{are_taken, asked_for, delay_asked}
use Rattle.lx_generator.specs.Sessions.{IsSummary}
use Rattle.lx_cli.specs.declared.status.Status.{Status}
use Rattle.lx_cli.specs.declared.status.Status.TheVariants.{Done, Usage, ReadFault, WriteFault, Memory, InputTooLong}
use Rattle.lx_editor.specs.Follows.{Follows}
use Rattle.lx_serving.specs.Served.{Served, FollowsIn, new_layer, with_nothing}
use Rattle.lx_serving.proofs.Plain.{follows_plain}
use Rattle.lx_cli.specs.Run.{begun_with, beside_in, served_with, setup_of, SourceSeen, SinkSeen, Seen, Ends, IsAnsweredRun, IsFrontOfReplies, IsRun, IsServedRun}
use Rattle.lx_cli.specs.Steps.{AreWritten, IsPieceCutOff}
use Rattle.lx_cli.specs.Generating.{GeneratedEnds, IsGeneratedRun, RunsAsAsked, RunsBy, mode_for}
use Rattle.lx_cli.proofs.Devices.{Appends-none, IsCounted-none, IsCounted-within}
use Rattle.lx_cli.proofs.Runs.{HasRisen-not, IsAnsweredRun-none, worded}

-- ---- runs as their arguments have them

-- arguments that are taken
pub RunsAsAsked-taken : (mode : Mode) (status : Status) (run : Seen) → are_taken run.words ≡ true → (asked_for run.words).mode ≡ mode
    → RunsBy mode status run → RunsAsAsked status run
RunsAsAsked-taken mode status run taken is runs = rw (taken, is) runs

-- arguments that are refused
pub RunsAsAsked-refused : (status : Status) (run : Seen) → are_taken run.words ≡ false → IsRun status run → RunsAsAsked status run
RunsAsAsked-refused status run refused runs = rw refused runs

-- ---- runs with nothing beside the editor

front_along : (A B : List (List ℕ) → List ℕ → Type 0) → ((lines : List (List ℕ)) (bytes : List ℕ) → A lines bytes → B lines bytes)
    → (lines : List (List ℕ)) (written : List ℕ) → IsFrontOfReplies A lines written → IsFrontOfReplies B lines written
front_along A B goes lines written p = record {
  answered = p.answered;
  later_lines = p.later_lines;
  front = p.front;
  replies = p.replies;
  later_bytes = p.later_bytes;
  follows = goes p.answered p.replies p.follows;
  begun = p.begun;
}

ends_along : (A B : List (List ℕ) → List ℕ → Type 0) → ((lines : List (List ℕ)) (bytes : List ℕ) → A lines bytes → B lines bytes)
    → (status : Status) (run : Seen) → Ends A status run → Ends B status run
unfolding Ends
ends_along A B goes Done run p = record { taken = p.taken; at_end = p.at_end; short = p.short; follows = goes _ _ p.follows; faultless = p.faultless }
ends_along A B goes Usage run p = p
ends_along A B goes ReadFault run p = record { taken = p.taken; short = p.short; follows = goes _ _ p.follows; source = p.source; sink = p.sink }
ends_along A B goes WriteFault run p =
    record { taken = p.taken; lines = p.lines; may = p.may; front = front_along A B goes p.lines run.written p.front; source = p.source; sink = p.sink }
ends_along A B goes Memory run p =
    record { taken = p.taken; lines = p.lines; may = p.may; front = front_along A B goes p.lines run.written p.front; faultless = p.faultless }
ends_along A B goes InputTooLong run p = record { taken = p.taken; long = p.long; follows = goes _ _ p.follows; faultless = p.faultless }

-- where these bytes are replies to lines, those are too
answered_along : (A B : List (List ℕ) → List ℕ → Type 0) → ((lines : List (List ℕ)) (bytes : List ℕ) → A lines bytes → B lines bytes)
    → (status : Status) (run : Seen) → IsAnsweredRun A status run → IsAnsweredRun B status run
answered_along A B goes status run p = record {
  ends = ends_along A B goes status run p.ends;
  consumes = p.consumes;
  appends = p.appends;
  bounded = p.bounded;
  reads = p.reads;
  writes = p.writes;
  complete = p.complete;
}

-- what the editor begins with, by the mode that the arguments ask for
pub setup_asked : (options : Options) (mode : Mode) (words : List (List ℕ)) → options ≡ asked_for words → options.mode ≡ mode
    → record { beside = beside_in mode; view = options.view; delay = options.delay } ≡ setup_of (asked_for words)
setup_asked options mode words asked is =
    ap (λ (m : Mode). record { beside = beside_in m; view = options.view; delay = options.delay }) (sym is) ∙ ap setup_of asked

-- arguments that ask for no mode have nothing beside the editor
served_plain : (words : List (List ℕ)) → (asked_for words).mode ≡ Plain → served_with words ≡ with_nothing (begun_with words)
served_plain words is = ap (λ (m : Mode). record { editor = begun_with words; layer = new_layer (beside_in m) }) is

-- arguments that are taken, and ask for no mode
pub RunsAsAsked-plain : (status : Status) (run : Seen) → are_taken run.words ≡ true → (asked_for run.words).mode ≡ Plain
    → IsServedRun status run → RunsAsAsked status run
RunsAsAsked-plain status run taken is runs =
    let plainly : IsAnsweredRun (FollowsIn (with_nothing (begun_with run.words))) status run =
    subst (λ (s : Served). IsAnsweredRun (FollowsIn s) status run) (served_plain run.words is) runs in
    RunsAsAsked-taken Plain status run taken is
    (answered_along (FollowsIn (with_nothing (begun_with run.words))) (Follows (begun_with run.words)) (follows_plain (begun_with run.words)) status run plainly)

-- ---- sessions that are generated

-- memory ran out for the session
pub IsGeneratedRun-none : (session : Generated) (words : List (List ℕ)) (q : SourceSeen) (s : SinkSeen)
    → IsGeneratedRun Memory session (worded words [] [] q q s s)
unfolding GeneratedEnds
IsGeneratedRun-none session words q s = record {
  ends = record { written = refl; faultless = record { source = refl; sink = refl } };
  read = refl;
  source = refl;
  appends = Appends-none s.taken;
  writes = IsCounted-none s.writes 1;
  complete = λ faultless below. inr refl;
}

-- memory ran out before the arguments were read, whatever they ask for
pub RunsAsAsked-none : (words : List (List ℕ)) (q : SourceSeen) (s : SinkSeen) → RunsAsAsked Memory (worded words [] [] q q s s)
RunsAsAsked-none words q s = go (mode_for words)
  where
    go : (mode : Mode) → RunsBy mode Memory (worded words [] [] q q s s)
    go Plain = IsAnsweredRun-none (Follows (begun_with words)) (begun_with words, (refl, refl)) words q s
    go Hub = IsAnsweredRun-none (FollowsIn (served_with words)) (served_with words, (refl, refl)) words q s
    go Outline = IsAnsweredRun-none (FollowsIn (served_with words)) (served_with words, (refl, refl)) words q s
    go (Generate session) = IsGeneratedRun-none session words q s

-- the summary and a line end are written
pub IsGeneratedRun-done : (session : Generated) (words : List (List ℕ)) (summary : List ℕ) (q : SourceSeen) (s t : SinkSeen)
    → IsSummary session (delay_asked words) summary → AreWritten (summary ++ 10 ∷ []) s t
    → IsGeneratedRun Done session (worded words [] (summary ++ 10 ∷ []) q q s t)
unfolding GeneratedEnds
IsGeneratedRun-done session words summary q s t told written = record {
  ends = record { summary = summary; told = told; written = refl; faultless = record { source = refl; sink = written.faults } };
  read = refl;
  source = refl;
  appends = written.appends;
  writes = IsCounted-within s.writes t.writes (length (summary ++ 10 ∷ [])) (length (summary ++ 10 ∷ []) + 1) (omega arith) written.writes;
  complete = λ faultless below. inl refl;
}

-- they are cut off
pub IsGeneratedRun-cut_off : (session : Generated) (words : List (List ℕ)) (summary : List ℕ) (q : SourceSeen) (s t : SinkSeen)
    → IsSummary session (delay_asked words) summary → (cut : IsPieceCutOff (summary ++ 10 ∷ []) s t)
    → IsGeneratedRun WriteFault session (worded words [] cut.written q q s t)
unfolding GeneratedEnds
IsGeneratedRun-cut_off session words summary q s t told cut = record {
  ends = record { summary = summary; later = cut.later; told = told; front = cut.front; sink = cut.sink.faults };
  read = refl;
  source = refl;
  appends = cut.sink.appends;
  writes = cut.sink.writes;
  complete = λ faultless below. absurd (HasRisen-not s.faults t.faults cut.sink.faults faultless.sink below);
}
