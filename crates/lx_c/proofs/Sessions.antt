-- Runs over memory.
use Rattle.std.proofs.Common.{◌≡◌, ◌⊎◌, inl, inr, ℕ, Option, Some, List, [], take, refl, sym, ap, ◌∙◌, subst}
use Rattle.lx_io.specs.Devices.{Appends}
use Rattle.lx_arguments.specs.declared.options.Mode.{Mode}
use Rattle.lx_arguments.specs.declared.options.Mode.TheVariants.{Plain, Hub, Outline, Generate}
use Rattle.lx_cli.specs.Generating.{mode_for, RunsBy, RunsAsAsked}
use Rattle.lx_cli.specs.Run.{SourceSeen, SinkSeen, Seen}
use Rattle.lx_cli.specs.Ends.{number_of_status}
use Rattle.lx_cli.specs.declared.status.Status.{Status}
use Rattle.lx_cli.specs.declared.status.Status.TheVariants.{Memory}
use Rattle.lx_cli.proofs.Generating.{RunsAsAsked-none}
use Rattle.lx_cli.proofs.Runs.{worded}
use Rattle.lx_c.specs.Sessions.{unread, unwritten, HasRun, IsAnswered}

-- a sink in memory that has taken these bytes
abbrev pub with_taken : List ℕ → ℕ → Option ℕ → SinkSeen
with_taken taken faults writes = record { taken = Some taken; faults = faults; writes = writes }

appended : (mode : Mode) (status : Status) (seen : Seen) → RunsBy mode status seen → Appends seen.sink_before.taken seen.sink_after.taken seen.written
appended Plain status seen run = run.appends
appended Hub status seen run = run.appends
appended Outline status seen run = run.appends
appended (Generate session) status seen run = run.appends

-- what a run over memory wrote is what its sink has taken
pub has_run : (status : Status) (input read written taken : List ℕ) (after : SourceSeen) (faults : ℕ) (writes : Option ℕ)
    → RunsAsAsked status (worded [] read written (unread input) after unwritten (with_taken taken faults writes)) → HasRun status input taken
has_run status input read written taken after faults writes run = record {
  seen = worded [] read written (unread input) after unwritten (with_taken taken faults writes);
  words = refl;
  source = refl;
  sink = refl;
  replies = sym (appended (mode_for []) status (worded [] read written (unread input) after unwritten (with_taken taken faults writes)) run);
  run = run;
}

-- a run that did nothing, since memory was wanting
pub has_run_none : (input : List ℕ) → HasRun Memory input []
has_run_none input = record {
  seen = worded [] [] [] (unread input) (unread input) unwritten unwritten;
  words = refl;
  source = refl;
  sink = refl;
  replies = refl;
  run = RunsAsAsked-none [] (unread input) unwritten;
}

-- what is answered of a run, where its replies were put into the output, or didn't fit
pub answered : (number : ℕ) (status ended : Status) (input output taken : List ℕ) (count : ℕ) → number ≡ number_of_status status → HasRun ended input taken
    → ((status ≡ ended) × (take count output ≡ taken)) ⊎ ((status ≡ Memory) × (count ≡ 0)) → IsAnswered number input (take count output)
answered number status ended input output taken count told run put = elim put [
  | inl p ↦ record {
    status = ended;
    told = told ∙ ap number_of_status p.0;
    run = subst (λ written. HasRun ended input written) (sym p.1) run;
  }
  | inr p ↦ record {
    status = Memory;
    told = told ∙ ap number_of_status p.0;
    run = subst (λ n. HasRun Memory input (take n output)) (sym p.1) (has_run_none input);
  }
]

-- what is answered where memory was wanting before the run
pub answered_none : (number : ℕ) (input output : List ℕ) → number ≡ number_of_status Memory → IsAnswered number input (take 0 output)
answered_none number input output told = record { status = Memory; told = told; run = has_run_none input }
