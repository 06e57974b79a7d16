-- What a line makes of a draft: its own steps, or the dispatch that it is, and then what they have queued.
use Rattle.std.specs.Prelude.{◌≡◌, ℕ, ◌+◌, ◌==◌, ◌&&◌, Bool, true, false, if◌then◌else◌, List, [], ◌∷◌, Option, None, Some, Result, Ok, Err}
use Rattle.lx_node.specs.declared.cause.Cause.{Cause}
use Rattle.lx_node.specs.declared.cause.Cause.TheVariants.{BadCommand, HistoryInside}
use Rattle.lx_step.specs.BuiltIns.{built_in as built_in_of}
use Rattle.lx_step.specs.declared.built_in.BuiltIn.{BuiltIn}
use Rattle.lx_step.specs.declared.built_in.BuiltIn.TheVariants as built_in
use Rattle.lx_step.specs.declared.built_in.Turn.{Turn}
use Rattle.lx_step.specs.declared.command.Command.{Command}
use Rattle.lx_step.specs.declared.command.Payload.{Payload}
use Rattle.lx_step.specs.declared.command.Payload.TheVariants.{Nothing}
use Rattle.lx_step.specs.declared.listener.Listener.{Listener}
use Rattle.lx_step.specs.declared.step.Step.{Step}
use Rattle.lx_bus.specs.Offers.{above}
use Rattle.lx_node.specs.Limits.{most_counts}
use Rattle.lx_select.specs.Same.{same_selection}
use Rattle.lx_select.specs.declared.selection.Selection.{Selection}
use Rattle.lx_draft.specs.Working.{Working}
use Rattle.lx_draft.specs.Covering.{IsReady, AreCovered}
use Rattle.lx_draft.specs.Faults.{after}
use Rattle.lx_draft.specs.Steps.{count_step}
use Rattle.lx_update.specs.Naming.{no_names}
use Rattle.lx_update.specs.Refusals.{Refused, at_step, at_none, refused_or}
use Rattle.lx_update.specs.Running.{Running, Queued, running, take_count, step_in, sends_nothing, offered, dispatched, most_nested, emptied}
use Rattle.lx_update.specs.Scripts.{scripted}
use Rattle.lx_update.specs.declared.ending.Ended.{Ended as Told}
use Rattle.lx_update.specs.declared.ending.Ended.TheVariants as told
use Rattle.lx_update.specs.declared.ending.Ending.{Ending}
use Rattle.lx_update.specs.declared.ending.Ending.TheVariants.{Left, Turned}

-- a draft as a line finds it: no node has a name, and nothing is queued
abbrev pub at_first : Working → Running
at_first w = running (scripted w no_names) []

-- the steps of the line's own script run, the first of which has this index
unfoldable pub script_from : ℕ → List Listener → List Step → Running → Result Running Refused
script_from index ls [] m = Ok m
script_from index ls (first ∷ rest) m =
    refused_or (at_step index (step_in (dispatched most_nested ls) Nothing first m)) (script_from (index + 1) ls rest)

-- What is queued runs last, for which no step is refused. Each list of steps that is queued came with a count, so that after
-- as many lists as there may be counts none is left.
abbrev pub queue_run : List Listener → Running → Result Running Refused
queue_run ls m = at_none (emptied most_counts ls m)

-- the steps of a line run, with these listeners, and then what they have queued
unfoldable pub steps_run : List Listener → List Step → Working → Result Running Refused
steps_run ls steps w = refused_or (script_from 0 ls steps (at_first w)) (queue_run ls)

-- Steps that wait for a line which commits them take a count as they begin, for which no step is refused.
unfoldable pub deferred_run : List Listener → List Step → Working → Result Running Refused
deferred_run ls steps w = refused_or (at_none (count_step w)) (steps_run ls steps)

-- ---- a dispatch that is a line

-- What a dispatch that is a line comes to: what is worked on, and whether it was handled; or the history goes to
-- another state.
pub data Ended : Type 0 where
  ran : Running → Bool → Ended
  turned : Turn → Ended

-- what a dispatch that is a line comes to, read from what a call answers and what is worked on after it
abbrev pub ended_with : Told → Running → Ended
ended_with (told.Ran handled) m = ran m handled
ended_with (told.Turned turn) m = turned turn

-- which way the history goes, where the command is one of its own
abbrev pub turn_of : Option BuiltIn → Option Turn
turn_of None = None
turn_of (Some (built_in.Turn turn)) = Some turn
turn_of (Some (built_in.Caret command)) = None
turn_of (Some (built_in.List command)) = None
turn_of (Some (built_in.Table command)) = None

-- whether no edit was taken, the selection is the one that is committed, and nothing is queued
abbrev pub is_untouched : Selection → Running → Bool
is_untouched committed m =
    (m.script.draft.edits == 0) && (same_selection m.script.draft.selection committed && is_empty m.queue)
  where
    is_empty : List Queued → Bool
    is_empty [] = true
    is_empty (q ∷ queue) = false

-- The line has reached the history's command, which takes no payload. The history goes there unless the line has done
-- something already.
abbrev pub reached : Turn → Payload → Selection → Running → Result Ended Cause
reached turn sent committed m =
    if sends_nothing sent then (if is_untouched committed m then Ok (turned turn) else Err HistoryInside) else Err BadCommand

-- what is done then where the listeners haven't handled the command
abbrev pub unless_stopped : (Running → Result Ended Cause) → Running × Bool → Result Ended Cause
unless_stopped next r = if r.1 then Ok (ran r.0 true) else next r.0

-- how many dispatches may nest in that of a line
abbrev pub most_inside : ℕ
most_inside = 63

-- A command of the history is offered to the listeners above it, then takes its count, and is reached. Any other is
-- dispatched as among steps.
abbrev pub command_ended : Option Turn → List Listener → Command → Running → Result Ended Cause
command_ended None ls c m = after (dispatched most_nested ls c.name c.payload m) (λ r. Ok (ran r.0 r.1))
command_ended (Some turn) ls c m =
    after (offered (dispatched most_inside ls) c.payload (above c.name ls) m)
    (unless_stopped (λ n. after (take_count n) (reached turn c.payload m.script.draft.selection)))

-- the dispatch of a line once it has taken its count
abbrev pub dispatch_begun : List Listener → Command → Running → Result Ended Cause
dispatch_begun ls c m = after (take_count m) (command_ended (turn_of (built_in_of c.name)) ls c)

-- what a dispatch has queued runs last, and whether it was handled stays
abbrev pub dispatch_ended : List Listener → Ended → Result Ended Refused
dispatch_ended ls (ran m handled) = refused_or (queue_run ls m) (λ n. Ok (ran n handled))
dispatch_ended ls (turned turn) = Ok (turned turn)

-- A dispatch that is a line: it is the line's only step, with index 0, and takes its count.
unfoldable pub dispatch_run : List Listener → Command → Working → Result Ended Refused
dispatch_run ls c w = refused_or (at_step 0 (dispatch_begun ls c (at_first w))) (dispatch_ended ls)

-- ---- what is left

-- the draft that steps leave, unless they are refused
abbrev pub left_draft : Result Running Refused → Result Working Refused
left_draft (Ok m) = Ok m.script.draft
left_draft (Err refused) = Err refused

-- what is left of a dispatch: a draft, with whether it was handled, or the turn of the history
abbrev pub ending_of : Ended → Ending
ending_of (ran m handled) = Left m.script.draft handled
ending_of (turned turn) = Turned turn

-- what is left of a dispatch that may have been refused
abbrev pub answer_drafted : Result Ended Refused → Result Ending Refused
answer_drafted (Ok ended) = Ok (ending_of ended)
answer_drafted (Err refused) = Err refused

-- the marks of a draft that is left cover what became of it
abbrev pub IsEndingCovered : Working → Ending → Type 0
IsEndingCovered w (Left v handled) = IsReady w → AreCovered w v
IsEndingCovered w (Turned turn) = Unit {0}

-- nothing is queued any more after steps that weren't refused
abbrev pub IsEmptied : Result Running Refused → Type 0
IsEmptied (Ok m) = m.queue ≡ []
IsEmptied (Err refused) = Unit {0}

-- nothing is queued any more after a dispatch that wasn't refused
abbrev pub IsAnswerEmptied : Result Ended Refused → Type 0
IsAnswerEmptied (Ok (ran m handled)) = m.queue ≡ []
IsAnswerEmptied (Ok (turned turn)) = Unit {0}
IsAnswerEmptied (Err refused) = Unit {0}
