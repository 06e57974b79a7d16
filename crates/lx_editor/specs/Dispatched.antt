-- What a dispatch makes of an editor, and what a listener does that is registered.
use Rattle.std.specs.Prelude.{◌≡◌, ◌<◌, ℕ, ◌+◌, ◌++◌, Bool, true, false, if◌then◌else◌, List, [], ◌∷◌, length, Option, Some, Result, Ok, Err}
use Rattle.lx_node.specs.declared.cause.Cause.{Cause}
use Rattle.lx_node.specs.declared.cause.Cause.TheVariants.{HistoryInside, TooManyRules}
use Rattle.lx_step.specs.declared.command.Command.{Command}
use Rattle.lx_step.specs.declared.listener.Listener.{Listener}
use Rattle.lx_bus.specs.Offers.{most_listeners}
use Rattle.lx_draft.specs.Working.{Working}
use Rattle.lx_update.specs.Lines.{dispatch_run, answer_drafted}
use Rattle.lx_update.specs.declared.ending.Ending.{Ending}
use Rattle.lx_update.specs.declared.ending.Ending.TheVariants.{Left, Turned}
use Rattle.lx_editor.specs.declared.recording.Recording.{Recording}
use Rattle.lx_editor.specs.declared.outcome.Outcome.{Outcome}
use Rattle.lx_editor.specs.declared.outcome.Outcome.TheVariants.{Refused}
use Rattle.lx_editor.specs.Editor.{Editor}
use Rattle.lx_editor.specs.Gathering.{begun, is_gathering, recording_all, with_nothing_pending}
use Rattle.lx_editor.specs.Turned.{IsTurnedBy}
use Rattle.lx_editor.specs.Updated.{rested_by, IsMadeOf}

-- ---- dispatches

-- what a dispatch comes to, where the history doesn't turn while lines are gathered
abbrev pub unless_gathering : Bool → Result Ending (Cause × Option ℕ) → Result Ending (Cause × Option ℕ)
unless_gathering gathering (Err refused) = Err refused
unless_gathering gathering (Ok (Left w handled)) = Ok (Left w handled)
unless_gathering gathering (Ok (Turned turn)) = if gathering then Err (HistoryInside, Some 0) else Ok (Turned turn)

-- what a dispatch comes to: a draft that is left and whether it was handled, or the history's turn; or why it is refused and
-- at which step
abbrev pub answer_by : Bool → List Listener → Command → Working → Result Ending (Cause × Option ℕ)
answer_by gathering listeners command w = unless_gathering gathering (answer_drafted (dispatch_run listeners command w))

-- what a dispatch to an editor comes to
abbrev pub answer_to : Command → Editor → Result Ending (Cause × Option ℕ)
answer_to command old = answer_by (is_gathering old) old.listeners command (begun old)

-- whether a command was handled, where one that is refused wasn't
abbrev pub unless_refused : Outcome → Bool → Bool
unless_refused (Refused cause step) handled = false
unless_refused outcome handled = handled

-- It is refused, and nothing changes; or what is left comes to rest and is taken; or the history turns, which handles the
-- command.
abbrev pub IsMadeOfAnswer : Result Ending (Cause × Option ℕ) → Editor → Recording → Outcome → Bool → Editor → Type 0
IsMadeOfAnswer (Err refused) old how outcome handled new = (outcome ≡ Refused refused.0 refused.1) × (new ≡ old) × (handled ≡ false)
IsMadeOfAnswer (Ok (Left w was_handled)) old how outcome handled new =
    IsMadeOf (rested_by old.rules w) old how outcome new × (handled ≡ unless_refused outcome was_handled)
IsMadeOfAnswer (Ok (Turned turn)) old how outcome handled new = IsTurnedBy turn how.moment old outcome new × (handled ≡ unless_refused outcome true)

-- The outcome that a dispatch may have, whether it is said to be handled, and the editor that it may leave. It takes in what is
-- pending.
unfoldable pub IsDispatched : Editor → Command → Recording → Outcome → Bool → Editor → Type 0
IsDispatched old command how outcome handled new =
    IsMadeOfAnswer (answer_to command old) (with_nothing_pending old) (recording_all old how) outcome handled new

-- ---- listeners

-- the listeners with one more after them
abbrev pub with_listener : Listener → Editor → Editor
with_listener listener e = record e { listeners = e.listeners ++ listener ∷ [] }

-- Registering a listener gives it the next number, from 1, and changes nothing else. The 257th is refused.
abbrev pub IsListening : Editor → Listener → Result ℕ Cause → Editor → Type 0
IsListening old listener (Ok number) new =
    (length old.listeners < most_listeners) × (number ≡ length old.listeners + 1) × (new ≡ with_listener listener old)
IsListening old listener (Err cause) new = (length old.listeners ≡ most_listeners) × (cause ≡ TooManyRules) × (new ≡ old)
