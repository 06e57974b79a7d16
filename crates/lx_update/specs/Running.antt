-- What a line works on while its steps run, with commands that are dispatched and steps that are queued.
use Rattle.std.specs.Prelude.{ℕ, zero, suc, ◌++◌, Bool, true, false, if◌then◌else◌, List, [], ◌∷◌, Option, None, Some, Result, Ok, Err}
use Rattle.lx_node.specs.declared.cause.Cause.{Cause}
use Rattle.lx_node.specs.declared.cause.Cause.TheVariants.{BadCommand, DispatchDepth}
use Rattle.lx_step.specs.BuiltIns.{built_in}
use Rattle.lx_step.specs.Spelled.{steps_of}
use Rattle.lx_step.specs.declared.built_in.BuiltIn.{BuiltIn}
use Rattle.lx_step.specs.declared.command.Command.{Command}
use Rattle.lx_step.specs.declared.command.Payload.{Payload}
use Rattle.lx_step.specs.declared.command.Payload.TheVariants as payload
use Rattle.lx_step.specs.declared.listener.Listener.{Listener}
use Rattle.lx_step.specs.declared.step.Step.{Step}
use Rattle.lx_step.specs.declared.step.Step.TheVariants as step
use Rattle.lx_bus.specs.Offers.{above, behind}
use Rattle.lx_draft.specs.Faults.{after}
use Rattle.lx_draft.specs.Steps.{count_step}
use Rattle.lx_update.specs.Commands.{command_step}
use Rattle.lx_update.specs.declared.dispatching.Dispatcher.{Dispatcher}
use Rattle.lx_update.specs.Holding.{conditions_hold}
use Rattle.lx_update.specs.Scripts.{Scripted, on_draft, effect_of}

-- steps that are queued, with the payload that "@payload" stands for in them
pub record Queued : Type 0 where
  pub steps : List Step
  pub sent : Payload

-- a draft with the names of its nodes, and the lists of steps that are queued, the first of which comes first
pub record Running : Type 0 where
  pub script : Scripted
  pub queue : List Queued

-- what a script works on, with this queue
abbrev pub running : Scripted → List Queued → Running
running s queue = record { script = s; queue = queue }

-- an edit that leaves the queue as it is
abbrev pub on_script : (Scripted → Result Scripted Cause) → Running → Result Running Cause
on_script edit m = after (edit m.script) (λ s. Ok (running s m.queue))

-- a count is taken, of which a line has at most 100,000
unfoldable pub take_count : Running → Result Running Cause
take_count m = on_script (on_draft count_step) m

-- steps go to the end of the queue
abbrev pub queued : List Step → Payload → Running → Running
queued steps sent m = running m.script (m.queue ++ record { steps = steps; sent = sent } ∷ [])

-- steps go to the front of the queue
abbrev pub queued_first : List Step → Payload → Running → Running
queued_first steps sent m = running m.script (record { steps = steps; sent = sent } ∷ m.queue)

-- ---- steps

-- whether nothing is sent with the command
abbrev pub sends_nothing : Payload → Bool
sends_nothing payload.Nothing = true
sends_nothing other = false

-- what a built-in command does with a payload
abbrev pub done_by : BuiltIn → Payload → Running → Result Running Cause
done_by command sent m = on_script (on_draft (command_step command sent)) m

-- what the built-in command of a name does, if there is one
abbrev pub done_if : Option BuiltIn → Payload → Running → Result Running Cause
done_if None sent m = Err BadCommand
done_if (Some command) sent m = done_by command sent m

-- the payload of a command, where "@payload" means the one that was sent
abbrev pub payload_for : Payload → Payload → Payload
payload_for sent payload.Given = sent
payload_for sent other = other

-- what a dispatch of a name with a payload does, and whether the command was handled
abbrev pub Dispatching : Type 0
Dispatching = List ℕ → Payload → Running → Result (Running × Bool) Cause

-- what a step does that dispatches a command
abbrev pub dispatched_by : Dispatching → Payload → Command → Running → Result Running Cause
dispatched_by dispatching sent c m = after (dispatching c.name (payload_for sent c.payload) m) (λ r. Ok r.0)

-- what a step does that has begun, where a dispatch does this
abbrev pub effect_in : Dispatching → Payload → Step → Running → Result Running Cause
effect_in dispatching sent (step.Do c) m = done_if (built_in c.name) (payload_for sent c.payload) m
effect_in dispatching sent (step.Dispatch c) m = dispatched_by dispatching sent c m
effect_in dispatching sent (step.Later script) m = Ok (queued (steps_of script) sent m)
effect_in dispatching sent other m = on_script (effect_of other) m

-- a step that takes a count and then does what it does, where a dispatch does this
unfoldable pub step_in : Dispatching → Payload → Step → Running → Result Running Cause
step_in dispatching sent begun m = after (take_count m) (effect_in dispatching sent begun)

-- steps one after another
unfoldable pub steps_in : Dispatching → Payload → List Step → Running → Result Running Cause
steps_in dispatching sent [] m = Ok m
steps_in dispatching sent (first ∷ rest) m = after (step_in dispatching sent first m) (steps_in dispatching sent rest)

-- ---- offers

-- what a listener does that is offered a command, and whether it has handled it: nothing where its conditions don't hold
abbrev pub answered : Dispatching → Payload → Listener → Running → Result (Running × Bool) Cause
answered dispatching sent l m =
    if conditions_hold l.when sent m.script.draft then after (steps_in dispatching sent (steps_of l.steps) m) (λ n. Ok (n, l.handled)) else Ok (m, false)

-- a listener is offered a command, which takes a count
unfoldable pub offer : Dispatching → Payload → Listener → Running → Result (Running × Bool) Cause
offer dispatching sent l m = after (take_count m) (answered dispatching sent l)

-- what is done then where the command wasn't handled
abbrev pub unless_handled : (Running → Result (Running × Bool) Cause) → Running × Bool → Result (Running × Bool) Cause
unless_handled next r = if r.1 then Ok r else next r.0

-- listeners one after another, up to the first that handles the command
unfoldable pub offered : Dispatching → Payload → List Listener → Running → Result (Running × Bool) Cause
offered dispatching sent [] m = Ok (m, false)
offered dispatching sent (l ∷ ls) m = after (offer dispatching sent l m) (unless_handled (offered dispatching sent ls))

-- The built-in command, if there is one, takes its count and handles the command. Else the listeners after it are
-- offered it.
abbrev pub built_in_or : Option BuiltIn → Dispatching → Payload → List Listener → Running → Result (Running × Bool) Cause
built_in_or None dispatching sent ls m = offered dispatching sent ls m
built_in_or (Some command) dispatching sent ls m = after (take_count m) (λ n. after (done_by command sent n) (λ o. Ok (o, true)))

-- ---- dispatches

-- a dispatch in which others may nest, one in another, up to so many with it
unfoldable pub dispatched : ℕ → List Listener → Dispatching
dispatched zero ls name sent m = Err DispatchDepth
dispatched (suc left) ls name sent m =
    after (offered (dispatched left ls) sent (above name ls) m)
    (unless_handled (built_in_or (built_in name) (dispatched left ls) sent (behind name ls)))

-- what a dispatcher does with a command
abbrev pub dispatches : Dispatcher → Dispatching
dispatches d = dispatched d.left d.bus.now

-- how deep dispatches may nest
abbrev pub most_nested : ℕ
most_nested = 64

-- ---- the queue

-- the first list of steps that is queued runs, and then the rest
abbrev pub queue_in_turn : (Payload → List Step → Running → Result Running Cause) → (Running → Result Running Cause) → List Queued → Running → Result Running Cause
queue_in_turn runs next [] m = Ok m
queue_in_turn runs next (q ∷ queue) m = after (runs q.sent q.steps (running m.script queue)) next

-- All that is queued, first in, first out, also what is queued meanwhile: at most so many lists of steps.
unfoldable pub emptied : ℕ → List Listener → Running → Result Running Cause
emptied zero ls m = Ok m
emptied (suc more) ls m = queue_in_turn (steps_in (dispatched most_nested ls)) (emptied more ls) m.queue m
