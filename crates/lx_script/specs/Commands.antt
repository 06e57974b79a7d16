-- Commands: their names, and what they are given.
use Rattle.std.specs.Prelude.{◌&&◌, ℕ, List, [], ◌∷◌, Bool, chars, codes, if◌then◌else◌, Option, None, Some, option_map, option_and_then}
use Rattle.std.specs.Option.{option_zip}
use Rattle.std.specs.Str.{bytes_eq}
use Rattle.serde_json.specs.Data.{Data, null, boolean, number, string, array, object}
use Rattle.serde_json.specs.Find.{get, at, as_bool}
use Rattle.lx_step.specs.BuiltIns.{built_in}
use Rattle.lx_step.specs.declared.command.Command.{Command}
use Rattle.lx_step.specs.declared.command.Payload.{Payload}
use Rattle.lx_step.specs.declared.command.Payload.TheVariants as payload
use Rattle.lx_step.specs.declared.step.Step.{Step}
use Rattle.lx_step.specs.declared.step.Step.TheVariants as step
use Rattle.lx_script.specs.References.{has_three}
use Rattle.lx_fields.specs.Values.{string_of, number_within, has_only, required}

-- A text. Among a listener's steps "@payload" is what the command was given with which the listener is reached; elsewhere it
-- is a text like others.
abbrev pub text_or_given : Bool → List ℕ → Payload
text_or_given inside text = if inside && bytes_eq text (codes "@payload") then payload.Given else payload.Text (chars text)

-- the size of a table: [rows,columns,headers], both numbers from 1 to 50
abbrev pub grid_of : Data → Option Payload
grid_of d =
    if has_three d then option_map (λ p. payload.Grid p.0.0 p.0.1 p.1)
    (option_zip (option_zip (option_and_then (number_within 1 50) (at 0 d)) (option_and_then (number_within 1 50) (at 1 d))) (option_and_then as_bool (at 2 d)))
    else None

-- a payload: null for nothing, a string for a text, or a list of three for the size of a table
unfoldable pub payload_of : Bool → Data → Option Payload
payload_of inside null = Some payload.Nothing
payload_of inside (string text) = Some (text_or_given inside text)
payload_of inside (array items) = grid_of (array items)
payload_of inside (boolean truth) = None
payload_of inside (number n) = None
payload_of inside (object entries) = None

-- the payload of a command by the member `payload`, which may be missing
abbrev pub payload_in : Bool → Option Data → Option Payload
payload_in inside None = Some payload.Nothing
payload_in inside (Some d) = payload_of inside d

-- the command of this name, to which that is sent
abbrev pub command_with : List ℕ → Payload → Command
command_with name sent = record { name = name; payload = sent }

-- the command that the members `dispatch` and `payload` give, of which the second may be missing
abbrev pub command_in : Bool → Data → Option Command
command_in inside d =
    option_map (λ p. command_with p.0 p.1) (option_zip (required string_of (codes "dispatch") d) (payload_in inside (get (codes "payload") d)))

-- a command among steps: {"dispatch":NAME,"payload"?:PAYLOAD}
abbrev pub command_of : Bool → Data → Option Command
command_of inside d = if has_only (codes "dispatch" ∷ codes "payload" ∷ []) d then command_in inside d else None

-- a name, if it is that of a built-in command
abbrev pub built_in_name : List ℕ → Option (List ℕ)
built_in_name name = option_map (λ command. name) (built_in name)

-- the step that does a built-in command: {"do":NAME,"payload"?:PAYLOAD}
abbrev pub do_of : Bool → Data → Option Step
do_of inside d =
    if has_only (codes "do" ∷ codes "payload" ∷ []) d then option_map (λ p. step.Do (command_with p.0 p.1))
    (option_zip (option_and_then built_in_name (required string_of (codes "do") d)) (payload_in inside (get (codes "payload") d)))
    else None
