-- Listeners.
use Rattle.std.specs.Prelude.{ℕ, List, [], ◌∷◌, Bool, true, codes, if◌then◌else◌, Option, None, Some, option_map}
use Rattle.std.specs.Option.{option_zip}
use Rattle.serde_json.specs.Data.{Data}
use Rattle.serde_json.specs.Find.{get, as_bool}
use Rattle.lx_step.specs.Script.{Script}
use Rattle.lx_step.specs.declared.listener.Listener.{Listener}
use Rattle.lx_step.specs.declared.listener.When.{When}
use Rattle.lx_script.specs.Steps.{script_in}
use Rattle.lx_fields.specs.Values.{string_of, number_within, has_only, required, optional}

-- these conditions: on the payload, on the kind of selection, and on the type of the block
abbrev pub when_with : Option (List ℕ) → Option (List ℕ) → Option (List ℕ) → When
when_with sent selection block = record { payload = sent; selection = selection; block = block }

-- the conditions of a listener: {"payload"?:TEXT,"selection"?:WORD,"block"?:WORD}
abbrev pub when_of : Data → Option When
when_of d =
    if has_only (codes "payload" ∷ codes "selection" ∷ codes "block" ∷ []) d then option_map (λ p. when_with p.0.0 p.0.1 p.1)
    (option_zip (option_zip (optional string_of (codes "payload") d) (optional string_of (codes "selection") d)) (optional string_of (codes "block") d))
    else None

-- the conditions by their member: none where it is missing
abbrev pub when_in : Option Data → Option When
when_in None = Some (when_with None None None)
when_in (Some d) = when_of d

-- a listener of these parts
abbrev pub listener_with : List ℕ → ℕ → When → Script → Bool → Listener
listener_with on priority when steps handled = record { priority = priority; on = on; when = when; steps = steps; handled = handled }

-- a listener: {"on":NAME,"priority":0 to 4,"when"?:WHEN,"steps":[STEP..],"handled":TRUTH}
abbrev pub listener_of : Data → Option Listener
listener_of d =
    if has_only (codes "on" ∷ codes "priority" ∷ codes "when" ∷ codes "steps" ∷ codes "handled" ∷ []) d then
    option_map (λ p. listener_with p.0.0.0 p.0.0.1 p.0.1.0 p.0.1.1 p.1)
    (option_zip (option_zip (option_zip (required string_of (codes "on") d) (required (number_within 0 4) (codes "priority") d))
    (option_zip (when_in (get (codes "when") d)) (required (script_in true) (codes "steps") d))) (required as_bool (codes "handled") d))
    else None
