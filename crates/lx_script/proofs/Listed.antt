-- Reading scripts: what a step reads by its members it reads by look-ups.
use Rattle.std.proofs.Common.{◌≡◌, ◌∙◌, ℕ, Bool, List, ◌∷◌, Option, None, Some, option_map, option_and_then, refl, ap, codes}
use Rattle.std.specs.Option.{option_zip}
use Rattle.serde_json.specs.Data.{Data, array, object, Items, no_items, item, Members}
use Rattle.serde_json.specs.Find.{get, get_member, as_array}
use Rattle.lx_step.specs.declared.step.Step.{Step}
use Rattle.lx_step.specs.Spelled.{with_first, script_of}
use Rattle.lx_script.specs.Steps.{step_for, step_of, queued_in, script_in, script_from}
use Rattle.lx_fields.specs.Values.{all_of, first_member, required}
use Rattle.lx_script.specs.Words.{verbs}
use Rattle.lx_fields.proofs.Looked.{looked_up}

-- ---- look-ups

-- the steps that a step queues are those that its member `later` lists
queued_in-get : (inside : Bool) (ms : Members) → queued_in inside ms ≡ option_and_then (script_in inside) (get_member (codes "later") ms)
unfolding queued_in
queued_in-get inside ms = looked_up (codes "later") (option_and_then (script_in inside)) (queued_in inside) refl (λ name d ms. refl) ms

pub step_of-found : (inside : Bool) (d : Data)
    → step_of inside d ≡ option_and_then (λ verb. step_for inside verb d (required (script_in inside) (codes "later") d)) (first_member verbs d)
unfolding step_of
step_of-found inside (object ms) =
    ap (λ queued. option_and_then (λ verb. step_for inside verb (object ms) queued) (first_member verbs (object ms))) (queued_in-get inside ms)
step_of-found inside _ = refl

script_in-array : (inside : Bool) (d : Data) → script_in inside d ≡ option_and_then (script_from inside) (as_array d)
unfolding script_in
script_in-array inside (array ds) = refl
script_in-array inside _ = refl

script_in-listed : (inside : Bool) (o : Option Data) → option_and_then (script_in inside) o ≡ option_and_then (script_from inside) (option_and_then as_array o)
script_in-listed inside None = refl
script_in-listed inside (Some d) = script_in-array inside d

-- the script of a member is that of the items that it lists
pub member-listed : (inside : Bool) (k : List ℕ) (d : Data)
    → required (script_in inside) k d ≡ option_and_then (script_from inside) (option_and_then as_array (get k d))
member-listed inside k d = script_in-listed inside (get k d)

-- ---- lists

zipped : (s : Option Step) (more : Option (List Step))
    → option_map (λ p. with_first p.0 p.1) (option_zip s (option_map script_of more)) ≡ option_map script_of (option_map (λ p. p.0 ∷ p.1) (option_zip s more))
zipped None more = refl
zipped (Some s) None = refl
zipped (Some s) (Some more) = refl

-- items give the script of the steps that each of them gives
pub script_from-all : (inside : Bool) (ds : Items) → script_from inside ds ≡ option_map script_of (all_of (step_of inside) ds)
unfolding script_from
script_from-all inside no_items = refl
script_from-all inside (item d ds) =
    ap (λ more. option_map (λ p. with_first p.0 p.1) (option_zip (step_of inside d) more)) (script_from-all inside ds)
    ∙ zipped (step_of inside d) (all_of (step_of inside) ds)
