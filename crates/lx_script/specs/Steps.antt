-- The steps of an update, of a listener, and those that a step queues. Each is an object with the members that its sentence
-- names; those with ? may be missing.
use Rattle.std.specs.Prelude.{ℕ, List, [], ◌∷◌, Bool, false, codes, if◌then◌else◌, Option, None, Some, option_map, option_and_then}
use Rattle.std.specs.Option.{option_zip}
use Rattle.std.specs.Str.{bytes_eq}
use Rattle.serde_json.specs.Data.{Data, null, boolean, number, string, array, object, Items, no_items, item, Members, no_members, member}
use Rattle.serde_json.specs.Find.{get, as_bool}
use Rattle.lx_node.specs.declared.kind.Kind.{Kind}
use Rattle.lx_step.specs.declared.member.Member.{Member}
use Rattle.lx_step.specs.declared.patch.Patch.{Patch}
use Rattle.lx_step.specs.declared.reference.Reference.{Reference}
use Rattle.lx_step.specs.declared.step.Step.{Step}
use Rattle.lx_step.specs.declared.step.Step.TheVariants as step
use Rattle.lx_trees.specs.Trees.{nil}
use Rattle.lx_step.specs.Script.{Script}
use Rattle.lx_step.specs.Spelled.{with_first}
use Rattle.lx_script.specs.Commands.{command_of, do_of}
use Rattle.lx_script.specs.declared.words.Verb.{Verb}
use Rattle.lx_script.specs.declared.words.Verb.TheVariants as verb
use Rattle.lx_script.specs.Patches.{patch_of}
use Rattle.lx_script.specs.NewNodes.{kind_with, new_fields}
use Rattle.lx_script.specs.References.{reference_of, selection_of}
use Rattle.lx_fields.specs.Values.{first_member, string_of, whole_of, has_only, required, optional, list_of}
use Rattle.lx_script.specs.Words.{kind_named, verbs}

-- the step that appends a text: {"append":TEXT}
abbrev pub append_of : Data → Option Step
append_of d = if has_only (codes "append" ∷ []) d then option_map (λ text. step.Append text) (required string_of (codes "append") d) else None

-- an object of fields, which is null where there is none
abbrev pub fields_in : Option Data → Option Data
fields_in None = Some null
fields_in (Some (object members)) = Some (object members)
fields_in (Some d) = None

-- a new node of the kind, with the fields of an object, that gets a name where it has one
abbrev pub new_in : Kind → Data → Option (List ℕ) → Option Step
new_in kind d name = option_map (λ fields. step.New kind fields name) (new_fields kind d)

-- a new node of the kind, where the object gives a heading's level or a list's type too
abbrev pub new_with : Kind → Data → Option (Option (List ℕ)) → Option Step
new_with kind d name = option_and_then (λ p. new_in p.0 d p.1) (option_zip (kind_with kind d) name)

-- the step that makes a node: {"new":TYPE,"fields"?:FIELDS,"as"?:NAME}
abbrev pub new_of : Data → Option Step
new_of d =
    if has_only (codes "new" ∷ codes "fields" ∷ codes "as" ∷ []) d then
    option_and_then (λ p. new_with p.0 p.1 (optional string_of (codes "as") d)) (option_zip (required kind_named (codes "new") d) (fields_in (get (codes "fields") d)))
    else None

-- the step that puts a node below another: {"put":REF,"into":REF,"at"?:INDEX}
abbrev pub put_of : Data → Option Step
put_of d =
    if has_only (codes "put" ∷ codes "into" ∷ codes "at" ∷ []) d then option_map (λ p. step.Put p.0.0 p.0.1 p.1)
    (option_zip (option_zip (required reference_of (codes "put") d) (required reference_of (codes "into") d)) (optional whole_of (codes "at") d))
    else None

-- a truth value, which is false where it is missing
abbrev pub truth_in : Option Data → Option Bool
truth_in None = Some false
truth_in (Some d) = as_bool d

-- the step that replaces a node: {"replace":REF,"with":REF,"keep"?:TRUTH}
abbrev pub replace_of : Data → Option Step
replace_of d =
    if has_only (codes "replace" ∷ codes "with" ∷ codes "keep" ∷ []) d then option_map (λ p. step.Replace p.0.0 p.0.1 p.1)
    (option_zip (option_zip (required reference_of (codes "replace") d) (required reference_of (codes "with") d)) (truth_in (get (codes "keep") d)))
    else None

-- a patch that sets these members
abbrev pub patch_from : List Member → Patch
patch_from members = record { members = members }

-- the step that sets fields of a node: {"set":REF,"fields":FIELDS}
abbrev pub set_of : Data → Option Step
set_of d =
    if has_only (codes "set" ∷ codes "fields" ∷ []) d then option_map (λ p. step.Set p.0 (patch_from p.1))
    (option_zip (required reference_of (codes "set") d) (required patch_of (codes "fields") d))
    else None

-- the step that splits a text: {"split":REF,"at":[OFFSET..],"as"?:NAME}
abbrev pub split_of : Data → Option Step
split_of d =
    if has_only (codes "split" ∷ codes "at" ∷ codes "as" ∷ []) d then option_map (λ p. step.Split p.0.0 p.0.1 p.1)
    (option_zip (option_zip (required reference_of (codes "split") d) (required (list_of whole_of) (codes "at") d)) (optional string_of (codes "as") d))
    else None

-- the node of a step that names one node: {"remove":REF} and the like
abbrev pub one_node : List ℕ → Data → Option Reference
one_node name d = if has_only (name ∷ []) d then required reference_of name d else None

-- the nodes of a step that names two nodes: {"join":REF,"with":REF} and the like
abbrev pub two_nodes : List ℕ → List ℕ → Data → Option (Reference × Reference)
two_nodes first second d =
    if has_only (first ∷ second ∷ []) d then option_zip (required reference_of first d) (required reference_of second d) else None

-- the step that selects: {"select":SELECTION}
abbrev pub select_of : Data → Option Step
select_of d = if has_only (codes "select" ∷ []) d then option_map (λ selection. step.Select selection) (required selection_of (codes "select") d) else None

-- the step that queues others: {"later":[STEP..]}, where these are its steps
abbrev pub later_of : Data → Option Script → Option Step
later_of d queued = if has_only (codes "later" ∷ []) d then option_map (λ script. step.Later script) queued else None

-- a step, by the word that sets it apart from others, among a listener's steps or elsewhere; the script is that of a
-- member `later`
unfoldable pub step_for : Bool → Verb → Data → Option Script → Option Step
step_for inside verb.Append d queued = append_of d
step_for inside verb.New d queued = new_of d
step_for inside verb.Put d queued = put_of d
step_for inside verb.Remove d queued = option_map (λ node. step.Remove node) (one_node (codes "remove") d)
step_for inside verb.Replace d queued = replace_of d
step_for inside verb.Set d queued = set_of d
step_for inside verb.Mark d queued = option_map (λ node. step.Mark node) (one_node (codes "mark") d)
step_for inside verb.Split d queued = split_of d
step_for inside verb.Join d queued = option_map (λ p. step.Join p.0 p.1) (two_nodes (codes "join") (codes "with") d)
step_for inside verb.Wrap d queued = option_map (λ p. step.Wrap p.0 p.1) (two_nodes (codes "wrap") (codes "in") d)
step_for inside verb.Unwrap d queued = option_map (λ node. step.Unwrap node) (one_node (codes "unwrap") d)
step_for inside verb.Children d queued = option_map (λ p. step.Children p.0 p.1) (two_nodes (codes "children") (codes "into") d)
step_for inside verb.Select d queued = select_of d
step_for inside verb.Do d queued = do_of inside d
step_for inside verb.Dispatch d queued = option_map (λ command. step.Dispatch command) (command_of inside d)
step_for inside verb.Later d queued = later_of d queued

unfoldable mutual
  -- a step, which one of its members sets apart from the others
  pub step_of : Bool → Data → Option Step
  step_of inside (object entries) = option_and_then (λ verb. step_for inside verb (object entries) (queued_in inside entries)) (first_member verbs (object entries))
  step_of inside null = None
  step_of inside (boolean truth) = None
  step_of inside (number n) = None
  step_of inside (string text) = None
  step_of inside (array items) = None

  -- the steps that the member `later` lists
  pub queued_in : Bool → Members → Option Script
  queued_in inside no_members = None
  queued_in inside (member name d rest) = if bytes_eq (codes "later") name then script_in inside d else queued_in inside rest

  -- a list of steps: [STEP..]
  pub script_in : Bool → Data → Option Script
  script_in inside (array items) = script_from inside items
  script_in inside null = None
  script_in inside (boolean truth) = None
  script_in inside (number n) = None
  script_in inside (string text) = None
  script_in inside (object entries) = None

  -- the steps of a list, one after another
  pub script_from : Bool → Items → Option Script
  script_from inside no_items = Some nil
  script_from inside (item d ds) = option_map (λ p. with_first p.0 p.1) (option_zip (step_of inside d) (script_from inside ds))
