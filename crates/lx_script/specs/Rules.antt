-- Rules of scripts. A condition and an edit are objects of one member, whose name says what is asked or done.
use Rattle.std.specs.Prelude.{ℕ, List, [], ◌∷◌, codes, nat_le, if◌then◌else◌, Option, None, Some, option_map, option_and_then}
use Rattle.std.specs.List.{list_all}
use Rattle.std.specs.Option.{option_zip}
use Rattle.serde_json.specs.Data.{Data}
use Rattle.serde_json.specs.Find.{get, as_bool}
use Rattle.lx_node.specs.Kinds.{is_text}
use Rattle.lx_node.specs.declared.kind.Kind.{Kind}
use Rattle.lx_text.specs.Texts.{length_told}
use Rattle.lx_step.specs.Patches.{has}
use Rattle.lx_step.specs.Types.{type_of}
use Rattle.lx_step.specs.declared.patch.Patch.{Patch}
use Rattle.lx_step.specs.declared.rule.Condition.{Condition}
use Rattle.lx_step.specs.declared.rule.Condition.TheVariants as condition
use Rattle.lx_step.specs.declared.rule.NewNode.{NewNode}
use Rattle.lx_step.specs.declared.rule.Rule.{Rule}
use Rattle.lx_step.specs.declared.rule.SelfEdit.{SelfEdit}
use Rattle.lx_step.specs.declared.rule.SelfEdit.TheVariants as edit
use Rattle.lx_step.specs.declared.rule.TypeRow.{TypeRow}
use Rattle.lx_script.specs.declared.words.ConditionWord.{ConditionWord}
use Rattle.lx_script.specs.declared.words.ConditionWord.TheVariants as asks
use Rattle.lx_script.specs.declared.words.EditWord.{EditWord}
use Rattle.lx_script.specs.declared.words.EditWord.TheVariants as does
use Rattle.lx_script.specs.Patches.{patch_of}
use Rattle.lx_script.specs.NewNodes.{kind_with, new_fields}
use Rattle.lx_script.specs.Steps.{fields_in, patch_from}
use Rattle.lx_fields.specs.Values.{string_of, whole_of, or_null_of, has_only, only_member, required, list_of}
use Rattle.lx_script.specs.Words.{type_named, condition_words, edit_words}

-- what is meant where the value is true, which it has to be
abbrev pub where_true : {A : Type 0} → A → Data → Option A
where_true meant d = option_and_then (λ truth. if truth then Some meant else None) (as_bool d)

-- ---- conditions

-- the type whose name a string is, with its number in the table of types
abbrev pub row_named : Data → Option TypeRow
row_named d = option_map type_of (type_named d)

-- a condition by the word that asks it, and the value that goes with it
unfoldable pub condition_for : ConditionWord → Data → Option Condition
condition_for asks.Text d = option_map (λ text. condition.Text text) (string_of d)
condition_for asks.Contains d = option_map (λ piece. condition.Contains piece) (string_of d)
condition_for asks.Shorter d = option_map (λ limit. condition.Shorter limit) (whole_of d)
condition_for asks.Format d = option_map (λ format. condition.Format format) (whole_of d)
condition_for asks.Parent d = option_map (λ row. condition.Parent row) (row_named d)
condition_for asks.Previous d = option_map (λ row. condition.Previous row) (or_null_of row_named d)
condition_for asks.Next d = option_map (λ row. condition.Next row) (or_null_of row_named d)
condition_for asks.Childless d = where_true condition.Childless d

-- a condition of a rule: {WORD:VALUE}
unfoldable pub condition_of : Data → Option Condition
condition_of d = option_and_then (λ p. condition_for p.0 p.1) (only_member condition_words d)

-- ---- edits

-- a patch, all of whose members can be set on the kind
abbrev pub patch_on : Kind → Data → Option Patch
patch_on kind d = option_and_then (λ members. if list_all (has kind) members then Some (patch_from members) else None) (patch_of d)

-- the greatest length of a text that a rule adds
abbrev pub most_added : ℕ
most_added = 256

-- a text that a rule adds to a text
abbrev pub added_on : Kind → Data → Option (List ℕ)
added_on kind d =
    if is_text kind then option_and_then (λ text. if nat_le (length_told text) most_added then Some text else None) (string_of d) else None

-- a new node of the kind, with the fields that an object gives it
abbrev pub new_node_in : Kind → Data → Option NewNode
new_node_in kind d = option_map (λ fields. record { kind = kind; fields = fields }) (new_fields kind d)

-- a new node of the kind, where the object gives a heading's level or a list's type too
abbrev pub new_node_with : Kind → Data → Option NewNode
new_node_with kind d = option_and_then (λ kind. new_node_in kind d) (kind_with kind d)

-- a new node of a rule: {"type":TYPE,"fields"?:FIELDS}
abbrev pub new_node_of : Data → Option NewNode
new_node_of d =
    if has_only (codes "type" ∷ codes "fields" ∷ []) d then
    option_and_then (λ p. new_node_with p.0 p.1) (option_zip (required type_named (codes "type") d) (fields_in (get (codes "fields") d)))
    else None

-- an edit of nodes of the kind's type, by the word that says what is done, and the value that goes with it
unfoldable pub edit_for : Kind → EditWord → Data → Option SelfEdit
edit_for kind does.Set d = option_map (λ patch. edit.Set patch) (patch_on kind d)
edit_for kind does.Add d = option_map (λ text. edit.Add text) (added_on kind d)
edit_for kind does.Remove d = where_true edit.Remove d
edit_for kind does.Replace d = option_map (λ new. edit.Replace new) (new_node_of d)
edit_for kind does.Wrap d = option_map (λ new. edit.Wrap new) (new_node_of d)
edit_for kind does.Unwrap d = where_true edit.Unwrap d
edit_for kind does.Before d = option_map (λ new. edit.Before new) (new_node_of d)
edit_for kind does.After d = option_map (λ new. edit.After new) (new_node_of d)
edit_for kind does.Child d = option_map (λ new. edit.Child new) (new_node_of d)
edit_for kind does.MergeNext d = where_true edit.MergeNext d

-- an edit of nodes of the kind's type
unfoldable pub edit_of : Kind → Data → Option SelfEdit
edit_of kind d = option_and_then (λ p. edit_for kind p.0 p.1) (only_member edit_words d)

-- ---- rules

-- a rule on nodes of the kind's type, by its conditions and its edits
abbrev pub rule_on : Kind → Data → Option Rule
rule_on kind d =
    option_map (λ p. record { on = type_of kind; conditions = p.0; edits = p.1 })
    (option_zip (required (list_of condition_of) (codes "if") d) (required (list_of (edit_of kind)) (codes "do") d))

-- a rule: {"on":TYPE,"if":[CONDITION..],"do":[EDIT..]}
abbrev pub rule_of : Data → Option Rule
rule_of d =
    if has_only (codes "on" ∷ codes "if" ∷ codes "do" ∷ []) d then option_and_then (λ kind. rule_on kind d) (required type_named (codes "on") d)
    else None
