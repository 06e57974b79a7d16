-- The fields that an object gives a node: a document's, or those of a new node.
use Rattle.std.specs.Prelude.{◌≡◌, ℕ, List, [], ◌∷◌, Bool, ◌||◌, chars, is_some, if◌then◌else◌, Option, None, Some, option_map, option_and_then, Result, Ok, Err}
use Rattle.serde_json.specs.Data.{Data}
use Rattle.serde_json.specs.Find.{get, as_null}
use Rattle.lx_node.specs.declared.kind.Kind.{Kind}
use Rattle.lx_node.specs.declared.kind.Kind.TheVariants as kind
use Rattle.lx_node.specs.declared.fields.Extra.{Extra}
use Rattle.lx_node.specs.declared.fields.Extra.TheVariants as extra
use Rattle.lx_node.specs.declared.fields.Fields.{Fields}
use Rattle.lx_node.specs.declared.fields.Fields.TheVariants as fields
use Rattle.lx_node.specs.Kinds.{is_element, is_heading, is_list, is_item, is_link, is_cell, is_text, has_characters, is_embed}
use Rattle.lx_node.specs.Plain.{element_with, text_with}
use Rattle.lx_step.specs.Patches.{has, with_member}
use Rattle.lx_fields.specs.declared.words.Name.{Name}
use Rattle.lx_fields.specs.declared.words.Name.TheVariants as name
use Rattle.lx_fields.specs.declared.fields.FieldFault.{FieldFault}
use Rattle.lx_fields.specs.declared.fields.FieldFault.TheVariants.{Memory, Bad}
use Rattle.lx_fields.specs.Members.{settable}
use Rattle.lx_fields.specs.Values.{word_in, named, number_within}
use Rattle.lx_fields.specs.Words.{names, levels, list_types}

-- ---- the fields of a kind where nothing is given

-- what an element has of its own kind where nothing is given
unfoldable pub default_extra : Kind → Extra
default_extra (kind.List type) = extra.List 1
default_extra kind.Item = extra.Item 1 None
default_extra kind.Link = extra.Link None None None []
default_extra kind.Cell = extra.Cell 0 1 1 None
default_extra kind = extra.Plain

-- the fields of a kind where nothing is given; a tab has the text U+0009 and detail 2, whatever is given
unfoldable pub default_fields : Kind → Fields
default_fields kind.Text = fields.Text (text_with [] 0)
default_fields kind.Tab = fields.Text (text_with (9 ∷ []) 2)
default_fields kind.Break = fields.Bare
default_fields kind.Rule = fields.Bare
default_fields kind.Embed = fields.Embed []
default_fields kind = fields.Element (element_with (default_extra kind))

-- ---- which members an object gives a kind, and what they give

-- whether an object can give a node of the kind such a member
unfoldable pub takes : Kind → Name → Bool
takes kind name.Direction = is_element kind
takes kind name.Format = is_element kind || has_characters kind
takes kind name.Indent = is_element kind
takes kind name.TextFormat = is_element kind
takes kind name.TextStyle = is_element kind
takes kind name.Tag = is_heading kind
takes kind name.ListType = is_list kind
takes kind name.Start = is_list kind
takes kind name.Checked = is_item kind
takes kind name.Value = is_item kind
takes kind name.Rel = is_link kind
takes kind name.Target = is_link kind
takes kind name.Title = is_link kind
takes kind name.Url = is_link kind
takes kind name.HeaderState = is_cell kind
takes kind name.ColSpan = is_cell kind
takes kind name.RowSpan = is_cell kind
takes kind name.Background = is_cell kind
takes kind name.Text = is_text kind
takes kind name.Style = has_characters kind
takes kind name.Detail = is_text kind
takes kind name.Mode = is_text kind
takes kind name.Src = is_embed kind

-- an item's value written into what it has of its own kind
abbrev pub extra_with_value : ℕ → Extra → Extra
extra_with_value value (extra.Item old checked) = extra.Item value checked
extra_with_value value extra = extra

-- the fields with an item's value written
unfoldable pub item_with_value : ℕ → Fields → Fields
item_with_value value (fields.Element old) = fields.Element (record old { extra = extra_with_value value old.extra })
item_with_value value old = old

-- The fields with a member of the kind written, where its value is one that it takes. The level of a heading and the type
-- of a list are the kind's, and only looked at.
unfoldable pub with_given : Kind → Name → Data → Fields → Option Fields
with_given kind name.Tag d old = option_map (λ level. old) (named levels d)
with_given kind name.ListType d old = option_map (λ type. old) (named list_types d)
with_given kind name.Value d old = option_map (λ value. item_with_value value old) (number_within 0 1200000 d)
with_given kind known d old = option_and_then (λ member. if has kind member then Some (with_member member old) else None) (settable known d)

-- the member of a name that the kind has
abbrev pub name_in : Kind → List ℕ → Option Name
name_in kind text = option_and_then (λ known. if takes kind known then Some known else None) (word_in names text)

-- the fields with what a member of the kind gives: nothing where it is missing or null
unfoldable pub given_by : Kind → Name → Option Data → Fields → Option Fields
given_by kind known None old = Some old
given_by kind known (Some d) old = if is_some (as_null d) then Some old else with_given kind known d old

-- what goes on with fields, if there are any; else the member of this name is the bad one
abbrev pub or_bad : List ℕ → (Fields → Result Fields (List ℕ)) → Option Fields → Result Fields (List ℕ)
or_bad text go_on None = Err (chars text)
or_bad text go_on (Some fields) = go_on fields

-- The fields with what those of these members give that the kind has, in their order, where each is found by its name; or
-- the name of the first whose value isn't one that it takes.
abbrev pub fields_with : Kind → List (List ℕ × Name) → (List ℕ → Option Data) → Fields → Result Fields (List ℕ)
fields_with kind [] find old = Ok old
fields_with kind (row ∷ rows) find old =
    if takes kind row.1 then or_bad row.0 (fields_with kind rows find) (given_by kind row.1 (find row.0) old) else fields_with kind rows find old

-- the fields with what an object's members give that the kind has; any other value has no members
unfoldable pub fields_given : Kind → Data → Fields → Result Fields (List ℕ)
fields_given kind d old = fields_with kind names (λ name. get name d) old

-- the fields that an object gives a node of the kind
unfoldable pub document_fields : Kind → Data → Result Fields (List ℕ)
document_fields kind d = fields_given kind d (default_fields kind)

-- An object gives no fields for the first of its bad members; or memory ran out.
abbrev pub TellsBad : Result Fields (List ℕ) → FieldFault → Type 0
TellsBad given Memory = Unit {0}
TellsBad given (Bad text) = given ≡ Err text
