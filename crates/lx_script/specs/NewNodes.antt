-- The kind and the fields of a new node, by its type and an object of fields.
use Rattle.std.specs.Prelude.{Bool, true, false, ◌&&◌, codes, is_some, if◌then◌else◌, Option, None, Some, option_map}
use Rattle.std.specs.Result.{result_ok}
use Rattle.serde_json.specs.Data.{Data, object, Members, no_members, member}
use Rattle.serde_json.specs.Find.{get, as_null}
use Rattle.lx_node.specs.declared.kind.Kind.{Kind}
use Rattle.lx_node.specs.declared.kind.Kind.TheVariants.{Heading, List as ListKind}
use Rattle.lx_node.specs.declared.fields.Fields.{Fields}
use Rattle.lx_fields.specs.declared.words.Name.{Name}
use Rattle.lx_fields.specs.declared.words.Name.TheVariants as name
use Rattle.lx_fields.specs.Documents.{document_fields, name_in}
use Rattle.lx_fields.specs.Values.{named}
use Rattle.lx_fields.specs.Words.{levels, list_types}

-- ---- the kind

-- a value that isn't null
abbrev pub unless_null : Option Data → Option Data
unless_null None = None
unless_null (Some d) = if is_some (as_null d) then None else Some d

-- what a member says, where it is there and isn't null, or else what is so by default
abbrev pub or_default : {A : Type 0} → A → (Data → Option A) → Option Data → Option A
or_default default reads None = Some default
or_default default reads (Some d) = if is_some (as_null d) then Some default else reads d

-- the kind of a type, with a heading's level and a list's type as the object says
unfoldable pub kind_with : Kind → Data → Option Kind
kind_with (Heading level) d = option_map (λ level. Heading level) (or_default level (named levels) (get (codes "tag") d))
kind_with (ListKind type) d = option_map (λ type. ListKind type) (or_default type (named list_types) (get (codes "listType") d))
kind_with kind d = Some kind

-- ---- the fields

-- whether a new node of the kind may be given such a member: each that the kind has, but an item's value only as null
abbrev pub may_be_given : Option Name → Data → Bool
may_be_given None d = false
may_be_given (Some name.Value) d = is_some (as_null d)
may_be_given (Some known) d = true

-- whether a new node of the kind may be given each of these members
abbrev pub may_all_be_given : Kind → Members → Bool
may_all_be_given kind no_members = true
may_all_be_given kind (member text d rest) = may_be_given (name_in kind text) d && may_all_be_given kind rest

-- the members of an object; any other value has none
abbrev pub members_in : Data → Members
members_in (object members) = members
members_in d = no_members

-- the fields of a new node, which are those that a document's object gives
unfoldable pub new_fields : Kind → Data → Option Fields
new_fields kind d = if may_all_be_given kind (members_in d) then result_ok (document_fields kind d) else None
