-- Of which kind a node of a document is: its type says it, and of a heading and a list a member says more.
use Rattle.std.specs.Prelude.{ℕ, codes, List, ◌∷◌, Option, None, Some, option_map}
use Rattle.serde_json.specs.Data.{Data}
use Rattle.serde_json.specs.Find.{get}
use Rattle.lx_node.specs.declared.kind.Kind.{Kind}
use Rattle.lx_node.specs.declared.kind.Kind.TheVariants.{Root, Heading, List as ListKind}
use Rattle.lx_fields.specs.Values.{named}
use Rattle.lx_fields.specs.Words.{kind_in, made_kinds, levels, list_types}

-- The kind of a type: none where it is no type. A heading and a list are those that they are by default.
abbrev pub kind_of_type : List ℕ → Option Kind
kind_of_type text = kind_in (Root ∷ made_kinds) text

-- the kind that was given, or else the kind as it was
abbrev pub or_kept : Kind → Option Kind → Kind
or_kept kind None = kind
or_kept kind (Some told) = told

-- the kind that a member gives, where it is a word of the table; else the kind as it was
abbrev pub told_by : {A : Type 0} → (A → Kind) → Kind → List (List ℕ × A) → Option Data → Kind
told_by make kind rows None = kind
told_by make kind rows (Some d) = or_kept kind (option_map make (named rows d))

-- the kind of a node, where a heading is of the level that its tag says, and a list of its type
unfoldable pub kind_told : Kind → Data → Kind
kind_told (Heading level) d = told_by (λ level. Heading level) (Heading level) levels (get (codes "tag") d)
kind_told (ListKind type) d = told_by (λ type. ListKind type) (ListKind type) list_types (get (codes "listType") d)
kind_told kind d = kind
