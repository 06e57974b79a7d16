-- The object that is written for a node.
use Rattle.std.specs.Prelude.{ℕ, ◌==◌, ◌++◌, Bool, true, false, if◌then◌else◌, codes, List, [], ◌∷◌, Option, None, Some, option_map}
use Rattle.serde_json.specs.Data.{Data, null, boolean, string, array, object, Items, Members, no_members, put}
use Rattle.lx_node.specs.Kinds.{type_name}
use Rattle.lx_node.specs.declared.kind.Kind.{Kind}
use Rattle.lx_node.specs.declared.kind.Kind.TheVariants.{Paragraph, Heading, List as ListKind}
use Rattle.lx_node.specs.declared.kind.ListType.{ListType}
use Rattle.lx_node.specs.declared.kind.ListType.TheVariants.{Bullet, Number, Check}
use Rattle.lx_node.specs.declared.fields.Fields.{Fields}
use Rattle.lx_node.specs.declared.fields.Fields.TheVariants as fields
use Rattle.lx_node.specs.declared.fields.ElementFields.{ElementFields}
use Rattle.lx_node.specs.declared.fields.TextFields.{TextFields}
use Rattle.lx_node.specs.declared.fields.Extra.{Extra}
use Rattle.lx_node.specs.declared.fields.Extra.TheVariants as extra
use Rattle.lx_node.specs.declared.fields.Mode.{Mode}
use Rattle.lx_node.specs.declared.fields.Direction.{Direction}
use Rattle.lx_node.specs.declared.fields.Direction.TheVariants as direction
use Rattle.lx_node.specs.declared.fields.Align.{Align}
use Rattle.lx_node.specs.Same.{same_mode, same_align}
use Rattle.lx_fields.specs.Parts.{natural, text_data, or_null}
use Rattle.lx_fields.specs.Words.{levels, aligns, modes}

-- members by their names, in the order in which they are put; one that has no value is left out
abbrev pub Written : Type 0
Written = List (List ℕ × Option Data)

-- ---- words

-- how a direction is written: null where it is unset
abbrev pub direction_data : Direction → Data
direction_data direction.Unset = null
direction_data direction.Ltr = string (codes "ltr")
direction_data direction.Rtl = string (codes "rtl")

-- the word that stands for this in a table of words
abbrev pub word_for : {A : Type 0} → (A → A → Bool) → List (List ℕ × A) → A → List ℕ
word_for same [] a = []
word_for same (row ∷ rows) a = if same row.1 a then row.0 else word_for same rows a

-- the word of an alignment, which is empty where it is unset
abbrev pub align_word : Align → List ℕ
align_word align = word_for same_align aligns align

-- the word of a text's mode
abbrev pub mode_word : Mode → List ℕ
mode_word mode = word_for same_mode modes mode

-- the word of a list's type
abbrev pub list_word : ListType → List ℕ
list_word Bullet = codes "bullet"
list_word Number = codes "number"
list_word Check = codes "check"

-- a list's tag, which is `ol` for a numbered list alone
abbrev pub list_tag : ListType → List ℕ
list_tag Number = codes "ol"
list_tag other = codes "ul"

-- the tag of a heading's level
abbrev pub level_word : ℕ → List ℕ
level_word level = word_for (λ a b. a == b) levels level

-- ---- members

-- a member that a paragraph always has, and another element only where it isn't the default
abbrev pub kept : Kind → Bool → Data → Option Data
kept Paragraph is_default d = Some d
kept other is_default d = if is_default then None else Some d

-- a text without characters
abbrev pub is_empty : List ℕ → Bool
is_empty [] = true
is_empty (c ∷ text) = false

-- the members of a list, an item, a link and a cell that no other element has; an item that is neither checked nor
-- unchecked says nothing of that
abbrev pub extra_members : Extra → Written
extra_members extra.Plain = []
extra_members (extra.List start) = (codes "start", Some (natural start)) ∷ []
extra_members (extra.Item value checked) = (codes "value", Some (natural value)) ∷ (codes "checked", option_map boolean checked) ∷ []
extra_members (extra.Link rel target title url) =
    (codes "rel", Some (or_null text_data rel)) ∷ (codes "target", Some (or_null text_data target))
    ∷ (codes "title", Some (or_null text_data title)) ∷ (codes "url", Some (text_data url)) ∷ []
extra_members (extra.Cell header row_span col_span background) =
    (codes "headerState", Some (natural header)) ∷ (codes "rowSpan", Some (natural row_span)) ∷ (codes "colSpan", Some (natural col_span))
    ∷ (codes "backgroundColor", Some (or_null text_data background)) ∷ []

-- direction, format and indentation, which each element has
abbrev pub layout_members : ElementFields → Written
layout_members e =
    (codes "direction", Some (direction_data e.direction)) ∷ (codes "format", Some (string (align_word e.format)))
    ∷ (codes "indent", Some (natural e.indent)) ∷ []

-- format and style of texts that are put into an element
abbrev pub typed_members : Kind → ElementFields → Written
typed_members kind e =
    (codes "textFormat", kept kind (e.text_format == 0) (natural e.text_format)) ∷ (codes "textStyle", kept kind (is_empty e.text_style) (text_data e.text_style)) ∷ []

-- the members of an element
abbrev pub element_members : Kind → ElementFields → Written
element_members kind e = layout_members e ++ typed_members kind e ++ extra_members e.extra

-- the members of a text or tab
abbrev pub text_members : TextFields → Written
text_members t =
    (codes "text", Some (text_data t.text)) ∷ (codes "format", Some (natural t.format)) ∷ (codes "detail", Some (natural t.detail))
    ∷ (codes "mode", Some (string (mode_word t.mode))) ∷ (codes "style", Some (text_data t.style)) ∷ []

-- the members of a node's fields
abbrev pub field_members : Kind → Fields → Written
field_members kind (fields.Element e) = element_members kind e
field_members kind (fields.Text t) = text_members t
field_members kind (fields.Embed source) = (codes "src", Some (text_data source)) ∷ []
field_members kind fields.Bare = []

-- what a heading and a list say of their kind
abbrev pub kind_members : Kind → Written
kind_members (Heading level) = (codes "tag", Some (string (level_word level))) ∷ []
kind_members (ListKind type) = (codes "listType", Some (string (list_word type))) ∷ (codes "tag", Some (string (list_tag type))) ∷ []
kind_members other = []

-- an element's children, where they are written so
abbrev pub children_data : Fields → Items → Option Data
children_data (fields.Element e) below = Some (array below)
children_data other below = None

-- what each node says: its type, the version 1, and for an element its children
abbrev pub node_members : Kind → Fields → Items → Written
node_members kind of_node below =
    (codes "type", Some (string (type_name kind))) ∷ (codes "version", Some (natural 1)) ∷ (codes "children", children_data of_node below) ∷ []

-- members with one of this name, where there is one
abbrev pub put_any : List ℕ → Option Data → Members → Members
put_any name None members = members
put_any name (Some d) members = put name d members

-- members with these put among them, in byte order of their names
abbrev pub written_onto : Members → Written → Members
written_onto members [] = members
written_onto members (m ∷ ms) = written_onto (put_any m.0 m.1 members) ms

-- the object of a node with its fields, its kind, and for an element what is written for its children
unfoldable pub node_data : Kind → Fields → Items → Data
node_data kind of_node below = object (written_onto no_members (field_members kind of_node ++ kind_members kind ++ node_members kind of_node below))
