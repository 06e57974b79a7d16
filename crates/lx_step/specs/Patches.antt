-- What a patch writes: members of fields, and which kinds have them.
use Rattle.std.specs.Prelude.{◌≡◌, ℕ, List, [], ◌∷◌, Bool, true, false, leb, IsTrue, if◌then◌else◌, Option, None, Some}
use Rattle.std.specs.List.{list_all}
use Rattle.lx_node.specs.declared.kind.Kind.{Kind}
use Rattle.lx_node.specs.declared.cause.Cause.TheVariants.{WrongKind}
use Rattle.lx_node.specs.declared.cause.Fault.{Fault}
use Rattle.lx_node.specs.declared.cause.Fault.TheVariants.{Cause as Refused, Memory}
use Rattle.lx_node.specs.declared.fields.TextFields.{TextFields}
use Rattle.lx_node.specs.declared.fields.ElementFields.{ElementFields}
use Rattle.lx_node.specs.declared.fields.Extra.{Extra}
use Rattle.lx_node.specs.declared.fields.Extra.TheVariants as extra
use Rattle.lx_node.specs.declared.fields.Fields.{Fields}
use Rattle.lx_node.specs.declared.fields.Fields.TheVariants as fields
use Rattle.lx_node.specs.Kinds.{is_element, is_list, is_item, is_link, is_cell, is_text, has_characters, is_embed}
use Rattle.lx_node.specs.OfKind.{is_span}
use Rattle.lx_step.specs.declared.member.Member.{Member}
use Rattle.lx_step.specs.declared.member.Member.TheVariants.{Direction, Align, Indent, TextFormat, TextStyle, Start, Checked, Rel, Target, Title, Url, HeaderState, ColSpan, RowSpan, Background, Text, Format, Style, Detail, Mode, Src, Other}

-- ---- which kinds have a member that may be set

-- which kinds have a member that may be set: not a tab's text, an item's value, a heading's level nor a list's type
unfoldable pub has : Kind → Member → Bool
has kind (Direction direction) = is_element kind
has kind (Align align) = is_element kind
has kind (Indent indent) = is_element kind
has kind (TextFormat format) = is_element kind
has kind (TextStyle style) = is_element kind
has kind (Start start) = is_list kind
has kind (Checked checked) = is_item kind
has kind (Rel rel) = is_link kind
has kind (Target target) = is_link kind
has kind (Title title) = is_link kind
has kind (Url url) = is_link kind
has kind (HeaderState header) = is_cell kind
has kind (ColSpan span) = is_cell kind
has kind (RowSpan span) = is_cell kind
has kind (Background background) = is_cell kind
has kind (Text text) = is_text kind
has kind (Format format) = has_characters kind
has kind (Style style) = has_characters kind
has kind (Detail detail) = is_text kind
has kind (Mode mode) = is_text kind
has kind (Src source) = is_embed kind
has kind (Other name) = false

-- ---- fields with a member written

-- a member written in what an element has of its own kind
unfoldable pub with_extra : Member → Extra → Extra
with_extra (Start start) (extra.List old) = extra.List start
with_extra (Checked checked) (extra.Item value old) = extra.Item value checked
with_extra (Rel rel) (extra.Link old target title url) = extra.Link rel target title url
with_extra (Target target) (extra.Link rel old title url) = extra.Link rel target title url
with_extra (Title title) (extra.Link rel target old url) = extra.Link rel target title url
with_extra (Url url) (extra.Link rel target title old) = extra.Link rel target title url
with_extra (HeaderState header) (extra.Cell old row_span col_span background) = extra.Cell header row_span col_span background
with_extra (RowSpan row_span) (extra.Cell header old col_span background) = extra.Cell header row_span col_span background
with_extra (ColSpan col_span) (extra.Cell header row_span old background) = extra.Cell header row_span col_span background
with_extra (Background background) (extra.Cell header row_span col_span old) = extra.Cell header row_span col_span background
with_extra member extra = extra

-- a member written in an element
unfoldable pub element_with_member : Member → ElementFields → ElementFields
element_with_member (Direction direction) old = record old { direction = direction }
element_with_member (Align align) old = record old { format = align }
element_with_member (Indent indent) old = record old { indent = indent }
element_with_member (TextFormat format) old = record old { text_format = format }
element_with_member (TextStyle style) old = record old { text_style = style }
element_with_member member old = record old { extra = with_extra member old.extra }

-- a member written in a text or tab
unfoldable pub text_with_member : Member → TextFields → TextFields
text_with_member (Text text) old = record old { text = text }
text_with_member (Format format) old = record old { format = format }
text_with_member (Style style) old = record old { style = style }
text_with_member (Detail detail) old = record old { detail = detail }
text_with_member (Mode mode) old = record old { mode = mode }
text_with_member member old = old

-- a member written in an embed's source: where it has none such, all stays
unfoldable pub with_source : Member → List ℕ → List ℕ
with_source (Src source) old = source
with_source member old = old

-- a member written in fields: those that have none such stay as they are
unfoldable pub with_member : Member → Fields → Fields
with_member member (fields.Element old) = fields.Element (element_with_member member old)
with_member member (fields.Text old) = fields.Text (text_with_member member old)
with_member member (fields.Embed old) = fields.Embed (with_source member old)
with_member member fields.Bare = fields.Bare

-- ---- patches

-- the fields with all members written, in their order
abbrev pub with_members : List Member → Fields → Fields
with_members [] old = old
with_members (member ∷ members) old = with_members members (with_member member old)

-- the fields of a kind with all members written, where each may be set on that kind
unfoldable pub patched : Kind → List Member → Fields → Option Fields
patched kind members old = if list_all (has kind) members then Some (with_members members old) else None

-- refused for the kind, where a member can't be set on it, or memory ran out
abbrev pub RefusesKind : Kind → Option Fields → Fault → Type 0
RefusesKind kind made Memory = Unit {0}
RefusesKind kind made (Refused cause) = (cause ≡ WrongKind kind) × (made ≡ None)

-- ---- values within their ranges: those that a field of its type may have, and no kind's fields

-- whether a member's value is within the range that the fields of every kind keep
unfoldable pub is_in_range : Member → Bool
is_in_range (Start start) = leb start 1000000
is_in_range (HeaderState header) = leb header 3
is_in_range (ColSpan span) = is_span span
is_in_range (RowSpan span) = is_span span
is_in_range (Detail detail) = leb detail 3
is_in_range member = true

-- a member's value is within the range that the fields of every kind keep
abbrev pub IsInRange : Member → Type 0
IsInRange member = IsTrue (is_in_range member)
