-- How a node is shown. The attributes are in byte order of their names.
use Rattle.std.specs.Prelude.{ℕ, ◌/◌, ◌%◌, ◌==◌, ◌&&◌, ◌++◌, Bool, true, false, not, nat_lt, if◌then◌else◌, List, [], ◌∷◌, codes, decimal, Option, None, Some}
use Rattle.lx_trees.specs.Trees.{Trees, nil, tree}
use Rattle.lx_node.specs.Kinds.{is_text_block}
use Rattle.lx_node.specs.declared.kind.Kind.{Kind}
use Rattle.lx_node.specs.declared.kind.Kind.TheVariants as kind
use Rattle.lx_node.specs.declared.kind.ListType.{ListType}
use Rattle.lx_node.specs.declared.kind.ListType.TheVariants.{Bullet, Number, Check}
use Rattle.lx_node.specs.declared.fields.Fields.{Fields}
use Rattle.lx_node.specs.declared.fields.Fields.TheVariants as fields
use Rattle.lx_node.specs.declared.fields.Direction.{Direction}
use Rattle.lx_node.specs.declared.fields.Direction.TheVariants as direction
use Rattle.lx_node.specs.declared.fields.Align.{Align}
use Rattle.lx_node.specs.declared.fields.Align.TheVariants as align
use Rattle.lx_node.specs.declared.fields.Extra.{Extra}
use Rattle.lx_node.specs.declared.fields.Extra.TheVariants as extra
use Rattle.lx_node.specs.declared.fields.ElementFields.{ElementFields}
use Rattle.lx_node.specs.declared.fields.TextFields.{TextFields}
use Rattle.lx_host.specs.declared.tag.Tag.{Tag}
use Rattle.lx_host.specs.declared.tag.Tag.TheVariants.{Div, P, H1, H2, H3, H4, H5, H6, Blockquote, Ul, Ol, Li, A, Table, Tr, Th, Td, Br, Hr, Inline}
use Rattle.lx_host.specs.declared.tag.Inner.{Inner}
use Rattle.lx_host.specs.declared.tag.Inner.TheVariants.{Strong, Em, Span}
use Rattle.lx_host.specs.declared.tag.Outer.{Outer}
use Rattle.lx_host.specs.declared.tag.Outer.TheVariants.{Code, Mark, Sub, Sup}
use Rattle.lx_host.specs.declared.tag.Name.{Name}
use Rattle.lx_host.specs.declared.tag.Name.TheVariants.{AriaChecked, Class, ColSpan, DataAlign, DataBg, DataIndent, DataLexicalDecorator, DataLexicalText, DataSrc, Dir, Href, Rel, Role, RowSpan, Start, Style, Target, Title, Value}
use Rattle.lx_host.specs.Hosts.{Face}
use Rattle.lx_forest.specs.Forest.{Label, Forest}

-- an attribute, if there is a value for it
abbrev pub given : Name → Option (List ℕ) → List (Name × List ℕ)
given name None = []
given name (Some value) = (name, value) ∷ []

-- a value, if a test holds
abbrev pub when : Bool → List ℕ → Option (List ℕ)
when test value = if test then Some value else None

-- ---- texts

-- Whether a format has a bit: bold 1, italic 2, strikethrough 4, underline 8, code 16, subscript 32, superscript 64 and
-- highlight 128.
abbrev pub has_bit : ℕ → ℕ → Bool
has_bit bit format = format / bit % 2 == 1

-- the inner element of a text with this format
abbrev pub inner_of : ℕ → Inner
inner_of format = if has_bit 1 format then Strong else (if has_bit 2 format then Em else Span)

-- the outer element of a text with this format, if the format asks for one
abbrev pub outer_of : ℕ → Option Outer
outer_of format =
    if has_bit 16 format then Some Code else (if has_bit 128 format then Some Mark else
    (if has_bit 32 format then Some Sub else (if has_bit 64 format then Some Sup else None)))

-- words with one space between
abbrev pub spaced : List (List ℕ) → List ℕ
spaced [] = []
spaced (word ∷ []) = word
spaced (word ∷ next ∷ words) = word ++ codes " " ++ spaced (next ∷ words)

-- a class, if the format has its bit
abbrev pub class_if : ℕ → ℕ → List ℕ → List (List ℕ)
class_if bit format word = if has_bit bit format then word ∷ [] else []

-- the classes of a format, one for each bit
abbrev pub classes_of : ℕ → List (List ℕ)
classes_of format =
    class_if 1 format (codes "bold") ++ class_if 2 format (codes "italic") ++ class_if 4 format (codes "strikethrough")
    ++ class_if 8 format (codes "underline") ++ class_if 16 format (codes "code") ++ class_if 32 format (codes "subscript")
    ++ class_if 64 format (codes "superscript") ++ class_if 128 format (codes "highlight")

-- a text, if it has characters
abbrev pub not_empty : List ℕ → Option (List ℕ)
not_empty [] = None
not_empty (c ∷ text) = Some (c ∷ text)

-- the attributes of a text or tab: its classes, the mark of a text, and its style
abbrev pub text_attributes : TextFields → List (Name × List ℕ)
text_attributes t =
    given Class (not_empty (spaced (classes_of t.format)))
    ++ given DataLexicalText (Some (codes "true"))
    ++ given Style (not_empty t.style)

-- ---- elements

-- the word of a direction, if it is set
abbrev pub direction_word : Direction → Option (List ℕ)
direction_word direction.Unset = None
direction_word direction.Ltr = Some (codes "ltr")
direction_word direction.Rtl = Some (codes "rtl")

-- the word of an alignment, if it is set
abbrev pub align_word : Align → Option (List ℕ)
align_word align.Unset = None
align_word align.Left = Some (codes "left")
align_word align.Center = Some (codes "center")
align_word align.Right = Some (codes "right")
align_word align.Justify = Some (codes "justify")
align_word align.Start = Some (codes "start")
align_word align.End = Some (codes "end")

-- the word of a truth value
abbrev pub truth_word : Bool → List ℕ
truth_word true = codes "true"
truth_word false = codes "false"

-- a span, if it is above 1
abbrev pub span_word : ℕ → Option (List ℕ)
span_word span = when (nat_lt 1 span) (decimal span)

-- whether an item is checked, if it says so or the contrary
abbrev pub checked_word : Option Bool → Option (List ℕ)
checked_word None = None
checked_word (Some checked) = Some (truth_word checked)

-- the role of an item that says whether it is checked
abbrev pub role_word : Option Bool → Option (List ℕ)
role_word None = None
role_word (Some checked) = Some (codes "checkbox")

-- the start of a numbered list, if it isn't 1
abbrev pub start_word : Kind → ℕ → Option (List ℕ)
start_word (kind.List Number) start = when (not (start == 1)) (decimal start)
start_word other start = None

-- the attributes of an element's own kind that come before `data-align`
abbrev pub first_attributes : Extra → List (Name × List ℕ)
first_attributes (extra.Item value checked) = given AriaChecked (checked_word checked)
first_attributes (extra.Cell header row_span col_span background) = given ColSpan (span_word col_span)
first_attributes other = []

-- the attributes of an element's own kind that come between `data-align` and `data-indent`
abbrev pub middle_attributes : Extra → List (Name × List ℕ)
middle_attributes (extra.Cell header row_span col_span background) = given DataBg background
middle_attributes other = []

-- the attributes of an element's own kind that come after `dir`
abbrev pub last_attributes : Kind → Extra → List (Name × List ℕ)
last_attributes k extra.Plain = []
last_attributes k (extra.List start) = given Start (start_word k start)
last_attributes k (extra.Item value checked) = given Role (role_word checked) ++ given Value (Some (decimal value))
last_attributes k (extra.Link rel target title url) =
    given Href (Some url) ++ given Rel rel ++ given Target target ++ given Title title
last_attributes k (extra.Cell header row_span col_span background) = given RowSpan (span_word row_span)

-- all attributes of an element
abbrev pub element_attributes : Kind → ElementFields → List (Name × List ℕ)
element_attributes k e =
    first_attributes e.extra
    ++ given DataAlign (align_word e.format)
    ++ middle_attributes e.extra
    ++ given DataIndent (when (nat_lt 0 e.indent) (decimal e.indent))
    ++ given Dir (direction_word e.direction)
    ++ last_attributes k e.extra

-- ---- any node

-- the attribute that a rule and an embed have
abbrev pub decorated : List (Name × List ℕ)
decorated = given DataLexicalDecorator (Some (codes "true"))

-- the attributes by which a node is shown
abbrev pub attributes_of : Kind → Fields → List (Name × List ℕ)
attributes_of k (fields.Element e) = element_attributes k e
attributes_of k (fields.Text t) = text_attributes t
attributes_of k (fields.Embed src) = decorated ++ given DataSrc (Some src)
attributes_of kind.Rule fields.Bare = decorated
attributes_of other fields.Bare = []

-- the tag of a heading's level
abbrev pub heading_tag : ℕ → Tag
heading_tag level =
    if level == 1 then H1 else (if level == 2 then H2 else (if level == 3 then H3 else
    (if level == 4 then H4 else (if level == 5 then H5 else H6))))

-- the tag of a list's type
abbrev pub list_tag : ListType → Tag
list_tag Bullet = Ul
list_tag Number = Ol
list_tag Check = Ul

-- the format of a text or tab, and 0 for any other node
abbrev pub format_of : Fields → ℕ
format_of (fields.Text t) = t.format
format_of other = 0

-- the header of what a cell has of its own kind, and 0 for any other element
abbrev pub header_of_extra : Extra → ℕ
header_of_extra (extra.Cell header row_span col_span background) = header
header_of_extra other = 0

-- the header of a cell, and 0 for any other node
abbrev pub header_of : Fields → ℕ
header_of (fields.Element e) = header_of_extra e.extra
header_of other = 0

-- the tag by which a node is shown
abbrev pub tag_of : Kind → Fields → Tag
tag_of kind.Root f = Div
tag_of kind.Paragraph f = P
tag_of (kind.Heading level) f = heading_tag level
tag_of kind.Quote f = Blockquote
tag_of (kind.List type) f = list_tag type
tag_of kind.Item f = Li
tag_of kind.Link f = A
tag_of kind.Table f = Table
tag_of kind.Row f = Tr
tag_of kind.Cell f = if header_of f == 0 then Td else Th
tag_of kind.Text f = Inline (outer_of (format_of f)) (inner_of (format_of f))
tag_of kind.Tab f = Inline (outer_of (format_of f)) (inner_of (format_of f))
tag_of kind.Break f = Br
tag_of kind.Rule f = Hr
tag_of kind.Embed f = Inline None Span

-- the text that is shown for a text or tab
abbrev pub text_of : Fields → Option (List ℕ)
text_of (fields.Text t) = Some t.text
text_of other = None

-- ---- endings

-- whether a line that ends with a node of this kind, or is empty, needs a line break to have its height
abbrev pub is_open : Option Kind → Bool
is_open None = true
is_open (Some kind.Break) = true
is_open (Some kind.Embed) = true
is_open (Some other) = false

-- the kind of the last tree, if there is one
abbrev pub last_kind : Forest → Option Kind
last_kind nil = None
last_kind (tree label below nil) = Some label.kind
last_kind (tree label below rest) = last_kind rest

-- whether a node is a text block that needs a line break at its end for its height, by its last child's kind
abbrev pub needs_break : Kind → Option Kind → Bool
needs_break k last = is_text_block k && is_open last

-- ---- rendering

-- what shows a node, by its last child's kind
abbrev pub face_of : Label → Option Kind → Face
face_of label last = record {
  key = label.key;
  tag = tag_of label.kind label.fields;
  attrs = attributes_of label.kind label.fields;
  text = text_of label.fields;
  ending = needs_break label.kind last;
}

-- what shows these trees
abbrev pub render : Forest → Trees Face
render nil = nil
render (tree label below rest) = tree (face_of label (last_kind below)) (render below) (render rest)
