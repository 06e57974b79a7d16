-- The words of nodes' types and members, and what they stand for.
use Rattle.std.specs.Prelude.{Option, None, Some, if◌then◌else◌, ℕ, List, [], ◌∷◌, codes}
use Rattle.std.specs.Str.{bytes_eq}
use Rattle.lx_node.specs.Kinds.{type_name}
use Rattle.lx_node.specs.declared.kind.Kind.{Kind}
use Rattle.lx_node.specs.declared.kind.Kind.TheVariants.{Paragraph, Heading, Quote, List as ListKind, Item, Link, Table, Row, Cell, Text, Tab, Break, Rule, Embed}
use Rattle.lx_node.specs.declared.kind.ListType.{ListType}
use Rattle.lx_node.specs.declared.kind.ListType.TheVariants.{Bullet, Number, Check}
use Rattle.lx_node.specs.declared.fields.Mode.{Mode}
use Rattle.lx_node.specs.declared.fields.Mode.TheVariants.{Normal, Token, Segmented}
use Rattle.lx_node.specs.declared.fields.Direction.{Direction}
use Rattle.lx_node.specs.declared.fields.Direction.TheVariants as direction
use Rattle.lx_node.specs.declared.fields.Align.{Align}
use Rattle.lx_node.specs.declared.fields.Align.TheVariants as align
use Rattle.lx_fields.specs.declared.words.Name.{Name}
use Rattle.lx_fields.specs.declared.words.Name.TheVariants as name

-- The kinds of nodes that scripts make, by type: all but the root's. A heading and a list are those that they are by default.
abbrev pub made_kinds : List Kind
made_kinds =
    Paragraph ∷ Heading 1 ∷ Quote ∷ ListKind Bullet ∷ Item ∷ Link ∷ Table ∷ Row ∷ Cell ∷ Text ∷ Tab ∷ Break ∷ Rule ∷ Embed ∷ []

-- the kind of a type among these
abbrev pub kind_in : List Kind → List ℕ → Option Kind
kind_in [] text = None
kind_in (kind ∷ kinds) text = if bytes_eq (type_name kind) text then Some kind else kind_in kinds text

-- what a heading's tag says of its level
abbrev pub levels : List (List ℕ × ℕ)
levels = (codes "h1", 1) ∷ (codes "h2", 2) ∷ (codes "h3", 3) ∷ (codes "h4", 4) ∷ (codes "h5", 5) ∷ (codes "h6", 6) ∷ []

-- the words for the types of lists
abbrev pub list_types : List (List ℕ × ListType)
list_types = (codes "bullet", Bullet) ∷ (codes "number", Number) ∷ (codes "check", Check) ∷ []

-- the words for directions of writing
abbrev pub directions : List (List ℕ × Direction)
directions = (codes "ltr", direction.Ltr) ∷ (codes "rtl", direction.Rtl) ∷ []

-- the words for alignments
abbrev pub aligns : List (List ℕ × Align)
aligns =
    (codes "", align.Unset) ∷ (codes "left", align.Left) ∷ (codes "center", align.Center) ∷ (codes "right", align.Right)
    ∷ (codes "justify", align.Justify) ∷ (codes "start", align.Start) ∷ (codes "end", align.End) ∷ []

-- the words for the modes of texts
abbrev pub modes : List (List ℕ × Mode)
modes = (codes "normal", Normal) ∷ (codes "token", Token) ∷ (codes "segmented", Segmented) ∷ []

-- the members of nodes that documents and scripts name, in byte order
abbrev pub names : List (List ℕ × Name)
names =
    (codes "backgroundColor", name.Background) ∷ (codes "checked", name.Checked) ∷ (codes "colSpan", name.ColSpan)
    ∷ (codes "detail", name.Detail) ∷ (codes "direction", name.Direction) ∷ (codes "format", name.Format)
    ∷ (codes "headerState", name.HeaderState) ∷ (codes "indent", name.Indent) ∷ (codes "listType", name.ListType)
    ∷ (codes "mode", name.Mode) ∷ (codes "rel", name.Rel) ∷ (codes "rowSpan", name.RowSpan) ∷ (codes "src", name.Src)
    ∷ (codes "start", name.Start) ∷ (codes "style", name.Style) ∷ (codes "tag", name.Tag) ∷ (codes "target", name.Target)
    ∷ (codes "text", name.Text) ∷ (codes "textFormat", name.TextFormat) ∷ (codes "textStyle", name.TextStyle)
    ∷ (codes "title", name.Title) ∷ (codes "url", name.Url) ∷ (codes "value", name.Value) ∷ []
