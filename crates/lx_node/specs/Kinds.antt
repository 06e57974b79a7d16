-- What a kind is called, and which kinds it may hold.
use Rattle.std.specs.Prelude.{ℕ, List, Bool, true, false, not, ◌||◌, ◌&&◌, leb, codes}
use Rattle.lx_node.specs.declared.kind.Kind.{Kind}
use Rattle.lx_node.specs.declared.kind.Kind.TheVariants.{Root, Paragraph, Heading, Quote, List as ListKind, Item, Link, Table, Row, Cell, Text, Tab, Break, Rule, Embed}

-- what a kind is called in documents and replies
unfoldable pub type_name : Kind → List ℕ
type_name Root = codes "root"
type_name Paragraph = codes "paragraph"
type_name (Heading level) = codes "heading"
type_name Quote = codes "quote"
type_name (ListKind type) = codes "list"
type_name Item = codes "listitem"
type_name Link = codes "link"
type_name Table = codes "table"
type_name Row = codes "tablerow"
type_name Cell = codes "tablecell"
type_name Text = codes "text"
type_name Tab = codes "tab"
type_name Break = codes "linebreak"
type_name Rule = codes "horizontalrule"
type_name Embed = codes "embed"

-- ---- the table of kinds

-- what comes in a line of text
unfoldable pub is_inline : Kind → Bool
is_inline Text = true
is_inline Tab = true
is_inline Break = true
is_inline Link = true
is_inline Embed = true
is_inline _ = false

-- what comes below the root or in a cell
unfoldable pub is_block : Kind → Bool
is_block Paragraph = true
is_block (Heading level) = true
is_block Quote = true
is_block (ListKind type) = true
is_block Table = true
is_block Rule = true
is_block _ = false

-- whether this is the kind of a paragraph
unfoldable pub is_paragraph : Kind → Bool
is_paragraph Paragraph = true
is_paragraph _ = false

-- whether this is the kind of a heading, whatever its level
unfoldable pub is_heading : Kind → Bool
is_heading (Heading level) = true
is_heading _ = false

-- whether this is the kind of a list, whatever its type
unfoldable pub is_list : Kind → Bool
is_list (ListKind type) = true
is_list _ = false

-- whether this is the kind of a list's item
unfoldable pub is_item : Kind → Bool
is_item Item = true
is_item _ = false

-- whether this is the kind of a link
unfoldable pub is_link : Kind → Bool
is_link Link = true
is_link _ = false

-- whether this is the kind of a table
unfoldable pub is_table : Kind → Bool
is_table Table = true
is_table _ = false

-- whether this is the kind of a table's row
unfoldable pub is_row : Kind → Bool
is_row Row = true
is_row _ = false

-- whether this is the kind of a row's cell
unfoldable pub is_cell : Kind → Bool
is_cell Cell = true
is_cell _ = false

-- whether this is the kind of a text
unfoldable pub is_text : Kind → Bool
is_text Text = true
is_text _ = false

-- whether this is the kind of an embed
unfoldable pub is_embed : Kind → Bool
is_embed Embed = true
is_embed _ = false

-- what has characters
unfoldable pub has_characters : Kind → Bool
has_characters Text = true
has_characters Tab = true
has_characters _ = false

-- what holds a line of text of its own
unfoldable pub is_text_block : Kind → Bool
is_text_block Paragraph = true
is_text_block (Heading level) = true
is_text_block Quote = true
is_text_block Item = true
is_text_block _ = false

-- what may have children: an element; all else is a leaf
unfoldable pub is_element : Kind → Bool
is_element Text = false
is_element Tab = false
is_element Break = false
is_element Rule = false
is_element Embed = false
is_element _ = true

-- the root and cells hold blocks, paragraphs and headings inlines, quotes inlines, paragraphs, headings and lists,
-- lists items, items inlines and lists, links other inlines, tables rows, rows cells, and leaves nothing
unfoldable pub may_hold : Kind → Kind → Bool
may_hold Root child = is_block child
may_hold Paragraph child = is_inline child
may_hold (Heading level) child = is_inline child
may_hold Quote child = is_inline child || (is_paragraph child || (is_heading child || is_list child))
may_hold (ListKind type) child = is_item child
may_hold Item child = is_inline child || is_list child
may_hold Link child = is_inline child && not (is_link child)
may_hold Table child = is_row child
may_hold Row child = is_cell child
may_hold Cell child = is_block child
may_hold _ child = false

-- which kinds may be without children: all but a link, a list and a table, which are taken out when they are empty
unfoldable pub may_be_empty : Kind → Bool
may_be_empty Link = false
may_be_empty (ListKind type) = false
may_be_empty Table = false
may_be_empty _ = true

-- what a node can be: every kind but a heading whose level isn't from 1 to 6
unfoldable pub is_possible : Kind → Bool
is_possible (Heading level) = leb 1 level && leb level 6
is_possible _ = true
