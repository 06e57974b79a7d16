-- Types of nodes: rows of the table of kinds.
use Rattle.std.specs.Prelude.{ℕ}
use Rattle.lx_node.specs.declared.kind.Kind.{Kind}
use Rattle.lx_node.specs.declared.kind.Kind.TheVariants.{Root, Paragraph, Heading, Quote, List as ListKind, Item, Link, Table, Row, Cell, Text, Tab, Break, Rule, Embed}
use Rattle.lx_step.specs.declared.rule.TypeRow.{TypeRow}

-- how many rows the table has
abbrev pub rows_in_table : ℕ
rows_in_table = 15

-- the row of a kind's type in the table of kinds, from 0
unfoldable pub row_of : Kind → ℕ
row_of Root = 0
row_of Paragraph = 1
row_of (Heading level) = 2
row_of Quote = 3
row_of (ListKind type) = 4
row_of Item = 5
row_of Link = 6
row_of Table = 7
row_of Row = 8
row_of Cell = 9
row_of Text = 10
row_of Tab = 11
row_of Break = 12
row_of Rule = 13
row_of Embed = 14

-- the type of a kind
abbrev pub type_of : Kind → TypeRow
type_of kind = record { 0 = row_of kind }
