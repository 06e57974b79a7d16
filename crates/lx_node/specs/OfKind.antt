-- Which fields are those of a kind. What the type of a field bounds already, such as a format's 65,535, isn't repeated.
use Rattle.std.specs.Prelude.{ℕ, List, [], ◌∷◌, Bool, true, false, ◌&&◌, leb, eqb, IsTrue}
use Rattle.lx_node.specs.declared.kind.Kind.{Kind}
use Rattle.lx_node.specs.declared.kind.Kind.TheVariants.{List as ListKind, Item, Link, Cell, Text, Tab, Break, Rule, Embed}
use Rattle.lx_node.specs.declared.fields.Mode.{Mode}
use Rattle.lx_node.specs.declared.fields.Mode.TheVariants.{Normal}
use Rattle.lx_node.specs.declared.fields.TextFields.{TextFields}
use Rattle.lx_node.specs.declared.fields.Extra.{Extra}
use Rattle.lx_node.specs.declared.fields.Extra.TheVariants as extra
use Rattle.lx_node.specs.declared.fields.Fields.{Fields}
use Rattle.lx_node.specs.declared.fields.Fields.TheVariants as fields
use Rattle.lx_node.specs.Kinds.{is_possible}

-- ---- what an element has beside what every element has

-- an element has nothing of its own kind
unfoldable pub is_plain : Extra → Bool
is_plain extra.Plain = true
is_plain _ = false

-- a list begins with a number up to 1,000,000
unfoldable pub is_list_extra : Extra → Bool
is_list_extra (extra.List start) = leb start 1000000
is_list_extra _ = false

-- an item has a number up to 1,200,000, and is checked, not checked, or neither
unfoldable pub is_item_extra : Extra → Bool
is_item_extra (extra.Item value checked) = leb value 1200000
is_item_extra _ = false

-- what a link has: its rel, target, title and URL, without a bound
unfoldable pub is_link_extra : Extra → Bool
is_link_extra (extra.Link rel target title url) = true
is_link_extra _ = false

-- a cell spans 1 to 1000 rows or columns
unfoldable pub is_span : ℕ → Bool
is_span span = leb 1 span && leb span 1000

-- a cell has a header of four bits at most, 0 to 3, two spans and a background
unfoldable pub is_cell_extra : Extra → Bool
is_cell_extra (extra.Cell header row_span col_span background) = leb header 3 && (is_span row_span && is_span col_span)
is_cell_extra _ = false

-- what the elements of a kind have
unfoldable pub is_extra_of : Kind → Extra → Bool
is_extra_of (ListKind type) extra = is_list_extra extra
is_extra_of Item extra = is_item_extra extra
is_extra_of Link extra = is_link_extra extra
is_extra_of Cell extra = is_cell_extra extra
is_extra_of _ extra = is_plain extra

-- ---- what a text has, and a tab

-- the mode is the normal one
unfoldable pub is_normal : Mode → Bool
is_normal Normal = true
is_normal _ = false

-- the text is the one character U+0009
unfoldable pub is_tab_text : List ℕ → Bool
is_tab_text [] = false
is_tab_text (c ∷ []) = eqb c 9
is_tab_text (c ∷ d ∷ cs) = false

-- a text's detail has no more than two bits
unfoldable pub are_text_fields : TextFields → Bool
are_text_fields text = leb text.detail 3

-- a tab has its own text, is unmergeable and not directionless, and of normal mode
unfoldable pub are_tab_fields : TextFields → Bool
are_tab_fields text = is_tab_text text.text && (eqb text.detail 2 && is_normal text.mode)

-- ---- the fields of each kind

-- fields are an element's, with what elements of the kind have
unfoldable pub is_element_of : Kind → Fields → Bool
is_element_of kind (fields.Element element) = is_extra_of kind element.extra
is_element_of kind _ = false

-- fields are a text's or a tab's, and pass a test
unfoldable pub is_text_of : (TextFields → Bool) → Fields → Bool
is_text_of test (fields.Text text) = test text
is_text_of test _ = false

-- fields are an embed's
unfoldable pub are_embed_fields : Fields → Bool
are_embed_fields (fields.Embed source) = true
are_embed_fields _ = false

-- there are no fields
unfoldable pub are_bare : Fields → Bool
are_bare fields.Bare = true
are_bare _ = false

-- the fields are of the kind's variant and within its ranges
unfoldable pub fits_kind : Kind → Fields → Bool
fits_kind Text fields = is_text_of are_text_fields fields
fits_kind Tab fields = is_text_of are_tab_fields fields
fits_kind Break fields = are_bare fields
fits_kind Rule fields = are_bare fields
fits_kind Embed fields = are_embed_fields fields
fits_kind kind fields = is_element_of kind fields

-- the kind is one that a node can be, and the fields are of its variant and within its ranges
unfoldable pub is_of_kind : Kind → Fields → Bool
is_of_kind kind fields = is_possible kind && fits_kind kind fields

-- a node can be of the kind, and the fields are of its variant and within its ranges
abbrev pub IsOfKind : Kind → Fields → Type 0
IsOfKind kind fields = IsTrue (is_of_kind kind fields)
