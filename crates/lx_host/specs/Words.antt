-- The words of tags and of attributes' names, in bytes.
use Rattle.std.specs.Prelude.{ℕ, ◌≤◌, ◌&&◌, Bool, true, List, [], ◌∷◌, ◌++◌, length, codes, Option, None, Some, IsTrue}
use Rattle.std.specs.declared.cmp.Ordering.{Ordering}
use Rattle.std.specs.Ordering.{nat_cmp, is_lt, match_ordering}
use Rattle.std.specs.Cmp.Lexicographic.{slice_cmp}
use Rattle.lx_node.specs.Limits.{last_u32}
use Rattle.lx_host.specs.declared.tag.Inner.{Inner}
use Rattle.lx_host.specs.declared.tag.Inner.TheVariants.{Strong, Em, Span}
use Rattle.lx_host.specs.declared.tag.Outer.{Outer}
use Rattle.lx_host.specs.declared.tag.Outer.TheVariants.{Code, Mark, Sub, Sup}
use Rattle.lx_host.specs.declared.tag.Tag.{Tag}
use Rattle.lx_host.specs.declared.tag.Tag.TheVariants.{Div, P, H1, H2, H3, H4, H5, H6, Blockquote, Ul, Ol, Li, A, Table, Tr, Th, Td, Br, Hr, Inline}
use Rattle.lx_host.specs.declared.tag.Name.{Name}
use Rattle.lx_host.specs.declared.tag.Name.TheVariants.{AriaChecked, Class, ColSpan, DataAlign, DataBg, DataIndent, DataLexicalDecorator, DataLexicalText, DataSrc, Dir, Href, Rel, Role, RowSpan, Start, Style, Target, Title, Value}

-- the word of an inner element
abbrev pub inner_word : Inner → List ℕ
inner_word Strong = codes "strong"
inner_word Em = codes "em"
inner_word Span = codes "span"

-- the word of an outer element
abbrev pub outer_word : Outer → List ℕ
outer_word Code = codes "code"
outer_word Mark = codes "mark"
outer_word Sub = codes "sub"
outer_word Sup = codes "sup"

-- the word of one element, or of two, of which the outer one comes first
abbrev pub inline_word : Option Outer → Inner → List ℕ
inline_word None inner = inner_word inner
inline_word (Some outer) inner = outer_word outer ++ codes ">" ++ inner_word inner

-- the word of a tag
unfoldable pub tag_word : Tag → List ℕ
tag_word Div = codes "div"
tag_word P = codes "p"
tag_word H1 = codes "h1"
tag_word H2 = codes "h2"
tag_word H3 = codes "h3"
tag_word H4 = codes "h4"
tag_word H5 = codes "h5"
tag_word H6 = codes "h6"
tag_word Blockquote = codes "blockquote"
tag_word Ul = codes "ul"
tag_word Ol = codes "ol"
tag_word Li = codes "li"
tag_word A = codes "a"
tag_word Table = codes "table"
tag_word Tr = codes "tr"
tag_word Th = codes "th"
tag_word Td = codes "td"
tag_word Br = codes "br"
tag_word Hr = codes "hr"
tag_word (Inline outer inner) = inline_word outer inner

-- the word of an attribute's name
unfoldable pub name_word : Name → List ℕ
name_word AriaChecked = codes "aria-checked"
name_word Class = codes "class"
name_word ColSpan = codes "colspan"
name_word DataAlign = codes "data-align"
name_word DataBg = codes "data-bg"
name_word DataIndent = codes "data-indent"
name_word DataLexicalDecorator = codes "data-lexical-decorator"
name_word DataLexicalText = codes "data-lexical-text"
name_word DataSrc = codes "data-src"
name_word Dir = codes "dir"
name_word Href = codes "href"
name_word Rel = codes "rel"
name_word Role = codes "role"
name_word RowSpan = codes "rowspan"
name_word Start = codes "start"
name_word Style = codes "style"
name_word Target = codes "target"
name_word Title = codes "title"
name_word Value = codes "value"

-- ---- the order of attributes

-- the names rise strictly in the byte order of their words
abbrev pub names_rise : List (Name × List ℕ) → Bool
names_rise [] = true
names_rise (a ∷ []) = true
names_rise (a ∷ b ∷ rest) = is_lt (slice_cmp nat_cmp (name_word a.0) (name_word b.0)) && names_rise (b ∷ rest)

-- what a host may have: names that rise, and no more than a list may have
pub record AreAttributes (attributes : List (Name × List ℕ)) : Type 0 where
  pub rise : IsTrue (names_rise attributes)
  pub few : length attributes ≤ last_u32

-- the order of two names, which is that of their words
abbrev pub name_order : Name → Name → Ordering
name_order a b = slice_cmp nat_cmp (name_word a) (name_word b)

-- an attribute before others, if it has a value
abbrev pub before_others : Name → Option (List ℕ) → List (Name × List ℕ) → List (Name × List ℕ)
before_others name None others = others
before_others name (Some value) others = (name, value) ∷ others

-- attributes whose names rise, with this one put before the first whose name comes later or in place of the one of its
-- name, or with that one left out where no value is given
abbrev pub with_attribute : Name → Option (List ℕ) → List (Name × List ℕ) → List (Name × List ℕ)
with_attribute name value [] = before_others name value []
with_attribute name value (a ∷ rest) =
    match_ordering (name_order name a.0)
    (before_others name value (a ∷ rest))
    (before_others name value rest)
    (a ∷ with_attribute name value rest)
