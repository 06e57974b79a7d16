-- The characters of the strings in fields, and numbers of them as a machine counts.
use Rattle.std.specs.Prelude.{ℕ, ◌+◌, ◌-◌, ◌^◌, List, length, min, Option, None, Some}
use Rattle.lx_node.specs.declared.fields.TextFields.{TextFields}
use Rattle.lx_node.specs.declared.fields.ElementFields.{ElementFields}
use Rattle.lx_node.specs.declared.fields.Extra.{Extra}
use Rattle.lx_node.specs.declared.fields.Extra.TheVariants as extra
use Rattle.lx_node.specs.declared.fields.Fields.{Fields}
use Rattle.lx_node.specs.declared.fields.Fields.TheVariants as fields

-- a number up to 2 ^ 64 - 1, and that one for all beyond
unfoldable pub capped : ℕ → ℕ
capped n = min n (2 ^ 64 - 1)

-- how many characters a string has that may be missing
unfoldable pub characters_of_optional : Option (List ℕ) → ℕ
characters_of_optional None = 0
characters_of_optional (Some text) = length text

-- how many characters a text's or a tab's fields have: its own and its style's
unfoldable pub characters_of_text : TextFields → ℕ
characters_of_text text = length text.text + length text.style

-- how many characters a link's four strings have, or a cell's background
unfoldable pub characters_of_extra : Extra → ℕ
characters_of_extra (extra.Link rel target title url) =
    characters_of_optional rel + characters_of_optional target + characters_of_optional title + length url
characters_of_extra (extra.Cell header row_span col_span background) = characters_of_optional background
characters_of_extra _ = 0

-- how many characters an element's fields have, with the style of its texts
unfoldable pub characters_of_element : ElementFields → ℕ
characters_of_element element = length element.text_style + characters_of_extra element.extra

-- how many Unicode scalar values are in all strings of the fields
unfoldable pub characters_of : Fields → ℕ
characters_of (fields.Element element) = characters_of_element element
characters_of (fields.Text text) = characters_of_text text
characters_of (fields.Embed source) = length source
characters_of fields.Bare = 0
