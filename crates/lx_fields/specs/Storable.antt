-- What is known of fields in code alone: their texts have scalar values alone, and their numbers have the width of their types.
use Rattle.std.specs.Prelude.{◌≡◌, ◌≤◌, ℕ, List, chars, encode_utf8_all, Option, None, Some}
use Rattle.lx_node.specs.declared.fields.TextFields.{TextFields}
use Rattle.lx_node.specs.declared.fields.ElementFields.{ElementFields}
use Rattle.lx_node.specs.declared.fields.Extra.{Extra}
use Rattle.lx_node.specs.declared.fields.Extra.TheVariants as extra
use Rattle.lx_node.specs.declared.fields.Fields.{Fields}
use Rattle.lx_node.specs.declared.fields.Fields.TheVariants as fields

-- a list of scalar values: what is written of it in UTF-8 is read as the same
abbrev pub IsText : List ℕ → Type 0
IsText text = chars (encode_utf8_all text) ≡ text

-- the same of a text that may be missing: it is a list of scalar values
abbrev pub IsTextIfAny : Option (List ℕ) → Type 0
IsTextIfAny None = Unit {0}
IsTextIfAny (Some text) = IsText text

-- a number of 16 bits
abbrev pub IsShort : ℕ → Type 0
IsShort n = n ≤ 65535

-- what is known in code of the four texts of a link
pub record IsLinkStorable (rel target title : Option (List ℕ)) (url : List ℕ) : Type 0 where
  pub of_rel : IsTextIfAny rel
  pub of_target : IsTextIfAny target
  pub of_title : IsTextIfAny title
  pub of_url : IsText url

-- what is known in code of what an element has of its own kind
abbrev pub IsExtraStorable : Extra → Type 0
IsExtraStorable (extra.Link rel target title url) = IsLinkStorable rel target title url
IsExtraStorable (extra.Cell header row_span col_span background) = IsTextIfAny background
IsExtraStorable extra = Unit {0}

-- what is known in code of an element's fields
pub record IsElementStorable (e : ElementFields) : Type 0 where
  pub indent : IsShort e.indent
  pub text_format : IsShort e.text_format
  pub text_style : IsText e.text_style
  pub extra : IsExtraStorable e.extra

-- what is known in code of the fields of a text or tab
pub record IsTextStorable (t : TextFields) : Type 0 where
  pub text : IsText t.text
  pub format : IsShort t.format
  pub style : IsText t.style

-- what is known in code of the fields of any node: texts of scalar values, and numbers of 16 bits
abbrev pub IsStorable : Fields → Type 0
IsStorable (fields.Element e) = IsElementStorable e
IsStorable (fields.Text t) = IsTextStorable t
IsStorable (fields.Embed source) = IsText source
IsStorable fields.Bare = Unit {0}
