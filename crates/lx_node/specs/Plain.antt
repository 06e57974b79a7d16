-- Fields of which little is set.
use Rattle.std.specs.Prelude.{ℕ, List, []}
use Rattle.lx_node.specs.declared.fields.TextFields.{TextFields}
use Rattle.lx_node.specs.declared.fields.ElementFields.{ElementFields}
use Rattle.lx_node.specs.declared.fields.Extra.{Extra}
use Rattle.lx_node.specs.declared.fields.Extra.TheVariants as extra
use Rattle.lx_node.specs.declared.fields.Fields.{Fields}
use Rattle.lx_node.specs.declared.fields.Fields.TheVariants as fields
use Rattle.lx_node.specs.declared.fields.Direction.TheVariants as direction
use Rattle.lx_node.specs.declared.fields.Align.TheVariants as align
use Rattle.lx_node.specs.declared.fields.Mode.TheVariants as mode

-- what an element has of which only this is set
abbrev pub element_with : Extra → ElementFields
element_with extra = record { direction = direction.Unset; format = align.Unset; indent = 0; text_format = 0; text_style = []; extra = extra }

-- the fields of an element of which nothing is set
abbrev pub plain_element : Fields
plain_element = fields.Element (element_with extra.Plain)

-- what a text has of which only its characters and its detail are set
abbrev pub text_with : List ℕ → ℕ → TextFields
text_with text detail = record { text = text; format = 0; detail = detail; mode = mode.Normal; style = [] }

-- the fields of a text of which only its characters are set
abbrev pub plain_text : List ℕ → Fields
plain_text text = fields.Text (text_with text 0)
