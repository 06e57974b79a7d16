-- A splice of a node's text, whose piece is given by numbers of bytes.
use Rattle.std.specs.Prelude.{ℕ, ◌+◌, ◌-◌, ◌≡◌, ◌++◌, nat_le, if◌then◌else◌, List, [], ◌∷◌, Some, chars}
use Rattle.std.specs.Char.{len_utf8}
use Rattle.lx_node.specs.Cuts.{IsCut}
use Rattle.lx_node.specs.declared.kind.Kind.TheVariants.{Text}
use Rattle.lx_node.specs.declared.fields.TextFields.{TextFields}
use Rattle.lx_node.specs.declared.fields.Fields.{Fields}
use Rattle.lx_node.specs.declared.fields.Fields.TheVariants as fields
use Rattle.lx_node.specs.declared.node.Node.{Node}
use Rattle.lx_forest.specs.Forest.{Forest}
use Rattle.lx_forest.specs.Lookups.{kind_of, fields_of}
use Rattle.lx_links.specs.declared.splices.TextSplice.{TextSplice}

-- the text up to so many bytes
unfoldable pub before_byte : ℕ → List ℕ → List ℕ
before_byte bytes [] = []
before_byte bytes (c ∷ text) = if nat_le (len_utf8 c) bytes then c ∷ before_byte (bytes - len_utf8 c) text else []

-- the text from so many bytes on
unfoldable pub from_byte : ℕ → List ℕ → List ℕ
from_byte bytes [] = []
from_byte bytes (c ∷ text) = if nat_le (len_utf8 c) bytes then from_byte (bytes - len_utf8 c) text else c ∷ text

-- the text with another piece in the place of one
abbrev pub text_spliced : TextSplice → List ℕ → List ℕ
text_spliced splice text = before_byte splice.front text ++ chars splice.text.now ++ from_byte (splice.front + splice.piece) text

-- fields with a piece of their text replaced: those that have no text stay as they are
abbrev pub fields_spliced : TextSplice → Fields → Fields
fields_spliced splice (fields.Text old) = fields.Text (record old { text = text_spliced splice old.text })
fields_spliced splice other = other

-- a node with a piece of its text replaced
abbrev pub node_spliced : TextSplice → Node → Node
node_spliced splice n = record n { fields = fields_spliced splice n.fields }

-- a text may be cut where the piece begins and where it ends
abbrev pub FitsFields : TextSplice → Fields → Type 0
FitsFields splice (fields.Text text) = IsCut splice.front splice.piece text.text
FitsFields splice other = Unit {0}

-- the text of a node may be cut so
abbrev pub FitsSplice : TextSplice → Node → Type 0
FitsSplice splice n = FitsFields splice n.fields

-- the node is a text, and no tab, which may be cut in three there
pub record MaySplice (key front piece : ℕ) (f : Forest) : Type 0 where
  pub text : TextFields
  pub kind_is : kind_of f key ≡ Some Text
  pub fields_is : fields_of f key ≡ Some (fields.Text text)
  pub cut : IsCut front piece text.text
