-- A piece of a node's text, and where it is.
use Rattle.std.specs.Prelude.{ℕ, ◌≡◌, ◌≤◌, ◌+◌, List, length, Some}
use Rattle.lx_node.specs.Cuts.{Cuts}
use Rattle.lx_node.specs.declared.fields.TextFields.{TextFields}
use Rattle.lx_text.specs.Texts.{front_of, rest_of, slice_of}
use Rattle.lx_forest.specs.Forest.{Forest}
use Rattle.lx_forest.specs.Lookups.{label_of}
use Rattle.lx_draft.specs.Faults.{text_in}
use Rattle.lx_draft.specs.Sizes.{AreShort}
use Rattle.lx_draft.specs.Working.{Working}
use Rattle.lx_draft.specs.declared.texts.Piece.{Piece}

-- the node is a text, and no tab, whose bytes are cut where the piece between two offsets begins and ends
pub record IsPlaced (key : ℕ) (piece : Piece) (f : Forest) : Type 0 where
  pub text : TextFields
  pub text_is : text_in (label_of f key) ≡ Some text
  pub cut : Cuts piece.front piece.bytes (front_of piece.from text.text) (slice_of piece.from piece.to text.text) (rest_of piece.to text.text) text.text

-- the texts are as short as what was written before a new piece makes them, and that piece is counted already
pub record IsShortBefore (new : List ℕ) (w : Working) : Type 0 where
  pub written : ℕ
  pub counted : written + length new ≤ w.written
  pub short : AreShort w.forest written
