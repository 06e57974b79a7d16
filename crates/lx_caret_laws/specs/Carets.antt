-- The draft of one who writes: where the caret is, and a text that changes while nothing else does.
use Rattle.std.specs.Prelude.{ℕ, ◌≡◌, ◌≢◌, ◌≤◌, ◌⊎◌, List, Some}
use Rattle.lx_node.specs.Kinds.{may_hold}
use Rattle.lx_node.specs.Limits.{most_written}
use Rattle.lx_node.specs.declared.kind.Kind.TheVariants.{Text}
use Rattle.lx_node.specs.declared.fields.TextFields.{TextFields}
use Rattle.lx_select.specs.declared.selection.Selection.TheVariants.{Range}
use Rattle.lx_forest.specs.Forest.{Forest}
use Rattle.lx_forest.specs.Lookups.{spot, label_of, parent_of, children_of, IsHeld}
use Rattle.lx_draft.specs.Working.{Working, TextsAreShort}
use Rattle.lx_draft.specs.Covering.{IsReady}
use Rattle.lx_draft.specs.Faults.{text_in}
use Rattle.lx_draft.specs.Steps.{text_replaced}
use Rattle.lx_edit.specs.Edits.{text_point}

-- a draft as an update of a committed state has it: in order, each node holds what it may, its texts are short, and no more
-- was written than an update may write
pub record IsSound (w : Working) : Type 0 where
  pub ready : IsReady w
  pub held : IsHeld may_hold w.forest
  pub short : TextsAreShort w
  pub written : w.written ≤ most_written

-- a range is selected in a text, from its anchor to its focus, of this format
abbrev pub SelectsIn : ℕ → ℕ → ℕ → ℕ → Working → Type 0
SelectsIn k anchor focus format w = w.selection ≡ Range (text_point k anchor) (text_point k focus) format

-- what is between two offsets of a text is selected, whichever point comes first
abbrev pub Selects : ℕ → ℕ → ℕ → ℕ → Working → Type 0
Selects k from to format w = SelectsIn k from to format w ⊎ SelectsIn k to from format w

-- the caret is at an offset of a text: both points of the selection are there
abbrev pub HasCaret : ℕ → ℕ → ℕ → Working → Type 0
HasCaret k at format w = SelectsIn k at at format w

-- the text k of the forest f reads this in g, and nothing else changed: the text has its place and its other fields, and each
-- other node its label, its place and its children
pub record OnlyReads (k : ℕ) (now : List ℕ) (f g : Forest) : Type 0 where
  pub text : (text : TextFields) → text_in (label_of f k) ≡ Some text →
      label_of g k ≡ Some (record { key = k; kind = Text; fields = text_replaced text now })
  pub parent : parent_of g k ≡ parent_of f k
  pub children : children_of g k ≡ children_of f k
  pub others : (q : ℕ) → q ≢ k → spot g q ≡ spot f q
