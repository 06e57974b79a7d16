-- What a command needs of the selection, and the caret.
use Rattle.std.specs.Prelude.{ℕ, ◌==◌, ◌&&◌, Bool, if◌then◌else◌, Option, None, Some, Result, Ok, Err}
use Rattle.lx_node.specs.declared.cause.Cause.{Cause}
use Rattle.lx_node.specs.declared.cause.Cause.TheVariants.{NoSelection}
use Rattle.lx_node.specs.declared.cause.SelectionKind.TheVariants as kinds
use Rattle.lx_node.specs.declared.cause.Point.{Point}
use Rattle.lx_node.specs.declared.fields.TextFields.{TextFields}
use Rattle.lx_node.specs.OfKind.{is_normal}
use Rattle.lx_select.specs.declared.selection.Selection.{Selection}
use Rattle.lx_select.specs.declared.selection.Selection.TheVariants.{Range}
use Rattle.lx_select.specs.Selection.{kind_of_selection, each_point}
use Rattle.lx_forest.specs.Forest.{Forest}
use Rattle.lx_forest.specs.Lookups.{label_of, fields_of, is_attached}
use Rattle.lx_draft.specs.Working.{Working}
use Rattle.lx_draft.specs.Selecting.{lies_in, length_of}
use Rattle.lx_draft.specs.Faults.{text_in}
use Rattle.lx_blocks.specs.declared.ranges.Ranged.{Ranged}
use Rattle.lx_blocks.specs.Blocks.{same_node, frame_of}
use Rattle.lx_blocks.specs.Places.{comes_first}

-- ---- ranges

-- a point lies in the root's tree
abbrev pub lies : Forest → Point → Bool
lies f p = is_attached f p.key && lies_in f p

-- both points lie in the root's tree, and in one frame
abbrev pub is_fit : Forest → Point → Point → Bool
is_fit f a b = (lies f a && lies f b) && same_node (frame_of f a.key) (frame_of f b.key)

-- the range that a selection of the forest is, or why it is none that a command can use
abbrev pub range_in : Forest → Selection → Result Ranged Cause
range_in f (Range a b format) =
    if is_fit f a b then Ok (record { anchor = a; focus = b; format = format }) else Err (NoSelection kinds.Range)
range_in f other = Err (NoSelection (kind_of_selection other))

-- the range of a draft that a command needs
unfoldable pub range_of : Working → Result Ranged Cause
range_of w = range_in w.forest w.selection

-- the range that a selection is, if it is one
abbrev pub shown_range : Selection → Option Ranged
shown_range (Range a b format) = Some (record { anchor = a; focus = b; format = format })
shown_range other = None

-- both points are at one offset of one node
abbrev pub is_collapsed : Ranged → Bool
is_collapsed r = (r.anchor.key == r.focus.key) && (r.anchor.offset == r.focus.offset)

-- of the points of a range the one that comes first
abbrev pub start_of : Forest → Ranged → Point
start_of f r = if comes_first f r.anchor r.focus then r.anchor else r.focus

-- of the points of a range the one that comes second
abbrev pub end_of : Forest → Ranged → Point
end_of f r = if comes_first f r.anchor r.focus then r.focus else r.anchor

-- ---- the caret

-- a draft with both points at one place, in the same format
abbrev pub caret_at : Point → Working → Working
caret_at there w = record w { selection = each_point (λ p. there) w.selection }

-- a step that goes by the anchor and the format of a range, refused as `NoSelection` for any other selection
abbrev pub at_anchor_of : Selection → (Point → ℕ → Working → Result Working Cause) → Working → Result Working Cause
at_anchor_of (Range a b format) step w = step a format w
at_anchor_of other step w = Err (NoSelection (kind_of_selection other))

-- a step that goes by the anchor and the format of the draft's own range
abbrev pub at_anchor : (Point → ℕ → Working → Result Working Cause) → Working → Result Working Cause
at_anchor step w = at_anchor_of w.selection step w

-- ---- what a point lies in

-- the fields of a text, if its mode is normal
abbrev pub if_normal : Option TextFields → Option TextFields
if_normal None = None
if_normal (Some text) = if is_normal text.mode then Some text else None

-- the fields of a node, if it is a normal text
abbrev pub normal_at : Forest → ℕ → Option TextFields
normal_at f k = if_normal (text_in (label_of f k))

-- how many characters a text or tab has
abbrev pub characters_at : Forest → ℕ → ℕ
characters_at f k = length_of (fields_of f k)
