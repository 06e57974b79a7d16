-- Edits that are made of others: what is removed, what stands for something else, and children that go elsewhere.
use Rattle.std.specs.Prelude.{ℕ, ◌==◌, ◌&&◌, ◌||◌, Bool, true, false, not, is_some, if◌then◌else◌, List, [], ◌∷◌, Option, None, Some, Result, Ok}
use Rattle.lx_node.specs.Kinds.{is_element, is_text, may_be_empty, is_item, is_list, has_characters}
use Rattle.lx_node.specs.declared.kind.Kind.{Kind}
use Rattle.lx_node.specs.declared.cause.Cause.{Cause}
use Rattle.lx_node.specs.declared.cause.Point.{Point}
use Rattle.lx_node.specs.declared.cause.PointKind.TheVariants as point
use Rattle.lx_select.specs.Selection.{each_point, ends_of, carried}
use Rattle.lx_select.specs.Rules.{carry_moves, replace_moves, moved_to}
use Rattle.lx_forest.specs.Forest.{Forest}
use Rattle.lx_forest.specs.Lookups.{kind_of, fields_of, parent_of, children_of, size_of, index_of, previous_of, next_of, ancestors}
use Rattle.lx_draft.specs.Working.{Working}
use Rattle.lx_draft.specs.Selecting.{length_of, text_of}
use Rattle.lx_draft.specs.Faults.{answer, after}
use Rattle.lx_draft.specs.Steps.{take_step, put_step}
use Rattle.lx_draft.specs.Beside.{put_before_step, put_behind_step}
use Rattle.lx_edit.specs.InTurn.{in_turn}
use Rattle.lx_edit.specs.Conditions.{children_fault, replace_fault, wrap_fault, unwrap_fault}

-- a draft whose points are moved
abbrev pub pointed : (Point → Point) → Working → Working
pointed moved w = record w { selection = each_point moved w.selection }

-- ---- places

-- a point that counts the children of a node
abbrev pub element_point : ℕ → ℕ → Point
element_point k offset = record { key = k; offset = offset; kind = point.Element }

-- a point that counts the code units of a node
abbrev pub text_point : ℕ → ℕ → Point
text_point k offset = record { key = k; offset = offset; kind = point.Text }

-- where what a node has starts: the characters of a text or tab, or the children of an element
abbrev pub start_in : ℕ → Option Kind → Option Point
start_in k None = None
start_in k (Some kind) =
    if has_characters kind then Some (text_point k 0)
    else if is_element kind then Some (element_point k 0)
    else None

-- where what a node has ends: the characters of a text or tab, or the children of an element
abbrev pub end_in : Forest → ℕ → Option Kind → Option Point
end_in f k None = None
end_in f k (Some kind) =
    if has_characters kind then Some (text_point k (length_of (fields_of f k)))
    else if is_element kind then Some (element_point k (size_of f k))
    else None

-- ---- one edit after another

-- a node taken out, and put right before another
unfoldable pub moved_before : ℕ → ℕ → Working → Result Working Cause
moved_before other k w = after (take_step k w) (put_before_step k other)

-- a node taken out, and put right after another
unfoldable pub moved_behind : ℕ → ℕ → Working → Result Working Cause
moved_behind other k w = after (take_step k w) (put_behind_step k other)

-- a node taken out, and put at the end of a node's children
unfoldable pub moved_to_end : ℕ → ℕ → Working → Result Working Cause
moved_to_end parent k w = after (take_step k w) (λ v. put_step k parent (size_of v.forest parent) v)

-- ---- remove

-- where points go from a node between these neighbours, if there is such a place there
abbrev pub beside : Forest → Option ℕ → Option ℕ → Option Point
beside f (Some previous) next = end_in f previous (kind_of f previous)
beside f None (Some next) = start_in next (kind_of f next)
beside f None None = None

-- where points go: to such a place, or else to where the node was in its parent
abbrev pub place_for : Option Point → ℕ → ℕ → Point
place_for None p index = element_point p index
place_for (Some there) p index = there

-- the points on a node sent there, if it has a parent
abbrev pub sent_from : ℕ → Option ℕ → Option ℕ → Working → Working
sent_from k (Some p) (Some index) w =
    pointed (moved_to k (place_for (beside w.forest (previous_of w.forest k) (next_of w.forest k)) p index)) w
sent_from k _ _ w = w

-- the points on a node sent to a place beside it
unfoldable pub sent_away : ℕ → Working → Working
sent_away k w = sent_from k (parent_of w.forest k) (index_of w.forest k) w

-- whether a node may not be left without children, when a child of some kind went: it is of a kind that may not be
-- empty, or an item that had a list
abbrev pub may_not_be_left : Option Kind → Option Kind → Bool
may_not_be_left (Some outer) (Some inner) = not (may_be_empty outer) || (is_item outer && is_list inner)
may_not_be_left _ _ = false

-- whether a node goes too, after a child of some kind went
abbrev pub goes_too : Option Kind → Forest → ℕ → Bool
goes_too inner f p = (size_of f p == 0) && (is_some (parent_of f p) && may_not_be_left (kind_of f p) inner)

-- the node above, if it goes too
abbrev pub goes_next : Option Kind → Forest → Option ℕ → Option ℕ
goes_next inner f None = None
goes_next inner f (Some p) = if goes_too inner f p then Some p else None

-- a node is taken out, and then those above it, from the nearest, as far as they may not be left
abbrev pub removed : ℕ → List ℕ → Working → Result Working Cause
removed k [] w = take_step k (sent_away k w)
removed k (p ∷ above) w =
    after (take_step k (sent_away k w)) (λ v. if goes_too (kind_of w.forest k) v.forest p then removed p above v else Ok v)

-- a node taken out, with those above it that may not be left
unfoldable pub remove_step : ℕ → Working → Result Working Cause
remove_step k w = removed k (ancestors w.forest k) w

-- ---- children that go elsewhere

-- of where the two points of a range were before edits: those that were on a node go along with what it had, so that
-- what was at 0 of it is at this offset of another
abbrev pub brought : ℕ → ℕ → ℕ → Option (Point × Point) → Working → Working
brought from to at before w = record w { selection = carried from (carry_moves from to at) before w.selection }

-- the children go, in order, after another's, with the points that were on the first; all other points go as these
-- edits move them
abbrev pub children_moved : ℕ → ℕ → Working → Result Working Cause
children_moved from to w =
    after (in_turn (moved_to_end to) (children_of w.forest from) w)
    (λ v. Ok (brought from to (size_of w.forest to) (ends_of w.selection) v))

-- the children of a node given to another, unless that is refused
unfoldable pub children_step : ℕ → ℕ → Working → Result Working Cause
children_step from to w = after (answer (children_fault from to w.forest) w) (children_moved from to)

-- ---- replace and wrap

-- the children of the first given to the second, if they are to be kept
abbrev pub kept : Bool → ℕ → ℕ → Working → Result Working Cause
kept false k with w = Ok w
kept true k with w = children_step k with w

-- a kind is there, and is a text's
abbrev pub is_text_at : Option Kind → Bool
is_text_at None = false
is_text_at (Some kind) = is_text kind

-- the points on the first of two texts keep their offset in the second, as far as that goes
unfoldable pub texts_pointed : ℕ → ℕ → Working → Working
texts_pointed k with w =
    if is_text_at (kind_of w.forest k) && is_text_at (kind_of w.forest with)
    then pointed (replace_moves k with (text_of (fields_of w.forest with))) w
    else w

-- the second is put before the first, gets its children if they are to be kept, and the first is removed
unfoldable pub replace_step : ℕ → ℕ → Bool → Working → Result Working Cause
replace_step k with keep w =
    after (answer (replace_fault k with keep w.forest) w) (λ v.
    after (put_before_step with k v) (λ put.
    after (kept keep k with put) (λ moved. remove_step k (texts_pointed k with moved))))

-- the outer one is put before the node, which then goes into it
unfoldable pub wrap_step : ℕ → ℕ → Working → Result Working Cause
wrap_step k outer w =
    after (answer (wrap_fault k outer w.forest) w) (λ v. after (put_before_step outer k v) (moved_to_end outer k))

-- ---- unwrap

-- points on a node brought along to the index where it was in its parent
abbrev pub brought_up : ℕ → Option ℕ → Option ℕ → Option (Point × Point) → Working → Working
brought_up k (Some p) (Some index) before w = brought k p index before w
brought_up k _ _ before w = w

-- the children go, in order, before their parent, which is removed, with the points that were on it; all other points
-- go as these edits move them
abbrev pub unwrapped : ℕ → Working → Result Working Cause
unwrapped k w =
    after (in_turn (moved_before k) (children_of w.forest k) w)
    (λ v. remove_step k (brought_up k (parent_of w.forest k) (index_of w.forest k) (ends_of w.selection) v))

-- a node's children put in its place, unless that is refused
unfoldable pub unwrap_step : ℕ → Working → Result Working Cause
unwrap_step k w = after (answer (unwrap_fault k w.forest) w) (unwrapped k)
