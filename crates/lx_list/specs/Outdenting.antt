-- Lines go one level up.
use Rattle.std.specs.Prelude.{ℕ, ◌+◌, ◌-◌, ◌==◌, ◌&&◌, is_none, if◌then◌else◌, List, drop, Option, None, Some, unwrap_or, Result, Ok}
use Rattle.lx_trees.specs.Siblings.{is_named}
use Rattle.lx_node.specs.Kinds.{is_item}
use Rattle.lx_node.specs.declared.kind.Kind.TheVariants.{Item}
use Rattle.lx_node.specs.declared.cause.Cause.{Cause}
use Rattle.lx_forest.specs.Forest.{Forest, Label}
use Rattle.lx_forest.specs.Lookups.{label_of, parent_of, children_of, size_of, index_of, first_child, next_of}
use Rattle.lx_draft.specs.Working.{Working}
use Rattle.lx_draft.specs.Faults.{after}
use Rattle.lx_draft.specs.Steps.{put_step}
use Rattle.lx_draft.specs.Beside.{put_behind_step}
use Rattle.lx_edit.specs.InTurn.{in_turn}
use Rattle.lx_edit.specs.Edits.{moved_before, moved_behind, moved_to_end, remove_step}
use Rattle.lx_blocks.specs.Blocks.{is_at}
use Rattle.lx_list.specs.Lines.{each_line}
use Rattle.lx_list.specs.Making.{with_new_node, with_like, item_fields, with_indent, change_step}

-- the items of a list after one of them
abbrev pub items_behind : Forest → ℕ → ℕ → List ℕ
items_behind f list x = drop (unwrap_or (index_of f x) 0 + 1) (children_of f list)

-- a new item after the outer one, with a list like its own, takes the items after it, and it goes between the two
abbrev pub parted_like : ℕ → List ℕ → ℕ → Option Label → Working → Result Working Cause
parted_like x behind outer like w =
    with_new_node Item (item_fields None) (λ item v.
    with_like like (λ inner u.
    after (put_step inner item 0 u) (λ put.
    after (in_turn (moved_to_end inner) behind put) (λ moved.
    after (put_behind_step item outer moved) (moved_behind outer x)))) v) w

-- a new item after the outer one takes the items after this one, in a list like its own, and this one goes between the
-- two
unfoldable pub parted : ℕ → ℕ → ℕ → Working → Result Working Cause
parted x list outer w = parted_like x (items_behind w.forest list x) outer (label_of w.forest list) w

-- an item goes before the outer item, where nothing in that comes before it; after it, where it is its list's last;
-- else between two halves
unfoldable pub moved_out : ℕ → ℕ → ℕ → Working → Result Working Cause
moved_out x list outer w =
    if is_named (first_child w.forest list) x && is_named (first_child w.forest outer) list then moved_before outer x w
    else if is_none (next_of w.forest x) then moved_behind outer x w
    else parted x list outer w

-- an empty list is removed
abbrev pub gone_if_empty : ℕ → Working → Result Working Cause
gone_if_empty list w = if size_of w.forest list == 0 then remove_step list w else Ok w

-- an item goes out of a list in an outer item, and the list goes too where nothing is left in it
unfoldable pub out_of : ℕ → ℕ → ℕ → Working → Result Working Cause
out_of x list outer w = after (moved_out x list outer w) (gone_if_empty list)

-- an item goes out of the outer item, if there is one: one of a list that is in no item stays
abbrev pub out_from : ℕ → ℕ → Option ℕ → Working → Result Working Cause
out_from x list None w = Ok w
out_from x list (Some outer) w = if is_at is_item w.forest outer then out_of x list outer w else Ok w

-- an item goes out of the list and the outer item that it is in, if it is in such
abbrev pub out_by : ℕ → Option ℕ → Working → Result Working Cause
out_by x None w = Ok w
out_by x (Some list) w = out_from x list (parent_of w.forest list) w

-- an indent one level up, or 0
abbrev pub shallower : ℕ → ℕ
shallower n = n - 1

-- a line one level up
unfoldable pub outdented : ℕ → Working → Result Working Cause
outdented x w =
    if is_at is_item w.forest x then out_by x (parent_of w.forest x) w
    else change_step (with_indent shallower) x w

-- the command that takes each selected line one level up
unfoldable pub outdent_step : Working → Result Working Cause
outdent_step w = each_line outdented w
