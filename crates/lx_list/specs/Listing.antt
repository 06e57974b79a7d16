-- Lines become items of lists, and lists become lists of another type.
use Rattle.std.specs.Prelude.{ℕ, Bool, true, false, is_some, if◌then◌else◌, Option, None, Some, Result, Ok}
use Rattle.std.specs.List.{list_all}
use Rattle.lx_node.specs.Kinds.{is_inline, is_item}
use Rattle.lx_node.specs.declared.kind.Kind.{Kind}
use Rattle.lx_node.specs.declared.kind.Kind.TheVariants.{Item, List as ListKind}
use Rattle.lx_node.specs.declared.kind.ListType.{ListType}
use Rattle.lx_node.specs.declared.kind.ListType.TheVariants.{Bullet, Number, Check}
use Rattle.lx_node.specs.declared.fields.Fields.{Fields}
use Rattle.lx_node.specs.declared.cause.Cause.{Cause}
use Rattle.lx_forest.specs.Lookups.{fields_of, parent_of, children_of, size_of, previous_of}
use Rattle.lx_draft.specs.Working.{Working}
use Rattle.lx_draft.specs.Faults.{after}
use Rattle.lx_draft.specs.Steps.{put_step}
use Rattle.lx_draft.specs.Beside.{put_before_step}
use Rattle.lx_edit.specs.InTurn.{in_turn}
use Rattle.lx_edit.specs.Edits.{remove_step, children_step}
use Rattle.lx_blocks.specs.Blocks.{is_at}
use Rattle.lx_list.specs.Lines.{each_line}
use Rattle.lx_list.specs.Making.{check_at, with_new_node, list_fields, item_fields, unchecked, check_item}

-- two types of lists are one
abbrev pub same_type : ListType → ListType → Bool
same_type Bullet Bullet = true
same_type Number Number = true
same_type Check Check = true
same_type _ _ = false

-- this is the kind of lists of the type
abbrev pub is_list_of : ListType → Kind → Bool
is_list_of type (ListKind found) = same_type type found
is_list_of type other = false

-- ---- a line becomes an item

-- the line's children go to a new item at the list's end, and the line is removed
unfoldable pub item_made : ListType → ℕ → ℕ → Working → Result Working Cause
item_made type line list w =
    with_new_node Item (item_fields (unchecked type)) (λ item v.
    after (put_step item list (size_of v.forest list) v) (λ u.
    after (children_step line item u) (remove_step line))) w

-- the line becomes the item of a new list before it
unfoldable pub list_made : ListType → ℕ → Working → Result Working Cause
list_made type line w =
    with_new_node (ListKind type) list_fields (λ list v. after (put_before_step list line v) (item_made type line list)) w

-- the line goes into the list before it, where that is of the type, and else into a new one
abbrev pub itemized : ListType → ℕ → Option ℕ → Working → Result Working Cause
itemized type line None w = list_made type line w
itemized type line (Some list) w =
    if is_at (is_list_of type) w.forest list then item_made type line list w else list_made type line w

-- ---- a list becomes one of another type

-- whether fields have a check mark, set or not
abbrev pub has_mark : Option Fields → Bool
has_mark o = is_some (check_at o)

-- in a check list an item gets a check mark where it has none; in any other it loses its own
abbrev pub remarked : ListType → ℕ → Working → Result Working Cause
remarked Check item w = if has_mark (fields_of w.forest item) then Ok w else check_item (Some false) item w
remarked type item w = check_item None item w

-- a new list with equal fields takes the list's items and its place
abbrev pub retyped_with : ListType → ℕ → Option Fields → Working → Result Working Cause
retyped_with type list None w = Ok w
retyped_with type list (Some fields) w =
    with_new_node (ListKind type) fields (λ new v.
    after (put_before_step new list v) (λ put.
    after (children_step list new put) (λ moved.
    after (remove_step list moved) (λ left. in_turn (remarked type) (children_of left.forest new) left)))) w

-- a list becomes one of the type
unfoldable pub retyped : ListType → ℕ → Working → Result Working Cause
retyped type list w = retyped_with type list (fields_of w.forest list) w

-- a list above becomes one of the type, unless it is of it
abbrev pub retyped_above : ListType → Option ℕ → Working → Result Working Cause
retyped_above type None w = Ok w
retyped_above type (Some list) w = if is_at (is_list_of type) w.forest list then Ok w else retyped type list w

-- ---- the command

-- an item's list gets the type, and any other line becomes an item, unless it has a child that isn't inline
unfoldable pub listed : ListType → ℕ → Working → Result Working Cause
listed type line w =
    if is_at is_item w.forest line then retyped_above type (parent_of w.forest line) w
    else if list_all (is_at is_inline w.forest) (children_of w.forest line) then itemized type line (previous_of w.forest line) w
    else Ok w

-- the command that makes each selected line an item of a list of this type
unfoldable pub make_list_step : ListType → Working → Result Working Cause
make_list_step type w = each_line (listed type) w
