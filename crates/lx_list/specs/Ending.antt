-- An item without children ends its list.
use Rattle.std.specs.Prelude.{ℕ, if◌then◌else◌, List, [], Option, None, Some, Result, Ok}
use Rattle.lx_node.specs.Kinds.{is_item}
use Rattle.lx_node.specs.Plain.{plain_element}
use Rattle.lx_node.specs.declared.kind.Kind.TheVariants.{Paragraph}
use Rattle.lx_node.specs.declared.cause.Cause.{Cause}
use Rattle.lx_forest.specs.Forest.{Label}
use Rattle.lx_forest.specs.Lookups.{label_of, parent_of}
use Rattle.lx_draft.specs.Working.{Working}
use Rattle.lx_draft.specs.Faults.{after}
use Rattle.lx_draft.specs.Beside.{put_behind_step}
use Rattle.lx_edit.specs.InTurn.{in_turn}
use Rattle.lx_edit.specs.Edits.{element_point, moved_to_end, remove_step}
use Rattle.lx_blocks.specs.Blocks.{is_at}
use Rattle.lx_blocks.specs.Ranges.{caret_at}
use Rattle.lx_list.specs.Making.{with_new_node, with_like}
use Rattle.lx_list.specs.Outdenting.{items_behind, out_of}

-- items, if there are some, go to a new list like theirs after the paragraph
abbrev pub rest_parted : ℕ → List ℕ → Option Label → Working → Result Working Cause
rest_parted paragraph [] like w = Ok w
rest_parted paragraph items like w =
    with_like like (λ rest v. after (put_behind_step rest paragraph v) (in_turn (moved_to_end rest) items)) w

-- a new paragraph after the list takes the item's place, with the caret, and the items after it go to a list like
-- theirs
abbrev pub paragraph_behind_like : ℕ → ℕ → List ℕ → Option Label → Working → Result Working Cause
paragraph_behind_like x list items like w =
    with_new_node Paragraph plain_element (λ paragraph v.
    after (put_behind_step paragraph list v) (λ put.
    after (rest_parted paragraph items like put) (λ left.
    remove_step x (caret_at (element_point paragraph 0) left)))) w

-- an item ends its list: a new paragraph after the list takes its place, with the caret
unfoldable pub paragraph_behind : ℕ → ℕ → Working → Result Working Cause
paragraph_behind x list w = paragraph_behind_like x list (items_behind w.forest list x) (label_of w.forest list) w

-- an item ends its list, by what that is in: out of an item it goes as by outdenting
abbrev pub list_ended_by : ℕ → ℕ → Option ℕ → Working → Result Working Cause
list_ended_by x list None w = Ok w
list_ended_by x list (Some above) w = if is_at is_item w.forest above then out_of x list above w else paragraph_behind x list w

-- an item ends its list, where it is in one
abbrev pub ended_in : ℕ → Option ℕ → Working → Result Working Cause
ended_in x None w = Ok w
ended_in x (Some list) w = list_ended_by x list (parent_of w.forest list) w

-- the command by which an item ends its list
unfoldable pub paragraph_in_item_step : ℕ → Working → Result Working Cause
paragraph_in_item_step x w = ended_in x (parent_of w.forest x) w
