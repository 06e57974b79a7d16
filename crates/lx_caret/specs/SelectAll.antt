-- The whole content selected.
use Rattle.std.specs.Prelude.{ℕ, if◌then◌else◌, Option, None, Some, Result}
use Rattle.lx_node.specs.Kinds.{is_element, is_text}
use Rattle.lx_trees.specs.Siblings.{last_of}
use Rattle.lx_node.specs.declared.cause.Cause.{Cause}
use Rattle.lx_node.specs.declared.cause.Point.{Point}
use Rattle.lx_select.specs.declared.selection.Selection.TheVariants.{Range}
use Rattle.lx_forest.specs.Forest.{Forest}
use Rattle.lx_forest.specs.Lookups.{parent_of, index_of, keys_within}
use Rattle.lx_draft.specs.Working.{Working}
use Rattle.lx_draft.specs.Steps.{select_step}
use Rattle.lx_edit.specs.Edits.{text_point, element_point}
use Rattle.lx_blocks.specs.Blocks.{is_at}
use Rattle.lx_blocks.specs.Ranges.{characters_at}
pub use Rattle.lx_blocks.specs.Starts.{first_leaf, place_at, start_at}

-- down last children from a node: the last below it
abbrev pub last_leaf : Forest → ℕ → Option ℕ
last_leaf f k = last_of (keys_within f k)

-- a text ends with its characters, an empty element at 0, another leaf in its parent
abbrev pub end_at : Forest → Option ℕ → Point
end_at f None = element_point 0 0
end_at f (Some k) =
    if is_at is_text f k then text_point k (characters_at f k)
    else if is_at is_element f k then element_point k 0
    else place_at 1 k (parent_of f k) (index_of f k)

-- the command that selects the whole content
unfoldable pub select_all_step : Working → Result Working Cause
select_all_step w = select_step (Range (start_at w.forest (first_leaf w.forest 0)) (end_at w.forest (last_leaf w.forest 0)) 0) w
