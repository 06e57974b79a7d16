-- The lines that a range selects.
use Rattle.std.specs.Prelude.{ℕ, ◌&&◌, Bool, if◌then◌else◌, List, [], drop, filter, Option, None, Some}
use Rattle.lx_trees.specs.Siblings.{first_of, is_among}
use Rattle.lx_node.specs.declared.cause.Point.{Point}
use Rattle.lx_forest.specs.Forest.{Forest}
use Rattle.lx_forest.specs.Lookups.{from}
use Rattle.lx_blocks.specs.declared.ranges.Ranged.{Ranged}
use Rattle.lx_blocks.specs.Blocks.{is_line, block_of, frame_of, same_node}
use Rattle.lx_blocks.specs.Places.{until, nodes_behind}
use Rattle.lx_blocks.specs.Ranges.{start_of, end_of}

-- the nodes from a point's block on, in preorder: those after the point where it has no block
abbrev pub from_block : Forest → Point → Option ℕ → List ℕ
from_block f p None = nodes_behind f p
from_block f p (Some block) = from f block

-- the first node after a point's block, which may be one in it: the first after the point where it has no block
abbrev pub behind_block : Forest → Point → Option ℕ → Option ℕ
behind_block f p None = first_of (nodes_behind f p)
behind_block f p (Some block) = first_of (drop 1 (from f block))

-- those of a list of nodes that come before this one: all where none is named, and none where it isn't there
abbrev pub up_to : Option ℕ → List ℕ → List ℕ
up_to None ks = ks
up_to (Some end) ks = if is_among end ks then until (Some end) ks else []

-- a line in the same frame as a node
abbrev pub is_line_beside : Forest → ℕ → ℕ → Bool
is_line_beside f other k = is_line f k && same_node (frame_of f k) (frame_of f other)

-- the lines of the frame from the start's block to the end's block: none where the end's block holds the start's
abbrev pub lines_between : Forest → Point → Point → List ℕ
lines_between f start end =
    filter (is_line_beside f start.key) (up_to (behind_block f end (block_of f end.key)) (from_block f start (block_of f start.key)))

-- the lines that a range selects, from its start's block to its end's block
unfoldable pub selected_lines : Forest → Ranged → List ℕ
selected_lines f r = lines_between f (start_of f r) (end_of f r)
