use Rattle.std.proofs.Common.{length, ◌&&◌}
use Rattle.lx_blocks.specs.Blocks.{is_line, frame_of, same_node}
use Rattle.lx_blocks.specs.Walks.{left_from, key_of_step}
use Rattle.lx_blocks.proofs.Ahead.{IsAhead}
use Rattle.lx_blocks.proofs.lines.collect_lines.Given as goal

-- the walk is in the tree, what was gathered and what is left make all of it, and the stop is still ahead if it is anywhere
abbrev pub invariant-loop-at : goal.invariant-loop-at
invariant-loop-at l =
    IsAhead (λ k. is_line l.links k && same_node (frame_of l.links k) l.frame_key) (key_of_step l.stop) l.links l.fn.from l.at l.keys.items

abbrev pub decreases-loop-at : goal.decreases-loop-at
decreases-loop-at l = length (left_from l.links l.at)
