use Rattle.std.proofs.Common.{take, []}
use Rattle.lx_list.proofs.WindowEnds.{IsWindowOf}
use Rattle.lx_list.proofs.windows.with_elements.Given as goal

-- the window of all leaves, and of the elements that were passed
abbrev pub invariant-loop-key : goal.invariant-loop-key
invariant-loop-key l =
    IsWindowOf l.links (record { leaves = l.marks.leaves; elements = [] }) l.list l.fn.of_leaves
    → IsWindowOf l.links (record { leaves = l.marks.leaves; elements = take l.key-index l.key-items }) l.list l.window
