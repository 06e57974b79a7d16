use Rattle.std.proofs.Common.{take, []}
use Rattle.lx_list.proofs.WindowEnds.{IsWindowOf}
use Rattle.lx_list.proofs.windows.window_of_leaves.Given as goal

-- the window of the leaves that were passed
abbrev pub invariant-loop-leaf : goal.invariant-loop-leaf
invariant-loop-leaf l = IsWindowOf l.links (record { leaves = take l.leaf-index l.leaves; elements = [] }) l.list l.window
