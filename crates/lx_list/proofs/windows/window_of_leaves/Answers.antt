use Rattle.std.proofs.Common.{◌+◌, ◌∷◌, [], take}
use Rattle.lx_list.proofs.WindowEnds.{still_window, leaf_more}
use Rattle.lx_list.proofs.windows.window_of_leaves.Goals as goal

pub loop-leaf-preserved : goal.loop-leaf-preserved
loop-leaf-preserved c =
    still_window c.args.links.now (record { leaves = c.leaf-item.result ∷ take c.loop-leaf.leaf-index c.args.leaves.now; elements = [] })
    (record { leaves = take (c.loop-leaf.leaf-index + 1) c.args.leaves.now; elements = [] }) c.args.list c.widened-window.result c.requires
    (λ q there. leaf_more c.args.leaves.now c.loop-leaf.leaf-index c.leaf-item.result q c.loop-leaf-test.true c.leaf-item.is)
    (c.widened-window.ensures (record { leaves = take c.loop-leaf.leaf-index c.args.leaves.now; elements = [] }) c.loop-leaf.invariant)
