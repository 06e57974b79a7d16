use Rattle.std.proofs.Common.{◌∙◌}
use Rattle.lx_list.proofs.KeptLists.{kept_leaf}
use Rattle.lx_list.proofs.touched.keep_of_leaves.Goals as goal

pub loop-leaf-preserved : goal.loop-leaf-preserved
loop-leaf-preserved c = λ p kept.
    c.in_ok-keep_list_of.ensures _ (c.loop-leaf.invariant p kept)
    ∙ kept_leaf c.args.links.now c.args.leaves.now c.loop-leaf.leaf-index c.leaf-item.result p c.loop-leaf-test.true c.leaf-item.is
