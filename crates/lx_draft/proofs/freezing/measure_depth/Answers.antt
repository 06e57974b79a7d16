use Rattle.std.proofs.Common.{◌≢◌, ◌∙◌, rules}
use Rattle.lx_trees.specs.Trees.{nil}
use Rattle.lx_forest.specs.Lookups.{preorder}
use Rattle.lx_draft.proofs.Measured.{measured_none, measured_more, max_is}
use Rattle.lx_draft.proofs.freezing.measure_depth.Goals as goal

pub loop-at-init : goal.loop-at-init
loop-at-init c =
    let living : c.args.links.now ≢ nil = search rules in
    rw c.root.ensures (measured_none c.args.links.now (c.has_failed.ensures.sound.in_order living))

pub loop-at-preserved : goal.loop-at-preserved
loop-at-preserved c =
    let links = c.args.links.now in
    measured_more c.loop-at.at c.next_in_tree-at.result links c.loop-at.deepest _ _ c.max-deepest.result (preorder links) c.loop-at.invariant
    (c.max-deepest.ensures ∙ max_is _ _)
    c.next_in_tree-at.ensures.next c.next_in_tree-at.ensures.last c.next_in_tree-at.ensures.depth (search rules)
