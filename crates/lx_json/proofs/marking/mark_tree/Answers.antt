use Rattle.std.proofs.Common.{◌≢◌, subst, rules}
use Rattle.lx_trees.specs.Trees.{nil}
use Rattle.lx_forest.specs.Lookups.{IsForest}
use Rattle.lx_json.proofs.Walked.{marked_none, depth_by, marked_more, fewer}
use Rattle.lx_json.proofs.marking.mark_tree.Goals as goal

pub loop-at-init : goal.loop-at-init
loop-at-init c =
    let living : c.links.result.now ≢ nil = search rules in
    rw c.root.ensures (marked_none c.args.draft.now (subst IsForest c.links.ensures.forest (c.has_failed.ensures.sound.in_order living)))

pub next_in_tree-at-requires : goal.next_in_tree-at-requires
next_in_tree-at-requires c =
    depth_by _ c.loop-at.draft c.mark_uncounted.new.self c.loop-at.at _ _ c.links-in-Some.result.now c.loop-at.invariant c.in-Ok.ensures.ok
    c.links-in-Some.ensures.forest (search rules)

pub loop-at-smaller : goal.loop-at-smaller
loop-at-smaller c =
    fewer _ c.loop-at.draft c.mark_uncounted.new.self c.loop-at.at c.next_in_tree-at.result _ c.in-Some.depth c.links-in-Some.result.now c.loop-at.invariant
    c.in-Ok.ensures.ok c.links-in-Some.ensures.forest c.next_in_tree-at.ensures.next c.next_in_tree-at.ensures.last
    (search rules)

pub loop-at-preserved : goal.loop-at-preserved
loop-at-preserved c =
    marked_more _ c.loop-at.draft c.mark_uncounted.new.self c.loop-at.at c.next_in_tree-at.result _ c.in-Some.depth c.links-in-Some.result.now
    c.loop-at.invariant c.in-Ok.ensures.ok c.links-in-Some.ensures.forest c.next_in_tree-at.ensures.next c.next_in_tree-at.ensures.last
    c.next_in_tree-at.ensures.depth
    (search rules)
