use Rattle.std.proofs.Common.{◌∙◌, sym}
use Rattle.lx_links.proofs.Ordered.{test_equal}
use Rattle.lx_caret.proofs.Backwards.{is_leaf_before, leaf_starts, leaf_stops, back_on, back_found, back_ends, back_shorter, up_attached}
use Rattle.lx_caret.proofs.deleting.leaf_before.Goals as goal

pub loop-at-init : goal.loop-at-init
loop-at-init c =
    leaf_starts c.last_before-at.result c.args.links.now c.args.block c.args.point.now c.last_before-at.ensures.before c.last_before-at.ensures.none
    c.last_before-at.ensures.attached

pub returns-then-is_leaf_before : goal.returns-then-is_leaf_before
returns-then-is_leaf_before c =
    back_found (is_leaf_before c.args.links.now c.args.block c.args.point.now) c.loop-at.at c.args.links.now c.in-Some.key _ c.loop-at.invariant
    (sym c.is_leaf_before.ensures.leaf ∙ c.if-is_leaf_before.true) c.in-Some.is

pub returns-then-eq : goal.returns-then-eq
returns-then-eq c =
    leaf_stops c.loop-at.at c.args.links.now c.args.block c.args.point.now c.in-Some.key _ c.is_leaf_before.ensures.sound c.loop-at.invariant
    (sym c.is_leaf_before.ensures.leaf ∙ c.if-is_leaf_before.false) (test_equal c.in-Some.key c.args.block (sym c.eq.ensures ∙ c.if-eq.true)) c.in-Some.is

pub previous_in_tree-at-requires : goal.previous_in_tree-at-requires
previous_in_tree-at-requires c =
    up_attached (is_leaf_before c.args.links.now c.args.block c.args.point.now) c.loop-at.at c.args.links.now c.in-Some.key _ c.loop-at.invariant c.in-Some.is

pub loop-at-smaller : goal.loop-at-smaller
loop-at-smaller c =
    back_shorter c.loop-at.at c.previous_in_tree-at.result c.args.links.now c.in-Some.key c.previous_in_tree-at.ensures.others
    c.previous_in_tree-at.ensures.first c.in-Some.is

pub loop-at-preserved : goal.loop-at-preserved
loop-at-preserved c =
    back_on (is_leaf_before c.args.links.now c.args.block c.args.point.now) c.loop-at.at c.previous_in_tree-at.result c.args.links.now c.in-Some.key _
    c.loop-at.invariant
    c.previous_in_tree-at.ensures.others c.previous_in_tree-at.ensures.first c.previous_in_tree-at.ensures.attached
    (sym c.is_leaf_before.ensures.leaf ∙ c.if-is_leaf_before.false) c.in-Some.is

pub returns : goal.returns
returns c =
    back_ends (is_leaf_before c.args.links.now c.args.block c.args.point.now) c.loop-at.at c.args.links.now _ c.loop-at.invariant c.in_default.is
