use Rattle.std.proofs.Common.{◌∙◌, sym, ap}
use Rattle.lx_blocks.specs.Blocks.{frame_of}
use Rattle.lx_blocks.specs.Walks.{nodes_before}
use Rattle.lx_caret.specs.Deleting.{is_stop}
use Rattle.lx_caret.proofs.Backwards.{back_starts, back_on, back_found, back_ends, back_shorter, up_attached}
use Rattle.lx_caret.proofs.joining.stop_before.Goals as goal

pub loop-at-init : goal.loop-at-init
loop-at-init c =
    back_starts (is_stop c.args.links.now (frame_of c.args.links.now c.args.block)) c.previous_in_tree-at.result c.args.links.now
    (nodes_before c.args.links.now c.args.block)
    c.previous_in_tree-at.ensures.others c.previous_in_tree-at.ensures.first c.previous_in_tree-at.ensures.attached

pub returns-then-is_stop : goal.returns-then-is_stop
returns-then-is_stop c =
    back_found (is_stop c.args.links.now (frame_of c.args.links.now c.args.block)) c.loop-at.at c.args.links.now c.in-Some.key _ c.loop-at.invariant
    (ap (λ within. is_stop c.args.links.now within c.in-Some.key) (sym c.frame-within.ensures.frame) ∙ sym c.is_stop.ensures ∙ c.if-is_stop.true) c.in-Some.is

pub previous_in_tree-at-requires-in-Some : goal.previous_in_tree-at-requires-in-Some
previous_in_tree-at-requires-in-Some c =
    up_attached (is_stop c.args.links.now (frame_of c.args.links.now c.args.block)) c.loop-at.at c.args.links.now c.in-Some.key _ c.loop-at.invariant
    c.in-Some.is

pub loop-at-smaller : goal.loop-at-smaller
loop-at-smaller c =
    back_shorter c.loop-at.at c.previous_in_tree-at-in-Some.result c.args.links.now c.in-Some.key c.previous_in_tree-at-in-Some.ensures.others
    c.previous_in_tree-at-in-Some.ensures.first c.in-Some.is

pub loop-at-preserved : goal.loop-at-preserved
loop-at-preserved c =
    back_on (is_stop c.args.links.now (frame_of c.args.links.now c.args.block)) c.loop-at.at c.previous_in_tree-at-in-Some.result c.args.links.now c.in-Some.key
    _ c.loop-at.invariant
    c.previous_in_tree-at-in-Some.ensures.others c.previous_in_tree-at-in-Some.ensures.first c.previous_in_tree-at-in-Some.ensures.attached
    (ap (λ within. is_stop c.args.links.now within c.in-Some.key) (sym c.frame-within.ensures.frame) ∙ sym c.is_stop.ensures ∙ c.if-is_stop.false) c.in-Some.is

pub returns : goal.returns
returns c = back_ends (is_stop c.args.links.now (frame_of c.args.links.now c.args.block)) c.loop-at.at c.args.links.now _ c.loop-at.invariant c.in_default.is
