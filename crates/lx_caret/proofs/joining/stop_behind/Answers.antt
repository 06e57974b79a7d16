use Rattle.std.proofs.Common.{◌∙◌, ℕ, Bool, ap, rules}
use Rattle.std.specs.Prelude.{find}
use Rattle.lx_forest.specs.Lookups.{from}
use Rattle.lx_blocks.specs.Blocks.{frame_of}
use Rattle.lx_caret.specs.Deleting.{is_stop}
use Rattle.lx_caret.proofs.Forwards.{is_other, find_without, forth_on, forth_found, forth_ends, forth_shorter, forth_attached, stop_told}
use Rattle.lx_caret.proofs.joining.stop_behind.Goals as goal

pub loop-at-init : goal.loop-at-init
loop-at-init c = (
  c.with_depth-at.ensures.at,
  ap (find (is_other (is_stop c.args.links.now (frame_of c.args.links.now c.args.block)) c.args.block)) c.with_depth-at.ensures.left
      ∙ find_without (is_stop c.args.links.now (frame_of c.args.links.now c.args.block)) c.args.block (from c.args.links.now c.args.block),
)

pub returns-then-is_other_stop : goal.returns-then-is_other_stop
returns-then-is_other_stop c =
    let test : ℕ → Bool = is_other (is_stop c.args.links.now (frame_of c.args.links.now c.args.block)) c.args.block in
    record {
      stop = forth_found test c.loop-at.at c.next_in_tree-next.result c.args.links.now _ c.in-Some.depth _ c.loop-at.invariant c.next_in_tree-next.ensures.next
          c.next_in_tree-next.ensures.last
          (stop_told c.args.links.now c.args.block _ c.frame-within.result c.is_other_stop.result _ c.frame-within.ensures.frame c.is_other_stop.ensures
          c.if-is_other_stop.true) (search rules);
      attached = forth_attached test c.loop-at.at c.args.links.now _ c.in-Some.depth _ c.loop-at.invariant (search rules);
    }

pub loop-at-smaller : goal.loop-at-smaller
loop-at-smaller c =
    forth_shorter c.loop-at.at c.next_in_tree-next.result c.args.links.now _ c.in-Some.depth c.next_in_tree-next.ensures.next c.next_in_tree-next.ensures.last
    (search rules)

pub loop-at-preserved : goal.loop-at-preserved
loop-at-preserved c =
    forth_on (is_other (is_stop c.args.links.now (frame_of c.args.links.now c.args.block)) c.args.block) c.loop-at.at c.next_in_tree-next.result
    c.args.links.now _ c.in-Some.depth _ c.loop-at.invariant
    c.next_in_tree-next.ensures.next c.next_in_tree-next.ensures.last c.next_in_tree-next.ensures.depth
    (stop_told c.args.links.now c.args.block _ c.frame-within.result c.is_other_stop.result _ c.frame-within.ensures.frame c.is_other_stop.ensures
    c.if-is_other_stop.false) (search rules)

pub returns : goal.returns
returns c =
    record {
      stop = forth_ends (is_other (is_stop c.args.links.now (frame_of c.args.links.now c.args.block)) c.args.block) c.loop-at.at c.args.links.now _
          c.loop-at.invariant c.in_default.is;
      attached = tt;
    }
