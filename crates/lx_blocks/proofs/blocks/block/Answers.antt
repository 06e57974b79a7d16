use Rattle.std.proofs.Common.{◌∙◌, Some, sym, arith}
use Rattle.lx_node.specs.Kinds.{is_text_block}
use Rattle.lx_links.proofs.Up.{one_up}
use Rattle.lx_blocks.specs.Blocks.{is_at}
use Rattle.lx_blocks.proofs.Blocked.{own_block, blocks_attached}
use Rattle.lx_blocks.proofs.Up.{find_up, find_top}
use Rattle.lx_blocks.proofs.blocks.block.Goals as goal

pub loop-at-smaller : goal.loop-at-smaller
loop-at-smaller c = omega (arith, one_up c.args.links.now c.loop-at.at c.in-Some.parent c.parent.ensures.sound (sym c.parent.ensures.parent ∙ c.in-Some.is))

pub loop-at-preserved : goal.loop-at-preserved
loop-at-preserved c =
    c.loop-at.invariant ∙ find_up (is_at is_text_block c.args.links.now) c.args.links.now c.loop-at.at c.in-Some.parent c.parent.ensures.sound
    (sym c.parent.ensures.parent ∙ c.in-Some.is) (sym c.is_block_at.ensures.test ∙ c.loop-at-test.true)

pub returns-in-None-clause-block : goal.returns-in-None-clause-block
returns-in-None-clause-block c =
    sym (c.loop-at.invariant ∙ find_top (is_at is_text_block c.args.links.now) c.args.links.now c.loop-at.at (sym c.parent.ensures.parent ∙ c.in-None.is)
    (sym c.is_block_at.ensures.test ∙ c.loop-at-test.true))

pub returns-clause-attached : goal.returns-clause-attached
returns-clause-attached c attached =
    blocks_attached (Some c.loop-at.at) c.args.links.now c.args.key c.is_block_at.ensures.sound attached
    (sym (c.loop-at.invariant ∙ own_block c.args.links.now c.loop-at.at (sym c.is_block_at.ensures.test ∙ c.loop-at-test.false)))
