use Rattle.lx_caret.proofs.Parted.{block_stays}
use Rattle.lx_caret.proofs.paragraphs.cut_block.Goals as goal

pub move_on-requires : goal.move_on-requires
move_on-requires c =
    block_stays c.args.block c.args.point.now _ _ c.args.draft.now c.cut_text.new.draft _ c.in_ok-ready.ensures.ready c.requires c.in_ok-cut_text.ensures
    c.in_ok-index.ensures
