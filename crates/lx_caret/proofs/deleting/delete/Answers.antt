use Rattle.lx_caret.proofs.Erased.{anchor_lies}
use Rattle.lx_caret.proofs.deleting.delete.Goals as goal

pub delete_at-requires : goal.delete_at-requires
delete_at-requires c = anchor_lies c.args.draft.now c.in_ok-range.range c.in_ok-range.ensures.gives
