use Rattle.lx_edit.proofs.Turns.{item_at}
use Rattle.lx_caret.proofs.Covering.{wholes_on}
use Rattle.lx_caret.proofs.pieces.keep_each.Goals as goal

pub loop-key-preserved : goal.loop-key-preserved
loop-key-preserved c =
    wholes_on c.args.draft.now.forest c.args.keys.now c.loop-key.key-index c.key-item.result c.loop-key.pieces.items _ _
    (item_at c.args.keys.now c.loop-key.key-index c.key-item.result c.loop-key-test.true c.key-item.is) c.in_ok-keep_whole.ensures c.loop-key.invariant
