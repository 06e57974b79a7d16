use Rattle.std.proofs.Common.{◌∙◌}
use Rattle.lx_reconcile.proofs.Places.{set_more}
use Rattle.lx_reconcile.proofs.walking.set_of.Goals as goal

pub loop-key-preserved : goal.loop-key-preserved
loop-key-preserved c =
    c.in_ok-add_key.ensures
    ∙ set_more c.args.keys.now c.loop-key.key-index c.key-item.result c.loop-key.made.keys c.requires c.loop-key-test.true c.key-item.is c.loop-key.invariant
