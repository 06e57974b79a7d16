use Rattle.lx_links.proofs.Swept.{gone_more}
use Rattle.lx_links.proofs.sweep.take_all.Goals as goal

pub loop-key-preserved : goal.loop-key-preserved
loop-key-preserved c =
    λ q. gone_more c.args.store.now c.loop-key.store c.take_node.new.store c.args.keys.now c.loop-key.key-index c.key-item.result q (c.loop-key.invariant q)
    c.loop-key-test.true c.key-item.is c.in_ok-take_node.ensures.gone
