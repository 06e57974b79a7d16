use Rattle.lx_reconcile.proofs.Made.{found_id, found_none}
use Rattle.lx_reconcile.proofs.reconciling.host_of.Goals as goal

pub returns-in-Some : goal.returns-in-Some
returns-in-Some c = found_id c.args.key c.args.hosts.now.tree c.in-Some.id c.in-Some.ensures c.requires.whole c.requires.shown

pub returns-in-None : goal.returns-in-None
returns-in-None c = found_none c.args.key c.args.hosts.now.tree c.in-None.ensures c.requires.whole c.requires.shown
