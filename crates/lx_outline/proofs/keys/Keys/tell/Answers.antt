use Rattle.lx_outline.proofs.Ascending.{ascends_seen}
use Rattle.lx_outline.proofs.keys.Keys.tell.Goals as goal

pub returns-clause-ascending : goal.returns-clause-ascending
returns-clause-ascending c = ascends_seen c.args.self.now c.self.inside.held.keys (cc) c.iter-key-items.ensures.ordered
