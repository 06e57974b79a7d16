use Rattle.lx_outline.proofs.Ascending.{inserted}
use Rattle.lx_outline.proofs.keys.Keys.insert.Goals as goal

pub returns : goal.returns
returns c =
    inserted c.args.self.now c.self.inside.held.keys c.insert.new.self.keys c.number.result c.args.key (cc) c.number.ensures c.in_ok-insert.ensures.updates.0
