use Rattle.std.proofs.Common.{None}
use Rattle.lx_outline.proofs.Kept.{lookup_changed}
use Rattle.lx_outline.proofs.headings.Headings.remove.Goals as goal

pub returns : goal.returns
returns c =
    lookup_changed c.args.self.now c.self.inside.held.entries c.remove.new.self.entries c.number.result c.args.key None (cc) c.number.ensures
    c.remove.ensures.updates.0
