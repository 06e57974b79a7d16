use Rattle.std.proofs.Common.{Some}
use Rattle.lx_outline.proofs.Kept.{lookup_changed}
use Rattle.lx_outline.proofs.headings.Headings.insert.Goals as goal

pub returns : goal.returns
returns c =
    lookup_changed c.args.self.now c.self.inside.held.entries c.insert.new.self.entries c.number.result c.args.key (Some c.args.heading) (cc) c.number.ensures
    c.in_ok-insert.ensures.updates.0
