use Rattle.std.proofs.Common.{◌∙◌}
use Rattle.lx_links.proofs.Up.{attached_top}
use Rattle.lx_links.proofs.links.Links.is_attached.Goals as goal

pub returns-clause-attached : goal.returns-clause-attached
returns-clause-attached c =
    c.is_there_and_root.ensures.both
    ∙ attached_top c.args.self.now c.args.key c.top-top.result.0 c.top-top.ensures.sound c.top-top.ensures.top c.top-top.ensures.attached
