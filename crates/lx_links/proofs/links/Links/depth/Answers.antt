use Rattle.std.proofs.Common.{◌∙◌, sym}
use Rattle.lx_links.proofs.Up.{attached_top, depth_attached, depth_detached}
use Rattle.lx_links.proofs.links.Links.depth.Goals as goal

pub returns-then-is_there_and_root-clause-depth : goal.returns-then-is_there_and_root-clause-depth
returns-then-is_there_and_root-clause-depth c =
    depth_attached c.args.self.now c.args.key _
    (sym (attached_top c.args.self.now c.args.key c.top-top.result.0 c.top-top.ensures.sound c.top-top.ensures.top c.top-top.ensures.attached)
    ∙ sym c.is_there_and_root.ensures.both ∙ c.if-is_there_and_root.true)
    c.top-top.ensures.steps

pub returns-else-is_there_and_root-clause-depth : goal.returns-else-is_there_and_root-clause-depth
returns-else-is_there_and_root-clause-depth c =
    depth_detached c.args.self.now c.args.key
    (sym (attached_top c.args.self.now c.args.key c.top-top.result.0 c.top-top.ensures.sound c.top-top.ensures.top c.top-top.ensures.attached)
    ∙ sym c.is_there_and_root.ensures.both ∙ c.if-is_there_and_root.false)
