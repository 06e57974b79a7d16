use Rattle.std.proofs.Common.{◌≡◌, subst}
use Rattle.std.specs.Prelude.{IfOk}
use Rattle.lx_blocks.proofs.Ahead.{lines_are}
use Rattle.lx_blocks.proofs.lines.selected_lines.Goals as goal

pub returns : goal.returns
returns c =
    subst (λ whole. IfOk c.collect_lines.result (λ keys. keys.items ≡ whole))
    (lines_are c.args.links.now c.args.range.now c.in_order-start.result.0 c.in_order-start.result.1 c.from_block-from.result c.behind_block-stop.result
    c.frame-frame_key.result
    c.in_order-start.ensures.start c.in_order-start.ensures.end c.from_block-from.ensures.left c.behind_block-stop.ensures c.frame-frame_key.ensures.frame)
    c.collect_lines.ensures
