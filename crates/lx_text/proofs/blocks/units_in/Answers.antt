use Rattle.std.proofs.Common.{◌∙◌, arith}
use Rattle.lx_text.proofs.UnitSums.{units-all}
use Rattle.lx_text.proofs.blocks.units_in.Goals as goal

pub returns : goal.returns
returns c =
    c.loop-byte.invariant.0
    ∙ units-all c.args.block.now c.as_bytes-byte-items.result.now c.loop-byte.byte-index c.utf8.block c.as_bytes-byte-items.ensures.value (omega arith)
