use Rattle.std.proofs.Common.{sym, arith}
use Rattle.lx_caret.proofs.Made.{index_small}
use Rattle.lx_caret.proofs.inserting.place_behind.Goals as goal

pub overflow_add-index : goal.overflow_add-index
overflow_add-index c =
    let at = c.in-Some-Some in
    omega (arith, index_small c.args.links.now c.args.key at.parent at.index at.ensures'.sound (sym at.ensures.parent) (sym at.ensures'.index))
