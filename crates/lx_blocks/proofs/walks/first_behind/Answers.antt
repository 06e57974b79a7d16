use Rattle.std.proofs.Common.{sym, arith}
use Rattle.lx_blocks.proofs.Steps.{child_at}
use Rattle.lx_blocks.proofs.walks.first_behind.Goals as goal

pub overflow_add-result : goal.overflow_add-result
overflow_add-result c =
    omega (arith, (child_at c.args.links.now c.args.point.now.key c.in-Some.child c.args.point.now.offset c.in_ok-depth.depth c.child_at.ensures.sound (sym c.in_ok-depth.ensures.depth) (sym c.in-Some.ensures.child)).few)

pub returns-in-Some-clause-at : goal.returns-in-Some-clause-at
returns-in-Some-clause-at c =
    (child_at c.args.links.now c.args.point.now.key c.in-Some.child c.args.point.now.offset c.in_ok-depth.depth c.child_at.ensures.sound
    (sym c.in_ok-depth.ensures.depth) (sym c.in-Some.ensures.child)).deeper
