use Rattle.std.proofs.Common.{◌∙◌, sym}
use Rattle.lx_blocks.proofs.Previous.{one_down, last_reached}
use Rattle.lx_blocks.proofs.walks.last_within.Goals as goal

pub loop-child-smaller : goal.loop-child-smaller
loop-child-smaller c = (one_down c.args.links.now c.loop-child.at c.in-Some.child c.last.ensures.sound (sym c.in-Some.ensures.last)).smaller

pub loop-child-preserved : goal.loop-child-preserved
loop-child-preserved c =
    let down = one_down c.args.links.now c.loop-child.at c.in-Some.child c.last.ensures.sound (sym c.in-Some.ensures.last) in
    (down.there, c.loop-child.invariant.1 ∙ down.last)

pub returns-clause-last : goal.returns-clause-last
returns-clause-last c =
    sym (c.loop-child.invariant.1
    ∙ last_reached c.args.links.now c.loop-child.at c.last.result c.last.ensures.sound c.loop-child.invariant.0 c.last.ensures.last c.in_default.not-Some)
