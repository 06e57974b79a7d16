use Rattle.lx_blocks.proofs.Passing.{passing_on, passing_ends}
use Rattle.lx_blocks.proofs.children.children_from.Goals as goal

pub loop-at-preserved : goal.loop-at-preserved
loop-at-preserved c =
    passing_on c.args.links.now c.args.key c.args.index c.in-Some.child c.loop-at.at c.next-at.result c.loop-at.keys.items _ c.next-at.ensures.sound
    c.loop-at.invariant c.in-Some.is c.next-at.ensures.next c.in_ok-push.ensures.items

pub returns : goal.returns
returns c = passing_ends c.args.links.now c.args.key c.args.index c.loop-at.at c.loop-at.keys.items c.loop-at.invariant c.in_default.is
