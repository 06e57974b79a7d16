use Rattle.lx_outline.proofs.Along.{way_more, way_fewer, way_within}
use Rattle.lx_outline.proofs.gathering.add_all.Goals as goal

pub returns-in_err-at-clause-reads : goal.returns-in_err-at-clause-reads
returns-in_err-at-clause-reads g c = way_within c.add_with_children.ensures.sound c.loop-at.invariant c.in-Some.is _ c.add_with_children.ensures.reads

pub loop-at-smaller : goal.loop-at-smaller
loop-at-smaller g c = way_fewer c.add_with_children.ensures.sound c.loop-at.invariant c.in-Some.is _ c.in_ok-at.ensures.next

pub loop-at-preserved : goal.loop-at-preserved
loop-at-preserved g c =
    let made = c.in_ok-at.ensures in
    way_more c.add_with_children.ensures.sound c.loop-at.invariant c.in-Some.is _ _ _ _ made.same made.text made.next made.reads
