use Rattle.std.proofs.Common.{arith}
use Rattle.lx_forest.specs.Lookups.{children_of}
use Rattle.lx_outline.proofs.Along.{way_more, way_fewer, way_within, ones}
use Rattle.lx_outline.proofs.gathering.add_children.Goals as goal

pub returns-in_err-next-clause-reads : goal.returns-in_err-next-clause-reads
returns-in_err-next-clause-reads g c = omega (
  arith,
  way_within c.add_piece.ensures.sound c.loop-at.invariant c.in-Some.is _ c.add_piece.ensures.reads,
  ones (children_of (g.R.Records.forest c.args.records.now) c.args.parent),
)

pub loop-at-smaller : goal.loop-at-smaller
loop-at-smaller g c = way_fewer c.add_piece.ensures.sound c.loop-at.invariant c.in-Some.is _ c.in_ok-next.ensures.next

pub loop-at-preserved : goal.loop-at-preserved
loop-at-preserved g c =
    let made = c.in_ok-next.ensures in
    way_more c.add_piece.ensures.sound c.loop-at.invariant c.in-Some.is _ _ _ _ made.same made.text made.next made.reads

pub returns-clause-reads : goal.returns-clause-reads
returns-clause-reads g c = omega (arith, c.loop-at.invariant.reads, ones (children_of (g.R.Records.forest c.args.records.now) c.args.parent))
