use Rattle.std.proofs.Common.{◌∙◌, sym, arith}
use Rattle.lx_blocks.proofs.Downward.{first_on, first_fewer, first_there, first_found, living}
use Rattle.lx_blocks.proofs.starts.first_leaf.Goals as goal

pub loop-child-smaller : goal.loop-child-smaller
loop-child-smaller c =
    omega (arith, first_fewer c.args.links.now c.loop-child.at c.in-Some.child c.first.ensures.sound (living c.args.links.now c.args.key c.requires) (sym c.first.ensures.first ∙ c.in-Some.is))

pub loop-child-preserved : goal.loop-child-preserved
loop-child-preserved c = record {
  there = first_there c.args.links.now c.loop-child.at c.in-Some.child c.first.ensures.sound (sym c.first.ensures.first ∙ c.in-Some.is);
  same =
      first_on c.args.links.now c.loop-child.at c.in-Some.child c.first.ensures.sound (living c.args.links.now c.args.key c.requires)
      (sym c.first.ensures.first ∙ c.in-Some.is)
      ∙ c.loop-child.invariant.same;
}

pub returns : goal.returns
returns c =
    first_found c.args.links.now c.loop-child.at _ c.first.ensures.sound (living c.args.links.now c.args.key c.requires) c.loop-child.invariant.there
    (sym c.first.ensures.first ∙ c.in_default.is) c.loop-child.invariant.same
