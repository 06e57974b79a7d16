use Rattle.std.proofs.Common.{◌∙◌, sym, arith}
use Rattle.lx_caret.proofs.Leaves.{last_attached, last_on, last_fewer, last_found}
use Rattle.lx_caret.proofs.selecting.last_leaf.Goals as goal

pub loop-child-smaller : goal.loop-child-smaller
loop-child-smaller c =
    omega (arith, last_fewer c.args.links.now c.loop-child.at c.in-Some.child c.last.ensures.sound c.requires (sym c.last.ensures.last ∙ c.in-Some.is))

pub loop-child-preserved : goal.loop-child-preserved
loop-child-preserved c = record {
  attached =
      last_attached c.args.links.now c.loop-child.at c.in-Some.child c.last.ensures.sound c.requires c.loop-child.invariant.attached
      (sym c.last.ensures.last ∙ c.in-Some.is);
  same = last_on c.args.links.now c.loop-child.at c.in-Some.child c.last.ensures.sound c.requires (sym c.last.ensures.last ∙ c.in-Some.is)
      ∙ c.loop-child.invariant.same;
}

pub returns : goal.returns
returns c =
    last_found c.args.links.now c.loop-child.at c.last.ensures.sound c.requires c.loop-child.invariant.attached (sym c.last.ensures.last ∙ c.in_default.is)
    c.loop-child.invariant.same
