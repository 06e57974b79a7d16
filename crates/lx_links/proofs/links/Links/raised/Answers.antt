use Rattle.std.proofs.Common.{◌∙◌, refl, arith}
use Rattle.lx_forest.proofs.Within.{is_within-self}
use Rattle.lx_links.proofs.Ordered.{above_has, above_fewer, above_attached}
use Rattle.lx_links.proofs.links.Links.raised.Goals as goal

pub loop-left-init : goal.loop-left-init
loop-left-init c = record {
  within = is_within-self c.args.self.now c.args.key;
  above = refl;
  most = omega arith;
  attached = refl;
  same = λ e. refl;
}

pub loop-left-preserved : goal.loop-left-preserved
loop-left-preserved c = record {
  within = above_has c.args.self.now c.loop-left.at c.above-at.result c.args.key c.above-at.ensures.sound c.above-at.ensures.above c.loop-left.invariant.within;
  above = omega
      (arith, above_fewer c.args.self.now c.loop-left.at c.above-at.result c.above-at.ensures.sound c.above-at.ensures.above, c.loop-left.invariant.above, c.loop-left-test.true);
  most = omega (arith, c.loop-left.invariant.most);
  attached = above_attached c.args.self.now c.loop-left.at c.above-at.result c.above-at.ensures.sound c.above-at.ensures.above ∙ c.loop-left.invariant.attached;
  same = λ e. absurd (omega (arith, e, c.loop-left.invariant.most, c.loop-left-test.true));
}
