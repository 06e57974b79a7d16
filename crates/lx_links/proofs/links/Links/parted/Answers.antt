use Rattle.std.proofs.Common.{◌∙◌, sym}
use Rattle.lx_forest.proofs.Within.{is_within-self}
use Rattle.lx_links.proofs.Ordered.{above_within, higher, met, there_within}
use Rattle.lx_links.proofs.links.Links.parted.Goals as goal

pub loop-x-init : goal.loop-x-init
loop-x-init c = record {
  level = c.requires;
  first = is_within-self c.args.self.now c.args.a ∙ there_within c.args.self.now 0 c.args.a c.requires.first;
  second = is_within-self c.args.self.now c.args.b ∙ there_within c.args.self.now 0 c.args.b c.requires.second;
}

pub loop-x-smaller : goal.loop-x-smaller
loop-x-smaller c =
    (higher c.args.self.now c.loop-x.x c.loop-x.y c.above-x.result c.above-y.result c.loop-x.invariant.level (sym c.are_siblings.ensures ∙ c.loop-x-test.true)
    c.above-x.ensures.above c.above-y.ensures.above).fewer

pub loop-x-preserved : goal.loop-x-preserved
loop-x-preserved c = record {
  level = (higher c.args.self.now c.loop-x.x c.loop-x.y c.above-x.result c.above-y.result c.loop-x.invariant.level
      (sym c.are_siblings.ensures ∙ c.loop-x-test.true) c.above-x.ensures.above c.above-y.ensures.above).level;
  first = above_within c.args.self.now c.loop-x.x c.above-x.result c.args.a c.above-x.ensures.sound c.above-x.ensures.above c.loop-x.invariant.first;
  second = above_within c.args.self.now c.loop-x.y c.above-y.result c.args.b c.above-y.ensures.sound c.above-y.ensures.above c.loop-x.invariant.second;
}

pub returns : goal.returns
returns c =
    met c.args.self.now c.args.a c.args.b c.loop-x.x c.loop-x.y c.loop-x.invariant.level (sym c.are_siblings.ensures ∙ c.loop-x-test.false)
    c.loop-x.invariant.first c.loop-x.invariant.second
