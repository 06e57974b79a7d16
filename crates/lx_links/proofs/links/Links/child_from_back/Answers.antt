use Rattle.std.proofs.Common.{◌≡◌, ◌-◌, ◌∙◌, ap, arith}
use Rattle.std.specs.List.{slice_get}
use Rattle.lx_forest.specs.Lookups.{children_of, size_of}
use Rattle.lx_links.proofs.FromEnds.{at_back, one_back, back_is_there}
use Rattle.lx_links.proofs.links.Links.child_from_back.Goals as goal

pub loop-passed-init : goal.loop-passed-init
loop-passed-init c = record {
  here = at_back c.args.self.now c.args.parent c.args.behind _ c.last-at.ensures.sound c.requires c.last-at.ensures.last;
  most = omega arith;
}

pub loop-passed-preserved : goal.loop-passed-preserved
loop-passed-preserved c = record {
  here = one_back c.args.self.now c.args.parent c.loop-passed.passed c.args.behind c.in_ok-key.key c.loop-passed.at _ c.previous-at.ensures.sound c.requires
      c.loop-passed-test.true c.loop-passed.invariant.here c.in_ok-key.was c.previous-at.ensures.previous;
  most = omega arith;
}

pub returns-in_err-key : goal.returns-in_err-key
returns-in_err-key c =
    absurd (back_is_there c.args.self.now c.args.parent c.loop-passed.passed c.args.behind c.loop-passed.at c.requires c.loop-passed-test.true
    c.loop-passed.invariant.here c.in_err-key.was)

pub returns : goal.returns
returns c =
    let all : c.loop-passed.passed ≡ c.args.behind = omega arith in
    c.loop-passed.invariant.here ∙ ap (λ n. slice_get (children_of c.args.self.now c.args.parent) (size_of c.args.self.now c.args.parent - 1 - n)) all
