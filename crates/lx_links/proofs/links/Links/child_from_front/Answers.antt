use Rattle.std.proofs.Common.{◌≡◌, ◌∙◌, ap, arith}
use Rattle.std.specs.List.{slice_get}
use Rattle.lx_forest.specs.Lookups.{children_of}
use Rattle.lx_links.proofs.FromEnds.{at_front, one_on, none_on}
use Rattle.lx_links.proofs.links.Links.child_from_front.Goals as goal

pub loop-passed-init : goal.loop-passed-init
loop-passed-init c = record { here = at_front c.args.self.now c.args.parent _ c.first-at.ensures.sound c.first-at.ensures.first; most = omega arith }

pub loop-passed-preserved : goal.loop-passed-preserved
loop-passed-preserved c = record {
  here = one_on c.args.self.now c.args.parent c.loop-passed.passed c.in_ok-key.key c.loop-passed.at _ c.next-at.ensures.sound c.loop-passed.invariant.here
      c.in_ok-key.was c.next-at.ensures.next;
  most = omega arith;
}

pub returns-in_err-key : goal.returns-in_err-key
returns-in_err-key c =
    c.from_residual.ensures
    ∙ none_on c.args.self.now c.args.parent c.loop-passed.passed c.args.before c.loop-passed.at c.loop-passed.invariant.here c.in_err-key.was
    c.loop-passed.invariant.most

pub returns : goal.returns
returns c =
    let all : c.loop-passed.passed ≡ c.args.before = omega arith in
    c.loop-passed.invariant.here ∙ ap (slice_get (children_of c.args.self.now c.args.parent)) all
