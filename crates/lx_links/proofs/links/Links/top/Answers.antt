use Rattle.std.proofs.Common.{◌∙◌, sym, arith}
use Rattle.lx_links.proofs.Up.{one_up, none_up, few_up, attached_up}
use Rattle.lx_links.proofs.links.Links.top.Goals as goal

pub overflow_add-steps : goal.overflow_add-steps
overflow_add-steps c =
    let one = one_up c.args.self.now c.loop-parent.at c.in-Some.parent c.parent.ensures.sound (sym c.parent.ensures.parent ∙ c.in-Some.is) in
    omega (arith, few_up c.args.self.now c.args.key c.parent.ensures.sound, c.loop-parent.invariant.steps)

pub loop-parent-smaller : goal.loop-parent-smaller
loop-parent-smaller c =
    omega (arith, one_up c.args.self.now c.loop-parent.at c.in-Some.parent c.parent.ensures.sound (sym c.parent.ensures.parent ∙ c.in-Some.is))

pub loop-parent-preserved : goal.loop-parent-preserved
loop-parent-preserved c =
    let up = sym c.parent.ensures.parent ∙ c.in-Some.is in
    record {
      steps = omega (arith, one_up c.args.self.now c.loop-parent.at c.in-Some.parent c.parent.ensures.sound up, c.loop-parent.invariant.steps);
      attached = c.loop-parent.invariant.attached ∙ attached_up c.args.self.now c.loop-parent.at c.in-Some.parent c.parent.ensures.sound up;
    }

pub returns-clause-steps : goal.returns-clause-steps
returns-clause-steps c = omega (arith, none_up c.args.self.now c.loop-parent.at (sym c.parent.ensures.parent ∙ c.in_default.is), c.loop-parent.invariant.steps)
