use Rattle.std.proofs.Common.{◌∙◌, sym, arith}
use Rattle.lx_links.proofs.Beside.{few_passed, front_gone, front_step}
use Rattle.lx_links.proofs.children.ChildrenIterator.next.Goals as goal

pub overflow_add-self : goal.overflow_add-self
overflow_add-self c = omega (arith, few_passed _ _ _ _ _ _ c.self.invariant (omega (arith, c.if-self-eq0.false)))

pub invariant_of-self : goal.invariant_of-self
invariant_of-self c =
    front_gone _ _ _ _ c.in_ok-key.key _ _ _ c.self.invariant (omega (arith, c.if-self-eq0.false)) c.in_ok-key.was c.next-self-inside.ensures.next

pub returns-clause-steps : goal.returns-clause-steps
returns-clause-steps c = sym c.self.view_is ∙ front_step _ _ _ _ c.in_ok-key.key _ _ c.self.invariant (omega (arith, c.if-self-eq0.false)) c.in_ok-key.was
