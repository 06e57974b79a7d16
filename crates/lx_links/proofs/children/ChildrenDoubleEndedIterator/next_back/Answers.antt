use Rattle.std.proofs.Common.{◌∙◌, sym, arith}
use Rattle.lx_links.proofs.Beside.{back_there, back_gone, back_step}
use Rattle.lx_links.proofs.children.ChildrenDoubleEndedIterator.next_back.Goals as goal

pub returns-in_err-key-clause-steps : goal.returns-in_err-key-clause-steps
returns-in_err-key-clause-steps c = absurd (back_there _ _ _ _ _ _ c.self.invariant (omega (arith, c.if-self-eq0.false)) c.in_err-key.was)

pub invariant_of-self : goal.invariant_of-self
invariant_of-self c =
    back_gone _ _ _ _ c.in_ok-key.key _ _ _ c.self.invariant (omega (arith, c.if-self-eq0.false)) c.in_ok-key.was c.previous-self-inside.ensures.previous

pub returns-clause-steps : goal.returns-clause-steps
returns-clause-steps c = sym c.self.view_is ∙ back_step _ _ _ _ c.in_ok-key.key _ _ c.self.invariant (omega (arith, c.if-self-eq0.false)) c.in_ok-key.was
