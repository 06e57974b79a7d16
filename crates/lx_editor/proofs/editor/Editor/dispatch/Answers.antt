use Rattle.std.proofs.Common.{sym, subst}
use Rattle.lx_editor.specs.declared.outcome.Outcome.{Outcome}
use Rattle.lx_editor.specs.Dispatched.{unless_refused, IsDispatched}
use Rattle.lx_editor.specs.Gathering.{recording}
use Rattle.lx_editor.proofs.editor.Editor.dispatch.Goals as goal

pub returns-clause-dispatched : goal.returns-clause-dispatched
returns-clause-dispatched c =
    let new = c.dispatch_saying.new.self in
    let how = recording c.args.tags c.args.moment in
    let handled = c.in_ok-handled.handled in
    let (outcome, done, is) = c.in_ok-handled.ensures.dispatched in
    subst (λ b. IsDispatched c.args.self.now c.args.command.now how c.in_ok-handled.outcome b new) (sym c.unless_refused-handled.ensures)
    (subst (λ (o : Outcome). IsDispatched c.args.self.now c.args.command.now how o (unless_refused o handled) new) (sym is) done)
