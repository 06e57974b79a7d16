use Rattle.lx_caret.proofs.Lying.{does_lie}
use Rattle.lx_list.proofs.Checks.{lies-set_checked}
use Rattle.lx_list.proofs.checking.set_checked.Goals as goal

pub returns-clause-lying : goal.returns-clause-lying
returns-clause-lying c =
    does_lie _ _ c.check.result
    (λ e lying.
    lies-set_checked c.args.item c.args.checked c.args.draft.now c.check.new.draft c.in_ok-ready.ensures.ready c.ready.ensures.held c.ready.ensures.short lying e)
    c.check.ensures
