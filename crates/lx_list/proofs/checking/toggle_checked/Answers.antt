use Rattle.lx_caret.proofs.Lying.{does_lie}
use Rattle.lx_list.proofs.Checks.{lies-toggle_checked}
use Rattle.lx_list.proofs.checking.toggle_checked.Goals as goal

pub returns-clause-lying : goal.returns-clause-lying
returns-clause-lying c =
    does_lie _ _ c.toggle.result
    (λ e. lies-toggle_checked c.args.draft.now c.toggle.new.draft c.in_ok-ready.ensures.ready c.ready.ensures.held c.ready.ensures.short e) c.toggle.ensures
