use Rattle.lx_caret.proofs.Lying.{does_lie}
use Rattle.lx_caret.proofs.Selected.{lies-select_all}
use Rattle.lx_caret.proofs.commands.select_all.Goals as goal

pub returns-clause-lying : goal.returns-clause-lying
returns-clause-lying c =
    does_lie _ _ c.select_content.result
    (λ e. lies-select_all c.args.draft.now c.select_content.new.draft c.in_ok-ready.ensures.ready c.ready.ensures.held c.ready.ensures.short e) c.select_content.ensures
