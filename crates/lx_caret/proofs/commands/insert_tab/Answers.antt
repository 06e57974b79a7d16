use Rattle.lx_caret.proofs.Lying.{does_lie}
use Rattle.lx_caret.proofs.Adds.{lies-insert_tab}
use Rattle.lx_caret.proofs.commands.insert_tab.Goals as goal

pub returns-clause-lying : goal.returns-clause-lying
returns-clause-lying c =
    does_lie _ _ c.put_tab.result
    (λ e. lies-insert_tab c.args.draft.now c.put_tab.new.draft c.in_ok-ready.ensures.ready c.ready.ensures.held c.ready.ensures.short e) c.put_tab.ensures
