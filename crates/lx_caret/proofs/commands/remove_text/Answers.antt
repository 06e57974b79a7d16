use Rattle.lx_caret.proofs.Lying.{does_lie}
use Rattle.lx_caret.proofs.Cleared.{lies-remove_text}
use Rattle.lx_caret.proofs.commands.remove_text.Goals as goal

pub returns-clause-lying : goal.returns-clause-lying
returns-clause-lying c =
    does_lie _ _ c.remove_selected.result
    (λ e. lies-remove_text c.args.draft.now c.remove_selected.new.draft c.in_ok-ready.ensures.ready c.ready.ensures.held c.ready.ensures.short e)
    c.remove_selected.ensures
