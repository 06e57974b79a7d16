use Rattle.lx_caret.proofs.Lying.{does_lie}
use Rattle.lx_caret.proofs.Adds.{lies-insert_line_break}
use Rattle.lx_caret.proofs.commands.insert_line_break.Goals as goal

pub returns-clause-lying : goal.returns-clause-lying
returns-clause-lying c =
    does_lie _ _ c.put_line_break.result
    (λ e. lies-insert_line_break c.args.draft.now c.put_line_break.new.draft c.in_ok-ready.ensures.ready c.ready.ensures.held c.ready.ensures.short e)
    c.put_line_break.ensures
