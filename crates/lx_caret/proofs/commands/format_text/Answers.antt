use Rattle.lx_caret.proofs.Lying.{does_lie}
use Rattle.lx_caret.proofs.Formats.{lies-format_text}
use Rattle.lx_caret.proofs.commands.format_text.Goals as goal

pub returns-clause-lying : goal.returns-clause-lying
returns-clause-lying c =
    does_lie _ _ c.format_selected.result
    (λ e. lies-format_text c.args.bit c.args.draft.now c.format_selected.new.draft c.in_ok-ready.ensures.ready c.ready.ensures.held c.ready.ensures.short e)
    c.format_selected.ensures
