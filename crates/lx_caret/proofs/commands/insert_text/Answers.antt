use Rattle.std.specs.Prelude.{chars}
use Rattle.lx_caret.proofs.Lying.{does_lie}
use Rattle.lx_caret.proofs.Adds.{lies-insert_text}
use Rattle.lx_caret.proofs.commands.insert_text.Goals as goal

pub returns-clause-lying : goal.returns-clause-lying
returns-clause-lying c =
    does_lie _ _ c.put_text.result
    (λ e. lies-insert_text (chars c.args.text.now) c.args.draft.now c.put_text.new.draft c.in_ok-ready.ensures.ready c.ready.ensures.held c.ready.ensures.short e)
    c.put_text.ensures
