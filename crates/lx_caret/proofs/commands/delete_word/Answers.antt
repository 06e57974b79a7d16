use Rattle.lx_caret.specs.Deleting.{delete_word_step}
use Rattle.lx_caret.proofs.Lying.{does_lie}
use Rattle.lx_caret.proofs.Deletes.{lies-delete_word}
use Rattle.lx_caret.proofs.commands.delete_word.Goals as goal

pub returns-clause-lying : goal.returns-clause-lying
unfolding delete_word_step
returns-clause-lying c =
    does_lie _ _ c.delete.result
    (λ e. lies-delete_word c.args.back c.args.draft.now c.delete.new.draft c.in_ok-ready.ensures.ready c.ready.ensures.held c.ready.ensures.short e) c.delete.ensures
