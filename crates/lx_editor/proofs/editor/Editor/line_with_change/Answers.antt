use Rattle.std.proofs.Common.{subst}
use Rattle.lx_editor.specs.Changes.{IsToldChange}
use Rattle.lx_editor.proofs.editor.Editor.line_with_change.Goals as goal

pub returns-clause-change : goal.returns-clause-change
unfolding IsToldChange
returns-clause-change c =
    subst (λ asked. IsToldChange asked c.args.self.now c.reply_to_line.new.told.change c.reply_to_line.new.self) c.new-told.ensures.asked
    c.in_ok-reply.ensures.change
