use Rattle.std.proofs.Common.{◌∙◌, ℕ, ap, subst}
use Rattle.lx_editor.specs.Editor.{Editor}
use Rattle.lx_editor.specs.Follows.{RepliesTo, without_memory}
use Rattle.lx_editor.proofs.Changed.{told_from, uncommitted_moment}
use Rattle.lx_editor.proofs.Waiting.{moment_back}
use Rattle.lx_editor.proofs.editor.Editor.reply_to_line.Goals as goal

pub returns-in-Ok-clause-replies : goal.returns-in-Ok-clause-replies
returns-in-Ok-clause-replies c =
    subst (λ (e : Editor). RepliesTo e c.args.line.tags c.args.line.form c.in-Ok.reply.items c.reply_to_form.new.self) c.begin_at.ensures.moment
    c.in-Ok.ensures.replies.0

pub returns-in-Ok-clause-change : goal.returns-in-Ok-clause-change
returns-in-Ok-clause-change c =
    told_from c.args.told.now.asked c.args.self.now c.begin_at.new.self c.reply_to_form.new.told.change c.reply_to_form.new.self
    (uncommitted_moment c.args.self.now c.begin_at.new.self c.args.line.at c.begin_at.ensures.moment)
    c.in-Ok.ensures.replies.1

pub returns-in-Err-clause-unchanged : goal.returns-in-Err-clause-unchanged
returns-in-Err-clause-unchanged c =
    moment_back c.args.self.now c.reply_to_form.new.self c.set_moment.new.self c.args.line.form c.args.line.at
    (c.in-Err.ensures.unchanged ∙ ap (without_memory c.args.line.form) c.begin_at.ensures.moment)
    (c.set_moment.ensures.moment ∙ ap (λ (m : ℕ). record c.reply_to_form.new.self { moment = m }) c.last_moment-before.ensures)
