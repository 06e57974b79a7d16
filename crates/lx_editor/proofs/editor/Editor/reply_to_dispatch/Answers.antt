use Rattle.std.proofs.Common.{◌∙◌, ap}
use Rattle.lx_script.specs.Replies.{reply_text}
use Rattle.lx_editor.specs.Dispatched.{unless_refused}
use Rattle.lx_editor.specs.Follows.{view_told}
use Rattle.lx_editor.proofs.Judged.{handled_told}
use Rattle.lx_editor.proofs.editor.Editor.reply_to_dispatch.Goals as goal

pub returns-in-Ok-clause-replies : goal.returns-in-Ok-clause-replies
returns-in-Ok-clause-replies c =
    let (outcome, done, said) = c.in-Ok.ensures.dispatched in
    let handled = c.in-Ok.field-0-0 in
    let text = said.0 ∙ ap reply_text (handled_told outcome (view_told c.dispatch_saying.new.self) handled) in
    ((outcome, unless_refused outcome handled, done, text), said.1 c.requires.untold)
