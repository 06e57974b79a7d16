use Rattle.std.proofs.Common.{◌∙◌, ◌+◌, ap, subst}
use Rattle.lx_draft.specs.declared.state.State.{State}
use Rattle.lx_script.specs.Replies.{reply_text}
use Rattle.lx_script.specs.declared.reply.Reply.TheVariants.{Committed}
use Rattle.lx_editor.specs.Changes.{state_of, IsNoted}
use Rattle.lx_editor.proofs.Changed.{state_is}
use Rattle.lx_editor.proofs.Said.{said_change, said_view}
use Rattle.lx_editor.proofs.change.TellingSaying.say_commit.Goals as goal

pub returns : goal.returns
returns c =
    let mid = c.args.editor.now in
    let next = c.args.next.now in
    let ops = c.args.batch.now.ops in
    let marks = c.args.marks.now in
    let asked = c.args.self.now.asked in
    let change = c.note.new.self.change in
    let noted =
    subst (λ (s : State). IsNoted asked ops s marks change)
    (state_is c.state.result.now (state_of mid) c.state.ensures.tree c.state.ensures.selection) c.in_ok-note.ensures in
    record {
      said = λ old new same has. (
        c.in_ok-reply.ensures ∙ ap (λ html. reply_text (Committed (mid.commits + 1) ops c.args.handled html)) (said_view mid next ops marks new has),
        λ none. said_change asked old mid next ops marks change new same has noted,
      );
    }
