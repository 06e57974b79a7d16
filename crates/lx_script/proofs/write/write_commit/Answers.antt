use Rattle.std.proofs.Common.{◌∙◌}
use Rattle.lx_script.specs.Replies.{reply_data}
use Rattle.lx_script.specs.declared.reply.Reply.TheVariants.{Committed}
use Rattle.lx_script.proofs.Writing.{text_of_reply}
use Rattle.lx_script.proofs.write.write_commit.Goals as goal

pub returns : goal.returns
unfolding reply_data
returns c =
    text_of_reply (Committed c.args.number c.args.ops.now c.args.handled c.args.view.now) c.new-writer.result c.put_commit.new.writer c.into_inner.result.items
    (c.new-writer.ensures.before ∙ c.in_ok-with_capacity.ensures.items) c.new-writer.ensures.tokens c.in_ok-put_commit.ensures c.into_inner.ensures.items
