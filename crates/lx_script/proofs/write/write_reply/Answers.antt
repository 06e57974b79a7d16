use Rattle.std.proofs.Common.{◌∙◌}
use Rattle.lx_script.proofs.Writing.{text_of_reply}
use Rattle.lx_script.proofs.write.write_reply.Goals as goal

pub returns : goal.returns
returns c =
    text_of_reply c.args.reply.now c.new-writer.result c.put_reply.new.writer c.into_inner.result.items
    (c.new-writer.ensures.before ∙ c.in_ok-with_capacity.ensures.items) c.new-writer.ensures.tokens c.in_ok-put_reply.ensures c.into_inner.ensures.items
