use Rattle.std.proofs.Common.{◌∙◌, refl, append_assoc}
use Rattle.lx_script.proofs.Sent.{told_view-tokens, with_handled-tokens}
use Rattle.lx_script.proofs.write.put_commit.Goals as goal

pub returns : goal.returns
returns c = (
  c.end_object.ensures.room.0 ∙ c.in_ok-put_told_view.ensures.0 ∙ c.in_ok-put_ops.ensures.0 ∙ c.key.ensures.room.0 ∙ c.in_ok-put_handled.ensures.0 ∙ c.in_ok-put_number_member.ensures.0 ∙ c.begin_object.ensures.room.0,
  rw (with_handled-tokens c.args.handled _, told_view-tokens c.args.html.now, c.in_ok-end_object.ensures.ok, c.in_ok-put_told_view.ensures.1, c.in_ok-put_ops.ensures.1, c.in_ok-key.ensures.ok, c.in_ok-put_handled.ensures.1, c.in_ok-put_number_member.ensures.1, c.in_ok-begin_object.ensures.ok) (simp append_assoc refl),
)
