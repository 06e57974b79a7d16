use Rattle.std.proofs.Common.{◌∙◌, refl, append_assoc}
use Rattle.lx_script.proofs.Sent.{with_handled-tokens}
use Rattle.lx_script.proofs.write.put_idle.Goals as goal

pub returns : goal.returns
returns c = (
  c.end_object.ensures.room.0 ∙ c.in_ok-put_flag_member.ensures.0 ∙ c.in_ok-put_handled.ensures.0 ∙ c.begin_object.ensures.room.0,
  rw (with_handled-tokens c.args.handled _, c.in_ok-end_object.ensures.ok, c.in_ok-put_flag_member.ensures.1, c.in_ok-put_handled.ensures.1, c.in_ok-begin_object.ensures.ok) (simp append_assoc refl),
)
