use Rattle.std.proofs.Common.{◌∙◌, refl, append_assoc}
use Rattle.lx_script.proofs.parts.put_number_alone.Goals as goal

pub returns : goal.returns
returns c = (
  c.end_object.ensures.room.0 ∙ c.in_ok-put_number_member.ensures.0 ∙ c.begin_object.ensures.room.0,
  rw (c.in_ok-end_object.ensures.ok, c.in_ok-put_number_member.ensures.1, c.in_ok-begin_object.ensures.ok) (simp append_assoc refl),
)
