use Rattle.std.proofs.Common.{◌∙◌, refl, append_assoc}
use Rattle.lx_script.proofs.causes.put_point.Goals as goal

pub returns : goal.returns
returns c = (
  c.end_array.ensures.room.0 ∙ c.string.ensures.room.0 ∙ c.u64-2.ensures.room.0 ∙ c.u64.ensures.room.0 ∙ c.begin_array.ensures.room.0,
  rw (c.in_ok-end_array.ensures.ok, c.in_ok-string.ensures.ok, c.in_ok-u64-2.ensures.ok, c.in_ok-u64.ensures.ok, c.in_ok-begin_array.ensures.ok, c.number.ensures, c.point_kind_name.ensures) (simp append_assoc refl),
)
