use Rattle.std.proofs.Common.{◌∙◌, refl, append_assoc}
use Rattle.lx_script.proofs.selection.put_cells.Goals as goal

pub returns : goal.returns
returns c = (
  c.end_object.ensures.room.0 ∙ c.in_ok-put_number_member-3.ensures.0 ∙ c.in_ok-put_word_member.ensures.0 ∙ c.in_ok-put_number_member-2.ensures.0 ∙ c.in_ok-put_number_member.ensures.0 ∙ c.begin_object.ensures.room.0,
  rw (c.in_ok-end_object.ensures.ok, c.in_ok-put_number_member-3.ensures.1, c.in_ok-put_word_member.ensures.1, c.in_ok-put_number_member-2.ensures.1, c.in_ok-put_number_member.ensures.1, c.in_ok-begin_object.ensures.ok, c.number.ensures, c.number-2.ensures, c.number-3.ensures) (simp append_assoc refl),
)
