use Rattle.std.proofs.Common.{◌∙◌, refl, append_assoc}
use Rattle.lx_script.proofs.write.put_refusal.Goals as goal

pub returns : goal.returns
returns c = (
  c.end_object-2.ensures.room.0 ∙ c.end_object.ensures.room.0 ∙ c.in_ok-put_number_or_null.ensures.0 ∙ c.key-3.ensures.room.0 ∙ c.in_ok-put_detail.ensures.0 ∙ c.key-2.ensures.room.0 ∙ c.in_ok-put_number_member.ensures.0 ∙ c.in_ok-put_word_member.ensures.0 ∙ c.begin_object-2.ensures.room.0 ∙ c.key.ensures.room.0 ∙ c.begin_object.ensures.room.0,
  rw (c.in_ok-end_object-2.ensures.ok, c.in_ok-end_object.ensures.ok, c.in_ok-put_number_or_null.ensures.1, c.in_ok-key-3.ensures.ok, c.in_ok-put_detail.ensures.1, c.in_ok-key-2.ensures.ok, c.in_ok-put_number_member.ensures.1, c.in_ok-put_word_member.ensures.1, c.in_ok-begin_object-2.ensures.ok, c.in_ok-key.ensures.ok, c.in_ok-begin_object.ensures.ok, c.cause_name.ensures, c.code.ensures) (simp append_assoc refl),
)
