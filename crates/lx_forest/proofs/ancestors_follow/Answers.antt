use Rattle.lx_forest.proofs.Up.{ancestors-with_new, ancestors-with_fields, ancestors-take_out, ancestors-put_in, ancestors-drop_detached}
use Rattle.lx_forest.proofs.ancestors_follow.Goals as goal

pub returns : goal.returns
returns c = record { new = ancestors-with_new; set = ancestors-with_fields; take = ancestors-take_out; put = ancestors-put_in; drop = ancestors-drop_detached }
