use Rattle.lx_forest.proofs.Edits.{spot-with_new, spot-with_fields, spot-take_out, spot-put_in, spot-drop_detached}
use Rattle.lx_forest.proofs.spots_follow.Goals as goal

pub returns : goal.returns
returns c = record { new = spot-with_new; set = spot-with_fields; take = spot-take_out; put = spot-put_in; drop = spot-drop_detached }
