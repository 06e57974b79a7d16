use Rattle.lx_forest.proofs.Up.{depth-with_new, depth-with_fields, depth-take_out, depth-put_in, depth-drop_detached}
use Rattle.lx_forest.proofs.Walks.{depth-root}
use Rattle.lx_forest.proofs.depths_follow.Goals as goal

pub returns : goal.returns
returns c = record { root = depth-root; new = depth-with_new; set = depth-with_fields; take = depth-take_out; put = depth-put_in; drop = depth-drop_detached }
