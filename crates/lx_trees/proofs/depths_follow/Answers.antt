use Rattle.lx_trees.proofs.Up.{depth-root, depth-with_new, depth-take_out, depth-put_in}
use Rattle.lx_trees.proofs.depths_follow.Goals as goal

pub returns : goal.returns
returns g c = λ name. record { root = depth-root name; new = depth-with_new name; take = depth-take_out name; put = depth-put_in name }
