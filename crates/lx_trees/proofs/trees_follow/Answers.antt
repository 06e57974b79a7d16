use Rattle.lx_trees.proofs.Within.{is_within-with_new, is_within-take_out, is_within-put_in}
use Rattle.lx_trees.proofs.trees_follow.Goals as goal

pub returns : goal.returns
returns g c = λ name. record { new = is_within-with_new name; take = is_within-take_out name; put = is_within-put_in name }
