use Rattle.lx_trees.proofs.Up.{ancestors-with_new, ancestors-take_out, ancestors-put_in}
use Rattle.lx_trees.proofs.ancestors_follow.Goals as goal

pub returns : goal.returns
returns g c = λ name. record { new = ancestors-with_new name; take = ancestors-take_out name; put = ancestors-put_in name }
