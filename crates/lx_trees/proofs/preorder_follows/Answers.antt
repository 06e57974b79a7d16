use Rattle.lx_trees.proofs.InPreorder.{preorder-with_new, preorder-take_out, preorder-put_in}
use Rattle.lx_trees.proofs.preorder_follows.Goals as goal

pub returns : goal.returns
returns g c = λ name. record { new = preorder-with_new name; take = preorder-take_out name; put = preorder-put_in name }
