use Rattle.lx_forest.proofs.Preorder.{preorder-with_new, preorder-with_fields, preorder-take_out, preorder-put_in, preorder-drop_detached}
use Rattle.lx_forest.proofs.preorder_follows.Goals as goal

pub returns : goal.returns
returns c = record { new = preorder-with_new; set = preorder-with_fields; take = preorder-take_out; put = preorder-put_in; drop = preorder-drop_detached }
