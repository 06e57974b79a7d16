use Rattle.lx_forest.proofs.Order.{IsForest-with_new, IsForest-with_fields, IsForest-take_out, IsForest-put_in, IsForest-drop_detached}
use Rattle.lx_forest.proofs.order_is_kept.Goals as goal

pub returns : goal.returns
returns c = record { new = IsForest-with_new; set = IsForest-with_fields; take = IsForest-take_out; put = IsForest-put_in; drop = IsForest-drop_detached }
