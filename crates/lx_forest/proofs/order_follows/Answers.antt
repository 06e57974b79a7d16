use Rattle.lx_forest.proofs.Preorder.{order_of-with_new, order_of-with_fields, order_of-take_out, order_of-put_in_outside, order_of-put_in_inside, order_of-put_in_across, order_of-put_in_detached, order_of-reversed, order_of-drop_detached}
use Rattle.lx_forest.proofs.order_follows.Goals as goal

pub returns : goal.returns
returns c = record {
  turned = order_of-reversed;
  new = order_of-with_new;
  set = order_of-with_fields;
  take = order_of-take_out;
  put_outside = order_of-put_in_outside;
  put_inside = order_of-put_in_inside;
  put_across = order_of-put_in_across;
  put_detached = order_of-put_in_detached;
  drop = order_of-drop_detached;
}
