use Rattle.lx_trees.proofs.InPreorder.{order_of-reversed, order_of-with_new, order_of-take_out, order_of-put_in_outside, order_of-put_in_inside, order_of-put_in_across, order_of-put_in_detached}
use Rattle.lx_trees.proofs.order_follows.Goals as goal

pub returns : goal.returns
returns g c = λ name. record {
  turned = order_of-reversed name;
  new = order_of-with_new name;
  take = order_of-take_out name;
  put_outside = order_of-put_in_outside name;
  put_inside = order_of-put_in_inside name;
  put_across = order_of-put_in_across name;
  put_detached = order_of-put_in_detached name;
}
