use Rattle.lx_trees.proofs.Order.{IsOrdered-with_new, IsOrdered-mapped, IsOrdered-take_out, IsOrdered-put_in, IsOrdered-without}
use Rattle.lx_trees.proofs.order_is_kept.Goals as goal

pub returns : goal.returns
returns g c = λ name. record {
  new = IsOrdered-with_new name;
  relabel = IsOrdered-mapped name;
  take = IsOrdered-take_out name;
  put = IsOrdered-put_in name;
  gone = IsOrdered-without name;
}
