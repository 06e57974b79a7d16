use Rattle.lx_trees.proofs.Edits.{spot-with_new, spot-mapped, spot-take_out, spot-put_in, spot-without}
use Rattle.lx_trees.proofs.spots_follow.Goals as goal

pub returns : goal.returns
returns g c = λ n. record { new = spot-with_new n; relabel = spot-mapped n; take = spot-take_out n; put = spot-put_in n; gone = spot-without n }
