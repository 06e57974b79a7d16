use Rattle.lx_trees.proofs.Order.{same_forest}
use Rattle.lx_trees.proofs.Records.{StandsFor-unique}
use Rattle.lx_trees.proofs.trees_are_told.Goals as goal

pub returns : goal.returns
returns g c = λ name. record { by_spots = same_forest name; by_records = StandsFor-unique name }
