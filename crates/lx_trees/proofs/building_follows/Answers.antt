use Rattle.lx_trees.proofs.Building.{put_in-with_new, last_below-within, last_below-twice}
use Rattle.lx_trees.proofs.building_follows.Goals as goal

pub returns : goal.returns
returns g c = λ name. record { new = put_in-with_new name; below = last_below-within name; behind = last_below-twice name }
