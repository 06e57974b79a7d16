use Rattle.lx_forest.proofs.Building.{put_in-with_new, last_below-within, last_below-twice}
use Rattle.lx_forest.proofs.building_follows.Goals as goal

pub returns : goal.returns
returns c = record { new = put_in-with_new; below = last_below-within; behind = last_below-twice }
