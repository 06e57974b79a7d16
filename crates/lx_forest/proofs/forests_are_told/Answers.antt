use Rattle.lx_forest.proofs.Order.{same_forest}
use Rattle.lx_forest.proofs.Records.{StandsFor-unique}
use Rattle.lx_forest.proofs.forests_are_told.Goals as goal

pub returns : goal.returns
returns c = record { by_spots = same_forest; by_records = StandsFor-unique }
