use Rattle.lx_list_laws.proofs.StayTold.{told-places}
use Rattle.lx_list_laws.proofs.staying.selections_stay.Goals as goal

pub returns : goal.returns
returns c = told-places
