use Rattle.lx_edit_laws.proofs.WrapAll.{told-wraps}
use Rattle.lx_edit_laws.proofs.wraps.wraps_are_told.Goals as goal

pub returns : goal.returns
returns c = told-wraps
