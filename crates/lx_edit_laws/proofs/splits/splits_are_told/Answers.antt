use Rattle.lx_edit_laws.proofs.SplitLaws.{told-splits}
use Rattle.lx_edit_laws.proofs.splits.splits_are_told.Goals as goal

pub returns : goal.returns
returns c = told-splits
