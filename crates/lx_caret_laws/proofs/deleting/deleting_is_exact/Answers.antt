use Rattle.lx_caret_laws.proofs.Gone.{told-deleting}
use Rattle.lx_caret_laws.proofs.deleting.deleting_is_exact.Goals as goal

pub returns : goal.returns
returns c = told-deleting
