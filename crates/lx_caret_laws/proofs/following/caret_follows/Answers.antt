use Rattle.lx_caret_laws.proofs.Followed.{told-following}
use Rattle.lx_caret_laws.proofs.following.caret_follows.Goals as goal

pub returns : goal.returns
returns c = told-following
