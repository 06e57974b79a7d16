use Rattle.lx_draft.proofs.CoveredSteps.{covered-steps}
use Rattle.lx_draft.proofs.laws.drafts_are_covered.Goals as goal

pub returns : goal.returns
returns c = covered-steps
