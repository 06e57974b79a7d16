use Rattle.lx_draft.proofs.Started.{start_anew}
use Rattle.lx_draft.proofs.state.State.new.Goals as goal

pub returns-clause-start : goal.returns-clause-start
returns-clause-start c = start_anew c.in_ok-links.links c.in_ok-links.ensures
