use Rattle.lx_serving.proofs.Within.{within_state}
use Rattle.lx_serving.proofs.noting.committed.Goals as goal

pub returns-clause-within : goal.returns-clause-within
returns-clause-within c = within_state _ _ _ c.state.ensures.state
