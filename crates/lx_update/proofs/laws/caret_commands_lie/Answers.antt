use Rattle.lx_update.proofs.Lying.{caret_commands_lie}
use Rattle.lx_update.proofs.laws.caret_commands_lie.Goals as goal

pub returns : goal.returns
returns c = caret_commands_lie
