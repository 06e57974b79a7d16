use Rattle.lx_caret.proofs.Covered.{covered-commands}
use Rattle.lx_caret.proofs.laws.commands_are_covered.Goals as goal

pub returns : goal.returns
returns c = covered-commands
