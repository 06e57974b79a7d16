use Rattle.lx_caret_laws.proofs.TypedAll.{told-typing}
use Rattle.lx_caret_laws.proofs.typing.typing_is_read.Goals as goal

pub returns : goal.returns
returns c = told-typing
