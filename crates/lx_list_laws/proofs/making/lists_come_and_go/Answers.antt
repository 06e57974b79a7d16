use Rattle.lx_list_laws.proofs.ReadCommands.{told-lists}
use Rattle.lx_list_laws.proofs.making.lists_come_and_go.Goals as goal

pub returns : goal.returns
returns c = told-lists
