use Rattle.lx_list_laws.proofs.LevelTold.{told-levels}
use Rattle.lx_list_laws.proofs.levels.levels_come_and_go.Goals as goal

pub returns : goal.returns
returns c = told-levels
