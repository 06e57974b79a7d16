use Rattle.lx_list_laws.proofs.BlockTold.{told-blocks}
use Rattle.lx_list_laws.proofs.returning.blocks_come_back.Goals as goal

pub returns : goal.returns
returns c = told-blocks
