use Rattle.lx_table_laws.proofs.Rectangles.{merges_go_by_least}
use Rattle.lx_table_laws.proofs.laws.merges_go_by_least.Goals as goal

pub returns : goal.returns
returns c = merges_go_by_least
