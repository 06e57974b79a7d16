use Rattle.lx_table_laws.proofs.ComeAndGo.{rows_come_and_go}
use Rattle.lx_table_laws.proofs.laws.rows_come_and_go.Goals as goal

pub returns : goal.returns
returns c = rows_come_and_go
