use Rattle.lx_table.proofs.Covered.{covered-tables}
use Rattle.lx_table.proofs.laws.tables_are_covered.Goals as goal

pub returns : goal.returns
returns c = covered-tables
