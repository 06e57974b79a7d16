use Rattle.lx_rules.proofs.Rows.{one_row_told, shifted, none}
use Rattle.lx_rules.proofs.transform.KindSet.of_row.Goals as goal

pub returns-then-row-lt15-clause-has : goal.returns-then-row-lt15-clause-has
returns-then-row-lt15-clause-has c kind = one_row_told c.args.row.0 _ kind (shifted c.args.row.0 c.if-row-lt15.true)

pub returns-else-row-lt15-clause-has : goal.returns-else-row-lt15-clause-has
returns-else-row-lt15-clause-has c kind = one_row_told c.args.row.0 _ kind (none c.args.row.0 c.if-row-lt15.false)
