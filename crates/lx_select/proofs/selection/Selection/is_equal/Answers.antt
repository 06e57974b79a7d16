use Rattle.std.proofs.lemmas.Bool.Decides.{same_from_decides}
use Rattle.lx_select.proofs.Same.{selection-Decides}
use Rattle.lx_select.proofs.selection.Selection.is_equal.Goals as goal

pub returns-clause-same : goal.returns-clause-same
returns-clause-same c = same_from_decides _ _ c.has_equal_parts.ensures (selection-Decides c.args.self.now c.args.other.now)
