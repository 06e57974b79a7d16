use Rattle.lx_table_laws.proofs.Rectangles.{rectangles_are_least}
use Rattle.lx_table_laws.proofs.laws.rectangles_are_least.Goals as goal

pub returns : goal.returns
returns c = rectangles_are_least
