use Rattle.lx_caret_laws.proofs.BreakSteps.{told-breaking}
use Rattle.lx_caret_laws.proofs.breaking.breaking_parts_text.Goals as goal

pub returns : goal.returns
returns c = told-breaking
