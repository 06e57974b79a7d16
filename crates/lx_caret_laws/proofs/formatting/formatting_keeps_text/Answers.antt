use Rattle.lx_caret_laws.proofs.FormattedAside.{told-formatting}
use Rattle.lx_caret_laws.proofs.formatting.formatting_keeps_text.Goals as goal

pub returns : goal.returns
returns c = told-formatting
