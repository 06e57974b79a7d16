use Rattle.lx_caret_laws.proofs.FormatsTwice.{told-formats}
use Rattle.lx_caret_laws.proofs.formats.formatting_is_exact.Goals as goal

pub returns : goal.returns
returns c = told-formats
