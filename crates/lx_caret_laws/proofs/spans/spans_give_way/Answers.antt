use Rattle.lx_caret_laws.proofs.ToldSpans.{told-spans}
use Rattle.lx_caret_laws.proofs.spans.spans_give_way.Goals as goal

pub returns : goal.returns
returns c = told-spans
