use Rattle.lx_script.proofs.Reading.{tells_of_json, tells_of_no_json}
use Rattle.lx_script.proofs.read.read_line.Goals as goal

pub returns-in-Ok-clause-tells : goal.returns-in-Ok-clause-tells
returns-in-Ok-clause-tells c = tells_of_json _ _ _ c.in-Ok.ensures.ok c.line_of.ensures.makes

pub returns-in-Err-clause-tells : goal.returns-in-Err-clause-tells
returns-in-Err-clause-tells c = tells_of_no_json _ _ c.in-Err.ensures.refused
