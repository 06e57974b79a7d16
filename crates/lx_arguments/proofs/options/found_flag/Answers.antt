use Rattle.std.proofs.Common.{◌∙◌}
use Rattle.lx_arguments.proofs.Asked.{flag_read}
use Rattle.lx_arguments.proofs.options.found_flag.Goals as goal

pub returns : goal.returns
returns c = c.unwrap_or.ensures ∙ flag_read _ _ c.get_one.result c.get_one.ensures.none c.get_one.ensures.value
