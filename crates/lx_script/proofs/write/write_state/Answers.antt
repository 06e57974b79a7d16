use Rattle.lx_script.proofs.Writing.{text_of_state}
use Rattle.lx_script.proofs.write.write_state.Goals as goal

pub returns : goal.returns
returns c = text_of_state _ _ _ c.in_ok-value.ensures c.requires.whole c.in_ok-to_vec.ensures.text
