use Rattle.lx_script.proofs.Writing.{text_of_slice}
use Rattle.lx_script.proofs.write.write_slice.Goals as goal

pub returns : goal.returns
returns c = text_of_slice _ _ _ c.in_ok-value.ensures c.requires.whole c.in_ok-to_vec.ensures.text
