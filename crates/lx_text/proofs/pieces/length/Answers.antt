use Rattle.lx_text.specs.Texts.{text_length}
use Rattle.lx_text.proofs.pieces.length.Goals as goal

pub told-requires : goal.told-requires
unfolding text_length
told-requires c = c.units.ensures
