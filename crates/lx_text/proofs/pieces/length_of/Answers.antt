use Rattle.std.proofs.Common.{◌∙◌, ap, sym}
use Rattle.lx_node.specs.Strings.{capped}
use Rattle.lx_text.specs.Texts.{text_length}
use Rattle.lx_text.proofs.pieces.length_of.Goals as goal

pub told-requires : goal.told-requires
unfolding text_length
told-requires c = c.units.ensures ∙ ap (λ text. capped (text_length text)) (sym c.as_str.ensures.text)
