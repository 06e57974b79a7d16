use Rattle.std.proofs.Common.{◌∙◌, sym, ap}
use Rattle.lx_node.specs.Strings.{capped}
use Rattle.lx_node.specs.Units.{units}
use Rattle.lx_text.proofs.Ascii.{ascii-counted}
use Rattle.lx_text.proofs.offsets.pieces_of.Goals as goal

pub pieces_plain-requires-clause-plain : goal.pieces_plain-requires-clause-plain
pieces_plain-requires-clause-plain c =
    ascii-counted c.as_str-string.result.now c.as_str-string.utf8 c.as_str-string.type_inv.0
    (ap (λ text. capped (units text)) c.as_str-string.ensures.text ∙ sym c.units.ensures ∙ c.if-units-bytes.true)
