use Rattle.std.proofs.Common.{◌∙◌, sym, ap, encode_utf8_all}
use Rattle.std.specs.Str.{chars}
use Rattle.std.proofs.lemmas.Slice.Eq.{bytes_eq-Decides}
use Rattle.std.proofs.lemmas.Str.{encodes-chars}
use Rattle.lx_node.proofs.text.Txt.is.Goals as goal

pub returns : goal.returns
returns c =
    let same = bytes_eq-Decides c.as_str.result.now c.args.text.now in (
      λ equal. sym c.as_str.ensures.text ∙ ap chars (same.0 (sym c.eq.ensures ∙ equal)),
      λ equal. c.eq.ensures ∙ same.1 (c.as_str.ensures.bytes ∙ ap encode_utf8_all equal ∙ encodes-chars c.args.text.now c.utf8.text),
    )
