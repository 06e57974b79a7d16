use Rattle.std.proofs.Common.{◌∙◌, sym, ap, encode_utf8_all}
use Rattle.std.specs.Str.{chars}
use Rattle.std.proofs.lemmas.Slice.Eq.{bytes_eq-Decides}
use Rattle.std.proofs.lemmas.Str.{encodes-chars}
use Rattle.lx_step.proofs.Words.{same_by}
use Rattle.lx_step.proofs.built_in.is_word.Goals as goal

pub returns : goal.returns
returns c =
    let word = c.args.word.now in
    let name = c.args.name.now in
    let same = bytes_eq-Decides word name in
    same_by c.eq.result (chars word) (chars name) (
      λ equal. ap chars (same.0 (sym c.eq.ensures ∙ equal)),
      λ equal. c.eq.ensures ∙ same.1 (sym (encodes-chars word c.utf8.word) ∙ ap encode_utf8_all equal ∙ encodes-chars name c.utf8.name),
    )
