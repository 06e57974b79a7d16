use Rattle.std.proofs.Common.{◌≡◌, ◌∙◌, sym, ap, subst, refl, encode_utf8_all}
use Rattle.std.specs.Str.{chars}
use Rattle.std.proofs.lemmas.Str.{encodes-chars}
use Rattle.lx_node.specs.Cuts.{IsCut, Cuts}
use Rattle.lx_node.proofs.Same.{same_bytes}
use Rattle.lx_node.proofs.text.Txt.has_piece.Goals as goal

pub piece_of-requires : goal.piece_of-requires
piece_of-requires c = subst (λ text. IsCut c.args.front c.args.piece text) (sym c.as_str.ensures.text) c.requires

pub returns : goal.returns
returns c = λ before within behind cuts.
    let piece : chars c.piece_of.result.now ≡ within =
    c.piece_of.ensures before within behind (subst (λ text. Cuts c.args.front c.args.piece before within behind text) (sym c.as_str.ensures.text) cuts) in
    c.eq.ensures
    ∙ same_bytes within (chars c.args.text.now) c.piece_of.result.now c.args.text.now
    (sym (encodes-chars c.piece_of.result.now c.piece_of.utf8) ∙ ap encode_utf8_all piece) piece
    (sym (encodes-chars c.args.text.now c.utf8.text)) refl
