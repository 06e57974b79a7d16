use Rattle.std.proofs.Common.{◌∙◌, sym, ap, encode_utf8_all, string_bytes, subst, IsUtf8}
use Rattle.std.proofs.lemmas.Str.{encodes-chars}
use Rattle.lx_node.proofs.text.Txt.as_str.Goals as goal

pub returns-clause-bytes : goal.returns-clause-bytes
returns-clause-bytes c =
    c.as_str.ensures.value ∙ sym (encodes-chars (string_bytes c.self.inside.text) (subst (λ bs. IsUtf8 bs) c.as_str.ensures.value c.as_str.utf8))
    ∙ ap encode_utf8_all c.self.view_is
