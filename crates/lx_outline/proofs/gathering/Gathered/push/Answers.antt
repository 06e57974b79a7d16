use Rattle.std.proofs.Common.{◌++◌, chars, ap, ◌∙◌}
use Rattle.std.proofs.lemmas.Str.{chars-append, IsUtf8-string_bytes}
use Rattle.lx_outline.proofs.gathering.Gathered.push.Goals as goal

pub returns : goal.returns
returns c =
    ap chars c.in_ok-push_str.ensures.bytes ∙ chars-append _ _ (IsUtf8-string_bytes c.self.inside.text)
    ∙ ap (λ text. text ++ chars c.args.piece.now) c.self.view_is
