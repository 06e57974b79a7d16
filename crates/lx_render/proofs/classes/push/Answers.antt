use Rattle.std.proofs.Common.{chars, ap, ◌∙◌}
use Rattle.std.proofs.lemmas.Str.{chars-append, IsUtf8-string_bytes}
use Rattle.lx_render.proofs.classes.push.Goals as goal

pub returns : goal.returns
returns c = ap chars c.in_ok-push_str.ensures.bytes ∙ chars-append _ _ (IsUtf8-string_bytes c.args.text.now)
