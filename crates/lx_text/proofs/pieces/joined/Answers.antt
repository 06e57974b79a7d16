use Rattle.std.proofs.Common.{◌∙◌, ◌++◌, ap}
use Rattle.std.specs.Prelude.{chars}
use Rattle.std.proofs.lemmas.Str.{chars-append, IsUtf8-append}
use Rattle.lx_text.proofs.pieces.joined.Goals as goal

pub returns : goal.returns
returns c =
    let before = c.args.before.now in
    let new = c.args.new.now in
    let behind = c.args.behind.now in
    c.of.ensures
    ∙ ap chars (c.in_ok-push_str-2.ensures.bytes ∙ ap (λ b. b ++ behind) (c.in_ok-push_str.ensures.bytes ∙ ap (λ b. b ++ new) c.in_ok-whole.ensures.ok))
    ∙ chars-append (before ++ new) behind (IsUtf8-append before new c.utf8.before c.utf8.new)
    ∙ ap (λ t. t ++ chars behind) (chars-append before new c.utf8.before)
