use Rattle.std.proofs.Common.{chars, string_bytes, ◌++◌, ap, ◌∙◌}
use Rattle.std.proofs.lemmas.Result.{on_ok_weaker}
use Rattle.lx_render.proofs.Words.{chars-space}
use Rattle.lx_render.proofs.classes.push_space.Goals as goal

pub returns-then-place-gt0 : goal.returns-then-place-gt0
returns-then-place-gt0 c =
    on_ok_weaker c.push.result (λ is. is ∙ ap (λ more. chars (string_bytes c.args.text.now) ++ more) (chars-space c.args.place c.if-place-gt0.true))
    c.push.ensures
