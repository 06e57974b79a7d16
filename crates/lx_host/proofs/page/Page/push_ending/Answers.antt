use Rattle.std.proofs.Common.{◌++◌, sym, ap, ◌∙◌}
use Rattle.std.proofs.lemmas.Result.{on_ok_weaker}
use Rattle.std.specs.Str.{chars}
use Rattle.lx_host.specs.Html.{ending_html}
use Rattle.lx_host.proofs.page.Page.push_ending.Goals as goal

pub returns-then-ending : goal.returns-then-ending
unfolding chars
returns-then-ending c = on_ok_weaker c.push.result (λ is. is ∙ ap (λ ending. c.args.self.now ++ ending_html ending) (sym c.if-ending.true)) c.push.ensures
