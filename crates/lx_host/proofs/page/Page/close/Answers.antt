use Rattle.std.proofs.Common.{◌++◌, ap, ◌∙◌}
use Rattle.std.specs.Str.{chars}
use Rattle.std.proofs.lemmas.Result.{on_ok_weaker}
use Rattle.lx_host.specs.Html.{end_tag}
use Rattle.lx_host.proofs.Pages.{closing_one}
use Rattle.lx_host.proofs.page.Page.close.Goals as goal

pub returns-in_default : goal.returns-in_default
returns-in_default c =
    on_ok_weaker c.push_end.result
    (λ is. is ∙ ap (λ end. c.args.self.now ++ end) (ap (λ word. end_tag (chars word)) c.word.ensures ∙ closing_one c.args.tag c.in_default.not-Inline))
    c.push_end.ensures
