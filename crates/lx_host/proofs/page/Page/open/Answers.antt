use Rattle.std.proofs.Common.{◌++◌, ap, ◌∙◌}
use Rattle.std.specs.Str.{chars}
use Rattle.std.proofs.lemmas.Result.{on_ok_weaker}
use Rattle.lx_host.specs.Html.{start_tag}
use Rattle.lx_host.proofs.Pages.{opening_one}
use Rattle.lx_host.proofs.page.Page.open.Goals as goal

pub returns-in_default : goal.returns-in_default
returns-in_default c =
    on_ok_weaker c.push_start.result
    (λ is. is
    ∙ ap (λ end. c.args.self.now ++ end)
    (ap (λ word. start_tag (chars word) c.args.attributes.now) c.word.ensures ∙ opening_one c.args.tag c.args.attributes.now c.in_default.not-Inline))
    c.push_start.ensures
