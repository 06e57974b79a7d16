use Rattle.std.proofs.Common.{◌++◌, codes, ap, ◌∙◌}
use Rattle.std.proofs.lemmas.Result.{on_ok_weaker}
use Rattle.std.specs.Str.{chars}
use Rattle.lx_host.specs.Html.{text_html}
use Rattle.lx_host.specs.Words.{name_word}
use Rattle.lx_host.proofs.Pages.{behind, chars-name_word}
use Rattle.lx_host.proofs.page.Page.push_attribute.Goals as goal

pub returns : goal.returns
unfolding chars
returns c =
    let page = c.args.self.now in
    let name = name_word c.args.name in
    let text = text_html c.args.value.now in
    let named = c.in_ok-push-2.ensures ∙ ap (λ w. c.push.new.self ++ w) (ap chars c.word.ensures ∙ chars-name_word c.args.name) in
    let written = c.in_ok-push_text.ensures ∙ ap (λ t. c.push-3.new.self ++ text_html t) c.as_str.ensures.text in
    let begun = behind page (codes " " ++ name) (codes "=\"") (behind page (codes " ") name c.in_ok-push.ensures named) c.in_ok-push-3.ensures in
    on_ok_weaker c.push-4.result
    (behind page (codes " " ++ name ++ codes "=\"" ++ text) (codes "\"") (behind page (codes " " ++ name ++ codes "=\"") text begun written))
    c.push-4.ensures
