use Rattle.std.proofs.Common.{◌++◌, codes}
use Rattle.std.proofs.lemmas.Result.{on_ok_weaker}
use Rattle.std.specs.Str.{chars}
use Rattle.lx_host.specs.Html.{attributes_html}
use Rattle.lx_host.proofs.Pages.{behind}
use Rattle.lx_host.proofs.page.Page.push_start.Goals as goal

pub returns : goal.returns
unfolding chars
returns c =
    let page = c.args.self.now in
    let begun = codes "<" ++ chars c.args.word.now in
    let attributes = attributes_html c.args.attributes.now in
    on_ok_weaker c.push-3.result
    (behind page (begun ++ attributes) (codes ">")
    (behind page begun attributes (behind page (codes "<") (chars c.args.word.now) c.in_ok-push.ensures c.in_ok-push-2.ensures)
    c.in_ok-push_attributes.ensures)) c.push-3.ensures
