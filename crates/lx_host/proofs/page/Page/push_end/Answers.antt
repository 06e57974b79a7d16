use Rattle.std.proofs.Common.{◌++◌, codes}
use Rattle.std.proofs.lemmas.Result.{on_ok_weaker}
use Rattle.std.specs.Str.{chars}
use Rattle.lx_host.proofs.Pages.{behind}
use Rattle.lx_host.proofs.page.Page.push_end.Goals as goal

pub returns : goal.returns
unfolding chars
returns c =
    let page = c.args.self.now in
    let word = chars c.args.word.now in
    on_ok_weaker c.push-3.result (behind page (codes "</" ++ word) (codes ">") (behind page (codes "</") word c.in_ok-push.ensures c.in_ok-push-2.ensures))
    c.push-3.ensures
