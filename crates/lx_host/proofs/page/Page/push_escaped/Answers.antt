use Rattle.std.proofs.Common.{◌++◌, string_bytes, sym, ap, ◌∙◌, arith}
use Rattle.std.proofs.lemmas.Result.{on_ok_weaker}
use Rattle.std.proofs.lemmas.Str.{chars-append, IsUtf8-string_bytes}
use Rattle.std.specs.Str.{chars}
use Rattle.lx_host.specs.Html.{escaped}
use Rattle.lx_host.proofs.Pages.{escaped_other, chars_of_one}
use Rattle.lx_host.proofs.page.Page.push_escaped.Goals as goal

pub returns-in-38 : goal.returns-in-38
unfolding chars
returns-in-38 c = on_ok_weaker c.push.result (λ is. is ∙ ap (λ a. c.args.self.now ++ escaped a) (sym c.in-38.is)) c.push.ensures

pub returns-in-60 : goal.returns-in-60
unfolding chars
returns-in-60 c = on_ok_weaker c.push-in-60.result (λ is. is ∙ ap (λ a. c.args.self.now ++ escaped a) (sym c.in-60.is)) c.push-in-60.ensures

pub returns-in-62 : goal.returns-in-62
unfolding chars
returns-in-62 c = on_ok_weaker c.push-in-62.result (λ is. is ∙ ap (λ a. c.args.self.now ++ escaped a) (sym c.in-62.is)) c.push-in-62.ensures

pub returns-in-34 : goal.returns-in-34
unfolding chars
returns-in-34 c = on_ok_weaker c.push-in-34.result (λ is. is ∙ ap (λ a. c.args.self.now ++ escaped a) (sym c.in-34.is)) c.push-in-34.ensures

pub returns-in_ok-push-in_default : goal.returns-in_ok-push-in_default
returns-in_ok-push-in_default c =
    let a = c.args.character in
    let written = string_bytes c.self.inside.written in
    ap chars c.in_ok-push-in_default.ensures.bytes ∙ chars-append written _ (IsUtf8-string_bytes c.self.inside.written)
    ∙ ap (λ end. chars written ++ end)
    (chars_of_one a c.ranges.character.0 ∙ sym (escaped_other a (λ e. omega arith) (λ e. omega arith) (λ e. omega arith) (λ e. omega arith)))
    ∙ ap (λ page. page ++ escaped a) c.self.view_is
