use Rattle.std.proofs.Common.{◌++◌, ap, ◌∙◌}
use Rattle.std.specs.Str.{chars}
use Rattle.std.proofs.lemmas.Result.{on_ok_weaker}
use Rattle.lx_host.specs.Html.{end_tag}
use Rattle.lx_host.specs.Words.{inner_word, outer_word}
use Rattle.lx_host.proofs.Pages.{behind, chars-inner_word, chars-outer_word}
use Rattle.lx_host.proofs.page.Page.close_inline.Goals as goal

pub returns-in-None : goal.returns-in-None
returns-in-None c =
    rw c.in-None.is
    (on_ok_weaker c.push_end.result (λ is. is ∙ ap (λ word. c.args.self.now ++ end_tag word) (ap chars c.word.ensures ∙ chars-inner_word c.args.inner))
    c.push_end.ensures)

pub returns-in_ok-push_end-in-Some : goal.returns-in_ok-push_end-in-Some
returns-in_ok-push_end-in-Some c =
    let page = c.args.self.now in
    let inner = c.in_ok-push_end-in-Some.ensures ∙ ap (λ word. page ++ end_tag word) (ap chars c.word-in-Some.ensures ∙ chars-inner_word c.args.inner) in
    let outer = ap chars c.word-in-Some-2.ensures ∙ chars-outer_word c.in-Some.outer in
    rw c.in-Some.is
    (on_ok_weaker c.push_end-in-Some-2.result
    (λ is. behind page (end_tag (inner_word c.args.inner)) (end_tag (outer_word c.in-Some.outer)) inner
    (is ∙ ap (λ word. c.push_end-in-Some.new.self ++ end_tag word) outer)) c.push_end-in-Some-2.ensures)
