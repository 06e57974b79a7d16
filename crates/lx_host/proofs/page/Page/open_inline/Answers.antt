use Rattle.std.proofs.Common.{[], ◌++◌, ap, ◌∙◌}
use Rattle.std.specs.Str.{chars}
use Rattle.std.proofs.lemmas.Result.{on_ok_weaker}
use Rattle.lx_host.specs.Html.{start_tag}
use Rattle.lx_host.specs.Words.{inner_word, outer_word}
use Rattle.lx_host.proofs.Pages.{behind, chars-inner_word, chars-outer_word}
use Rattle.lx_host.proofs.page.Page.open_inline.Goals as goal

pub returns-in-None : goal.returns-in-None
returns-in-None c =
    rw c.in-None.is
    (on_ok_weaker c.push_start.result
    (λ is. is ∙ ap (λ word. c.args.self.now ++ start_tag word c.args.attributes.now) (ap chars c.word.ensures ∙ chars-inner_word c.args.inner))
    c.push_start.ensures)

pub returns-in_ok-push_start-in-Some : goal.returns-in_ok-push_start-in-Some
returns-in_ok-push_start-in-Some c =
    let page = c.args.self.now in
    let attributes = c.args.attributes.now in
    let outer =
    c.in_ok-push_start-in-Some.ensures
    ∙ ap (λ word. page ++ start_tag word attributes) (ap chars c.word-in-Some.ensures ∙ chars-outer_word c.in-Some.outer) in
    let inner = ap chars c.word-in-Some-2.ensures ∙ chars-inner_word c.args.inner in
    rw c.in-Some.is
    (on_ok_weaker c.push_start-in-Some-2.result
    (λ is. behind page (start_tag (outer_word c.in-Some.outer) attributes) (start_tag (inner_word c.args.inner) []) outer
    (is ∙ ap (λ word. c.push_start-in-Some.new.self ++ start_tag word []) inner)) c.push_start-in-Some-2.ensures)
