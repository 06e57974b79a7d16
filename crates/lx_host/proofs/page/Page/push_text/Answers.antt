use Rattle.std.proofs.Common.{◌++◌, map-id, sym, ap, ◌∙◌}
use Rattle.std.proofs.lemmas.Iterator.{YieldsList-from_chars}
use Rattle.std.proofs.lemmas.Iterator.Consumers.{YieldsList-end}
use Rattle.lx_host.specs.Html.{text_html}
use Rattle.lx_host.proofs.page.Page.push_text.Goals as goal

pub returns : goal.returns
returns c =
    let t = YieldsList-end (YieldsList-from_chars c.args.text.now c.utf8.text cc) c.loop-character.yielded _ c.loop-character.yielded_by _ _ c.in-None.is
    c.next.ensures.steps in
    c.loop-character.invariant ∙ ap (λ all. c.args.self.now ++ text_html all) (sym (map-id c.loop-character.yielded) ∙ t.0)
