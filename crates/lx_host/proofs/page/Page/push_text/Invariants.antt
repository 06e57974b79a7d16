use Rattle.std.proofs.Common.{◌≡◌, ◌++◌}
use Rattle.lx_host.specs.Html.{text_html}
use Rattle.lx_host.proofs.page.Page.push_text.Given as goal

abbrev pub invariant-loop-character : goal.invariant-loop-character
invariant-loop-character l = l.self ≡ l.initial.self ++ text_html l.yielded
