use Rattle.std.proofs.Common.{◌≡◌, ◌++◌, take}
use Rattle.lx_host.specs.Html.{attributes_html}
use Rattle.lx_host.proofs.page.Page.push_attributes.Given as goal

abbrev pub invariant-loop-name : goal.invariant-loop-name
invariant-loop-name l = l.self ≡ l.initial.self ++ attributes_html (take l.name-index l.attributes)
