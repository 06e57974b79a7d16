use Rattle.std.proofs.Common.{ap, sym, ◌∙◌, ◌++◌}
use Rattle.lx_host.specs.Hosts.{id_of, alone, shape_of}
use Rattle.lx_host.specs.Html.{html_of, first_tree}
use Rattle.lx_host.specs.Room.{Held}
use Rattle.lx_host.proofs.Weights.{first_alone, first_shape}
use Rattle.lx_trees.proofs.Edits.{has-root}
use Rattle.lx_host.proofs.tree.HostTree.print_html.Goals as goal

pub print-requires : goal.print-requires
print-requires c = record { there = has-root id_of c.self.inside.grove.hosts c.in_order.ensures.ordered }

pub returns-clause-html : goal.returns-clause-html
returns-clause-html c =
    let hosts = c.self.inside.grove.hosts in
    c.into_text.ensures ∙ c.in_ok-print.ensures ∙ ap (λ page. page ++ html_of (shape_of (alone 0 hosts))) c.new-page.ensures
    ∙ sym (ap html_of (first_shape hosts ∙ ap shape_of (first_alone hosts c.in_order.ensures.ordered)))
    ∙ ap (λ (v : Held). html_of (first_tree (shape_of v.tree.hosts))) c.self.view_is
