use Rattle.std.proofs.Common.{◌++◌, ◌+◌, ◌*◌, length}
use Rattle.lx_trees.specs.NamedTrees.{total}
use Rattle.lx_trees.specs.Siblings.{from_name}
use Rattle.lx_host.specs.Below.{below_of}
use Rattle.lx_host.specs.Hosts.{id_of, alone, shape_of}
use Rattle.lx_host.specs.Html.{html_of}
use Rattle.lx_trees.specs.Lookups.{children_of}
use Rattle.lx_host.proofs.Listed.{IsListing}
use Rattle.lx_host.proofs.grove.Grove.+print.Given as goal

abbrev pub decreases-print : goal.decreases-print
decreases-print l = 2 * total (alone l.id l.self.now.hosts) + 1

abbrev pub decreases-print_children : goal.decreases-print_children
decreases-print_children l = 2 * total (alone l.id l.self.now.hosts)

abbrev pub invariant-print_children-loop-at : goal.invariant-print_children-loop-at
invariant-print_children-loop-at l =
    IsListing l.self.hosts l.fn.id l.at l.page (l.fn.page ++ html_of (shape_of (below_of l.self.hosts l.fn.id)))

abbrev pub decreases-print_children-loop-at : goal.decreases-print_children-loop-at
decreases-print_children-loop-at l = length (from_name l.at (children_of id_of l.self.hosts l.fn.id))
