-- What is below a host.
use Rattle.std.specs.Prelude.{ℕ}
use Rattle.lx_trees.specs.Trees.{Trees}
use Rattle.lx_trees.specs.NamedTrees.{gathered}
use Rattle.lx_host.specs.Hosts.{Host, id_of}
use Rattle.lx_trees.specs.Lookups.{children_of}

-- the trees of a host's children, one after another
abbrev pub below_of : Trees Host → ℕ → Trees Host
below_of hosts id = gathered id_of hosts (children_of id_of hosts id)
