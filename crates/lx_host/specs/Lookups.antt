-- What is read from hosts.
use Rattle.std.specs.Prelude.{ℕ, ◌==◌, if◌then◌else◌, Option, None, Some, min}
use Rattle.lx_trees.specs.Trees.{Trees, nil, tree}
use Rattle.lx_trees.specs.Siblings.{first_of}
use Rattle.lx_host.specs.Hosts.{Host, children_of}

-- the first child of the host of that id
abbrev pub first_child : ℕ → Trees Host → Option ℕ
first_child id hosts = first_of (children_of id hosts)

-- the lesser of two numbers, where there are
abbrev pub lesser : Option ℕ → Option ℕ → Option ℕ
lesser None other = other
lesser (Some n) None = Some n
lesser (Some n) (Some m) = Some (min n m)

-- the least id of the hosts that show the key
abbrev pub host_of : ℕ → Trees Host → Option ℕ
host_of key nil = None
host_of key (tree host below rest) =
    lesser (if host.face.key == key then Some host.id else None) (lesser (host_of key below) (host_of key rest))
