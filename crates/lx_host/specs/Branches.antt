-- Where the root is, and where a host may be put among others.
use Rattle.std.specs.Prelude.{ℕ, ◌==◌, ◌≡◌, List, Option, None, Some, Bool, true}
use Rattle.std.specs.List.{list_any}
use Rattle.lx_trees.specs.Trees.{Trees, nil, tree}
use Rattle.lx_host.specs.Hosts.{Host}

-- the first host is host 0
abbrev pub IsRooted : Trees Host → Type 0
IsRooted nil = ⊥
IsRooted (tree host below rest) = host.id ≡ 0

-- whether the one to be put before, if any, is among these ids
abbrev pub has_before : Option ℕ → List ℕ → Bool
has_before None ids = true
has_before (Some before) ids = list_any (λ id. id == before) ids
