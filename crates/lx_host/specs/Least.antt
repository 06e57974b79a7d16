-- The least id of a list that passes a test.
use Rattle.std.specs.Prelude.{ℕ, ◌&&◌, Bool, if◌then◌else◌, List, [], ◌∷◌, Option, None, Some}
use Rattle.lx_trees.specs.Trees.{Trees}
use Rattle.lx_trees.specs.Siblings.{is_named}
use Rattle.lx_host.specs.Hosts.{Host, id_of}
use Rattle.lx_host.specs.Lookups.{lesser}
use Rattle.lx_host.specs.Weights.{key_at}
use Rattle.lx_trees.specs.Lookups.{is_attached}

-- the id, if there is one and it passes
abbrev pub passing : (ℕ → Bool) → Option ℕ → Option ℕ
passing test None = None
passing test (Some id) = if test id then Some id else None

-- the least id of a list that passes the test
abbrev pub least_in : (ℕ → Bool) → List ℕ → Option ℕ
least_in test [] = None
least_in test (id ∷ ids) = lesser (passing test (Some id)) (least_in test ids)

-- whether the host of an id is attached and shows the key
abbrev pub shows_attached : ℕ → Trees Host → ℕ → Bool
shows_attached key hosts id = is_named (key_at hosts id) key && is_attached id_of hosts id
