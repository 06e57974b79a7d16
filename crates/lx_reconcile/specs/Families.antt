-- The marked nodes that a view shows, by the host above theirs.
use Rattle.std.specs.Prelude.{ℕ, ◌≡◌, ◌+◌, ◌++◌, List, [], ◌∷◌, length, filter, nat_eq, Option, None, Some}
use Rattle.std.specs.HashMap.{HashMap}
use Rattle.std.specs.Map.{keys_of}
use Rattle.indexmap.specs.IndexMap.{get}
use Rattle.lx_trees.specs.Siblings.{is_named}
use Rattle.lx_trees.specs.Lookups.{parent_of}
use Rattle.lx_host.specs.Hosts.{HostTree, id_of}
use Rattle.lx_host.specs.Html.{first_tree}
use Rattle.lx_host.specs.Lookups.{host_of}
use Rattle.lx_marks.specs.Marks.{Marked}
use Rattle.lx_reconcile.specs.declared.family.Family.{Family}

-- the host right above this one, if there are both
abbrev pub right_above : HostTree → Option ℕ → Option ℕ
right_above v None = None
right_above v (Some id) = parent_of id_of v.hosts id

-- the host right above the one that shows a node
abbrev pub host_above : HostTree → ℕ → Option ℕ
host_above v key = right_above v (host_of key (first_tree v.hosts))

-- those of these keys whose hosts are right below that one
abbrev pub shown_below : HostTree → ℕ → List ℕ → List ℕ
shown_below v host keys = filter (λ key. is_named (host_above v key) host) keys

-- one of them, the first, and how many they are
abbrev pub family_of : List ℕ → Option Family
family_of [] = None
family_of (key ∷ keys) = Some (record { child = key; size = length keys + 1 })

-- a family with one more, which is the one that it names if it is the first
abbrev pub with_child : ℕ → Option Family → Family
with_child key None = record { child = key; size = 1 }
with_child key (Some family) = record { child = family.child; size = family.size + 1 }

-- the keys that are marked: those of leaves, then those of elements
abbrev pub marked_keys : Marked → List ℕ
marked_keys m = m.leaves ++ keys_of m.elements

-- A table has of each host the family of those of these keys that are shown right below it.
pub record AreFamilies {S : Type 0} (v : HostTree) (keys : List ℕ) (families : HashMap ℕ Family S) : Type 0 where
  pub each : (host : ℕ) → get nat_eq families host ≡ family_of (shown_below v host keys)
