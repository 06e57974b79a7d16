-- Room for operations, so that they take no memory.
use Rattle.std.specs.Prelude.{ℕ, ◌+◌, ◌≤◌, List, Option, None, Some, sum_by}
use Rattle.lx_host.specs.Hosts.{HostTree}
use Rattle.lx_host.specs.declared.op.Op.{Op}
use Rattle.lx_host.specs.declared.op.Op.TheVariants.{Create, Attr}

-- how much can be added without memory: hosts, and vectors for attributes that are kept in stock
pub record Room : Type 0 where
  pub hosts : ℕ
  pub values : ℕ

-- a host tree, with the room beside it
pub record Held : Type 0 where
  pub tree : HostTree
  pub room : Room

-- ---- what operations take

-- one for a value, and none where there is none
abbrev pub one_for : Option (List ℕ) → ℕ
one_for None = 0
one_for (Some value) = 1

-- the hosts that an operation adds
abbrev pub hosts_for : Op → ℕ
hosts_for (Create id key tag attrs text ending) = 1
hosts_for op = 0

-- the vectors that it may take out of the stock
abbrev pub values_for : Op → ℕ
values_for (Attr id name value) = one_for value
values_for op = 0

-- the room that operations take: one host for each `create`, one vector for each `attr` with a value
abbrev pub HasRoom : List Op → Room → Type 0
HasRoom ops room = (sum_by hosts_for ops ≤ room.hosts) × (sum_by values_for ops ≤ room.values)

-- so many hosts and vectors are taken out of the room, at most
abbrev pub Spends : ℕ → ℕ → Room → Room → Type 0
Spends hosts values old new = (old.hosts ≤ new.hosts + hosts) × (old.values ≤ new.values + values)
