-- Which hosts show a key: how many there are, and which is the least.
use Rattle.std.specs.Prelude.{ℕ, ◌+◌, ◌≤◌, ◌<◌, ◌≡◌, ◌==◌, ◌&&◌, Bool, true, false, nat_eq, nat_lt, if◌then◌else◌, Option, None, Some, option_map}
use Rattle.std.specs.HashMap.{HashMap}
use Rattle.indexmap.specs.IndexMap.{get}
use Rattle.lx_trees.specs.Trees.{Trees, nil, tree}
use Rattle.lx_trees.specs.Spots.{Spot, spot}
use Rattle.lx_host.specs.Hosts.{Host, id_of, count}
use Rattle.lx_host.specs.declared.keys.Shown.{Shown}

-- the sum of a number over all labels
abbrev pub weighed : {A : Type 0} → (A → ℕ) → Trees A → ℕ
weighed w nil = 0
weighed w (tree a below rest) = w a + weighed w below + weighed w rest

-- 1 for a host that shows the key
abbrev pub shows : ℕ → Host → ℕ
shows key host = if host.face.key == key then 1 else 0

-- the id of a host that shows the key, and 0 for any other
abbrev pub id_shown : ℕ → Host → ℕ
id_shown key host = if host.face.key == key then host.id else 0

-- 1 for the host of that id, if it shows the key
abbrev pub shows_at : ℕ → ℕ → Host → ℕ
shows_at key q host = if host.id == q && host.face.key == key then 1 else 0

-- how many hosts show the key
abbrev pub shown : ℕ → Trees Host → ℕ
shown key hosts = weighed (shows key) hosts

-- the sum of the ids of the hosts that show the key
abbrev pub ids_shown : ℕ → Trees Host → ℕ
ids_shown key hosts = weighed (id_shown key) hosts

-- whether a host of that id shows the key
abbrev pub is_shown : ℕ → Trees Host → ℕ → Bool
is_shown key hosts q = nat_lt 0 (weighed (shows_at key q) hosts)

-- what is known of a key that so many hosts show, with this sum of their ids
abbrev pub entry_by : ℕ → ℕ → Option Shown
entry_by hosts ids = if hosts == 0 then None else Some (record { hosts = hosts; ids = ids })

-- what is known of a key that these hosts show
abbrev pub entry_of : ℕ → Trees Host → Option Shown
entry_of key hosts = entry_by (shown key hosts) (ids_shown key hosts)

-- a table by keys has of each key how many hosts show it, and the sum of their ids
pub record AreKeyed {S : Type 0} (m : HashMap ℕ Shown S) (hosts : Trees Host) : Type 0 where
  pub each : (key : ℕ) → get nat_eq m key ≡ entry_of key hosts

-- the least of the numbers that pass the test, if one does
abbrev pub IsLeast : (ℕ → Bool) → Option ℕ → Type 0
IsLeast test None = (q : ℕ) → test q ≡ false
IsLeast test (Some m) = (test m ≡ true) × ((q : ℕ) → test q ≡ true → m ≤ q)

-- what is kept of hosts beside their links: the keys that they show, and that each id is below the next one
pub record IsKept {S : Type 0} (keys : HashMap ℕ Shown S) (next : ℕ) (hosts : Trees Host) : Type 0 where
  pub keyed : AreKeyed keys hosts
  pub below : (q : ℕ) → next < q + 1 → count q hosts ≡ 0

-- the key that the host of that id shows, where there is one
abbrev pub key_at : Trees Host → ℕ → Option ℕ
key_at f q = option_map (λ (s : Spot Host). s.label.face.key) (spot id_of f q)
