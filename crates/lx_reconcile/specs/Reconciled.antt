-- What operations make of one host with what is below it, whatever is around it.
use Rattle.std.specs.Prelude.{ℕ, ◌≡◌, ◌==◌, if◌then◌else◌, true, false, List, [], ◌∷◌, unwrap_or}
use Rattle.lx_trees.specs.Trees.{Trees, nil, tree, joined}
use Rattle.lx_trees.specs.Siblings.{is_among, first_of}
use Rattle.lx_host.specs.declared.op.Op.{Op}
use Rattle.lx_host.specs.Hosts.{Host, HostTree, has, alone, shape_of, Leads, IsNumbered}
use Rattle.lx_forest.specs.Forest.{Forest}
use Rattle.lx_forest.specs.Lookups as forest
use Rattle.lx_render.specs.Render.{render}
use Rattle.lx_reconcile.specs.Allowed.{hosts_of, IsKept, AllWriteAnew}

-- these trees in place of the one at a host
abbrev pub replaced : ℕ → Trees Host → Trees Host → Trees Host
replaced h new nil = nil
replaced h new (tree a below rest) = if a.id == h then joined new (replaced h new rest) else tree a (replaced h new below) (replaced h new rest)

-- Wherever the host h is with this tree below it, and the next id is n, the operations lead to the same host trees with
-- the other tree there, and to this next id. None writes what is there.
abbrev pub LeadsAt : ℕ → Trees Host → ℕ → List Op → Trees Host → ℕ → Type 0
LeadsAt h from n ops to m =
    (w : HostTree) → IsNumbered w → w.next ≡ n → has h w.hosts ≡ true → alone h w.hosts ≡ from
    → Leads w ops (record { hosts = replaced h to w.hosts; next = m }) × IsNumbered (record { hosts = replaced h to w.hosts; next = m }) × AllWriteAnew w ops

-- the trees of these keys, one after another, where `family` says which tree a key has
abbrev pub flat : (ℕ → Trees Host) → List ℕ → Trees Host
flat family [] = nil
flat family (k ∷ ks) = joined (family k) (flat family ks)

-- ---- what shows which node

-- the host that shows a node in a view, where there is one
abbrev pub host_in : HostTree → ℕ → ℕ
host_in v k = unwrap_or (first_of (hosts_of k v.hosts)) 0

-- These trees show the new node k and all below it; of that each kept node is shown by the host that showed it before.
pub record AreReconciled (old new : Forest) (v : HostTree) (k : ℕ) (to : Trees Host) : Type 0 where
  pub shape : shape_of to ≡ render (forest.alone k new)
  pub keeps : (q : ℕ) → IsKept old new q → forest.has q (forest.alone k new) ≡ true → hosts_of q to ≡ hosts_of q v.hosts

-- one tree, whose host has this id
pub record IsAt (h : ℕ) (t : Trees Host) : Type 0 where
  pub host : Host
  pub below : Trees Host
  pub is : t ≡ tree host below nil
  pub id : host.id ≡ h

-- Some children of a node are handled, and the others are as they were in the view: `ids` says which host each child
-- has now, and `family` which tree.
pub record IsUnderWay (old new : Forest) (v : HostTree) (handled children : List ℕ) (ids : ℕ → ℕ) (family : ℕ → Trees Host) : Type 0 where
  pub at : (c : ℕ) → is_among c children ≡ true → IsAt (ids c) (family c)
  pub done : (c : ℕ) → is_among c children ≡ true → is_among c handled ≡ true → AreReconciled old new v c (family c)
  pub waiting : (c : ℕ) → is_among c children ≡ true → is_among c handled ≡ false → (ids c ≡ host_in v c) × (family c ≡ alone (host_in v c) v.hosts)
