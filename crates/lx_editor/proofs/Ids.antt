-- Whether a view has ids for the hosts of all nodes that aren't kept, and what is read of two trees that stand alone.
use Rattle.std.proofs.Common.{◌≡◌, ◌∙◌, ◌+◌, ◌<◌, ◌≤◌, ℕ, true, [], ◌∷◌, None, Result, Ok, sym, ap, arith}
use Rattle.std.proofs.lemmas.Bool.Decides.{nat_tests}
use Rattle.lx_node.specs.Limits.{last_u32, most_nodes}
use Rattle.lx_trees.specs.NamedTrees.{total}
use Rattle.lx_node.specs.declared.cause.Limit.TheVariants.{Hosts}
use Rattle.lx_node.specs.declared.memory.NoMemory.{NoMemory}
use Rattle.lx_node.proofs.Strings.{capped_small}
use Rattle.lx_host.specs.Hosts.{HostTree}
use Rattle.lx_forest.specs.Forest.{Forest}
use Rattle.lx_forest.specs.Lookups.{has, alone, roots, IsForest}
use Rattle.lx_forest.proofs.Edits.{has-root}
use Rattle.lx_draft.specs.Faults.{over_at}
use Rattle.lx_reconcile.specs.Allowed.{unkept}
use Rattle.lx_reconcile.proofs.StartEnd.{one_tree}
use Rattle.lx_reconcile.proofs.UnkeptNodes.{unkept-total}
use Rattle.lx_editor.specs.Updated.{hosts_fault}

-- what is read of a tree that stands alone
pub read_alone : (f g : Forest) → g ≡ f → IsForest f → roots f ≡ 0 ∷ [] → alone 0 g ≡ f
read_alone f g same order only = ap (alone 0) same ∙ one_tree f order only

pub read_root : (f g : Forest) → g ≡ f → IsForest f → has 0 g ≡ true
read_root f g same order = ap (has 0) same ∙ has-root f order

-- ---- ids

pub ok_same : (a b : ℕ) → ◌≡◌ {A = Result ℕ NoMemory} (Ok a) (Ok b) → a ≡ b
ok_same a b e = cc

within : (n : ℕ) → n ≤ last_u32 → over_at Hosts last_u32 n ≡ None
within n h = grind (arith, nat_tests, h)

pub ids_suffice : (old new : Forest) (view : HostTree) (next : ℕ) → next ≡ view.next → total new ≤ most_nodes → next + 16384 ≤ 4294967295
    → None ≡ hosts_fault old new view
ids_suffice old new view next at few room =
    let n : ℕ = view.next + unkept old None new in
    let enough : n ≤ last_u32 = omega (arith, at, few, room, unkept-total old None new) in
    sym (ap (over_at Hosts last_u32) (sym (capped_small n (omega (arith, enough)))) ∙ within n enough)

pub room_enough : (old new : Forest) (view : HostTree) (next : ℕ) → next ≡ view.next → total new ≤ most_nodes → next + 16384 ≤ 4294967295
    → view.next + unkept old None new ≤ last_u32
room_enough old new view next at few room = omega (arith, at, few, room, unkept-total old None new)

pub ids_counted : (old new : Forest) (view : HostTree) (next more : ℕ) → next ≡ view.next → next < 4294967296 → total new ≤ most_nodes
    → more ≡ unkept old None new → over_at Hosts last_u32 (next + more) ≡ hosts_fault old new view
ids_counted old new view next more at range few count =
    let n : ℕ = view.next + unkept old None new in
    let same : next + more ≡ n = omega (arith, at, count) in
    ap (over_at Hosts last_u32) (same ∙ capped_small n (omega (arith, at, range, few, unkept-total old None new)))

none_over : (n : ℕ) → over_at Hosts last_u32 n ≡ None → n ≤ last_u32
none_over n e = grind (arith, nat_tests, e)

pub room_counted : (old new : Forest) (view : HostTree) (next more : ℕ) → next ≡ view.next → more ≡ unkept old None new
    → over_at Hosts last_u32 (next + more) ≡ None → view.next + unkept old None new ≤ last_u32
room_counted old new view next more at count none = omega (arith, at, count, none_over (next + more) none)
