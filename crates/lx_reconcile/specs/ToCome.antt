-- The moves of a node's children that are still to come, and what is known of them.
use Rattle.std.specs.Prelude.{ℕ, ◌+◌, ◌≤◌, ◌≡◌, ◌||◌, true, false, List, map, Some}
use Rattle.std.specs.List.{AllByRecursion, list_any}
use Rattle.lx_trees.specs.Siblings.{is_among, NoRepeats}
use Rattle.lx_host.specs.Branches.{IsRooted}
use Rattle.lx_trees.specs.Trees.{Trees, nil, tree}
use Rattle.lx_host.specs.Hosts.{Host, HostTree, alone, IsNumbered}
use Rattle.lx_host.specs.declared.op.Op.{Op}
use Rattle.lx_forest.specs.Forest.{Forest}
use Rattle.lx_forest.specs.Lookups.{children_of, trees_of, IsForest}
use Rattle.lx_reconcile.specs.Allowed.{Shows, unkept}
use Rattle.lx_reconcile.specs.declared.moves.Move.{Move}
use Rattle.lx_reconcile.specs.Reconciled.{LeadsAt, flat, host_in, IsUnderWay}
use Rattle.lx_reconcile.specs.Walk.{child_of, suits_children, is_placing, all_moved, standing, leaving, common, CanAllMove, BeforeUnhandled}

-- A host tree shows the old one of two forests.
pub record IsView (old new : Forest) (v : HostTree) : Type 0 where
  pub before : IsForest old
  pub after : IsForest new
  pub shows : Shows v old
  pub numbered : IsNumbered v
  pub rooted : IsRooted v.hosts

-- These moves are still to come: some children are handled, and these are the children now.
pub record AreToCome (olds news handled now : List ℕ) (moves : List Move) : Type 0 where
  pub can : CanAllMove moves now
  pub unhandled : BeforeUnhandled olds handled moves
  pub suited : AllByRecursion (λ m. suits_children olds m ≡ true) moves
  -- each child has one move, now or before
  pub once : NoRepeats (map child_of moves)
  pub fresh : (q : ℕ) → is_among q (map child_of moves) ≡ true → is_among q handled ≡ false
  pub leads : all_moved moves now ≡ news
  pub each : (q : ℕ) → is_among q news ≡ true → (is_among q handled || is_among q (map child_of moves)) ≡ true
  pub stays : (q : ℕ) → is_among q (standing moves) ≡ true → is_among q news ≡ true
  pub gone : (q : ℕ) → is_among q (leaving moves) ≡ true → is_among q news ≡ false
  -- where the children that are in both lists are in one order, none is placed anew
  pub order : common olds news ≡ common news olds → list_any is_placing moves ≡ false

-- From the next id n these operations lead to this host, and to the next id m, with these moves of its children to come:
-- for the children that these leave standing there are as many ids left as nodes in their trees that aren't kept.
pub record IsInWalk (old new : Forest) (v : HostTree) (k n : ℕ) (ops : List Op) (host : Host) (moves : List Move) (m : ℕ) : Type 0 where
  pub handled : List ℕ
  pub now : List ℕ
  -- the host is above the trees of the children now, of which some are handled
  pub ids : ℕ → ℕ
  pub family : ℕ → Trees Host
  pub id : host.id ≡ host_in v k
  pub leads : LeadsAt (host_in v k) (alone (host_in v k) v.hosts) n ops (tree host (flat family now) nil) m
  pub under_way : IsUnderWay old new v handled now ids family
  pub to_come : AreToCome (children_of old k) (children_of new k) handled now moves
  pub rises : n ≤ m
  pub grows : m + unkept old (Some k) (trees_of new (standing moves)) ≤ n + unkept old (Some k) (trees_of new (children_of new k))
