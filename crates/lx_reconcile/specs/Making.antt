-- What is known where the operations between two trees are made, and what each part of them does. Only this crate's own
-- contracts cite it.
use Rattle.std.specs.Prelude.{ℕ, ◌≡◌, ◌+◌, ◌≤◌, ◌++◌, true, List, [], ◌∷◌, Some}
use Rattle.std.specs.List.{AllByRecursion}
use Rattle.lx_node.specs.Limits.{last_u32}
use Rattle.lx_trees.specs.NamedTrees.{total}
use Rattle.lx_forest.specs.Covered.{Marking}
use Rattle.lx_reconcile.specs.Covering.{AreCoveredByParents}
use Rattle.lx_reconcile.specs.Allowed.{IsDue, unkept}
use Rattle.lx_host.specs.declared.op.Op.{Op}
use Rattle.lx_host.specs.Hosts.{Host, HostTree}
use Rattle.lx_host.specs.Html.{first_tree}
use Rattle.lx_forest.specs.Forest.{Forest}
use Rattle.lx_forest.specs.Lookups.{has, children_of, trees_of}
use Rattle.lx_links.specs.Stands.{Sound}
use Rattle.lx_reconcile.specs.declared.moves.Move.{Move}
use Rattle.lx_reconcile.specs.Handled.{IsReconciled}
use Rattle.lx_reconcile.specs.ToCome.{IsView, IsInWalk}
use Rattle.lx_reconcile.specs.Walk.{standing}

-- The host tree shows the old one of two trees, with nothing after it, and marks cover both.
pub record IsBetween (old new : Forest) (mk : Marking) (v : HostTree) : Type 0 where
  pub view : IsView old new v
  pub was_sound : Sound old
  pub sound : Sound new
  pub whole : first_tree v.hosts ≡ v.hosts
  pub covered : AreCoveredByParents old new mk
  pub noted : (key : ℕ) → mk.touched key ≡ true → mk.noted key ≡ true

-- After the operations at the start there are others that reconcile the host of k. They use the ids from n on, up to m.
pub record Reconciles (old new : Forest) (mk : Marking) (v : HostTree) (k n : ℕ) (start end : List Op) (m : ℕ) : Type 0 where
  pub pushed : List Op
  pub list : end ≡ start ++ pushed
  pub due : AllByRecursion (IsDue old new mk.touched v) pushed
  pub done : IsReconciled old new v k n pushed m

-- After them there are others that make these moves of the children of k, whatever has been done before.
pub record MakesMoves (old new : Forest) (mk : Marking) (v : HostTree) (k : ℕ) (moves : List Move) (n : ℕ) (start end : List Op) (m : ℕ) : Type 0 where
  pub pushed : List Op
  pub list : end ≡ start ++ pushed
  pub due : AllByRecursion (IsDue old new mk.touched v) pushed
  pub leads : (from : ℕ) (ops : List Op) (a : Host) (more : List Move) → IsInWalk old new v k from ops a (moves ++ more) n
      → IsInWalk old new v k from (ops ++ pushed) a more m

-- Some operations have led to where these moves of the children of k are to come, and the next id is n. There are ids for
-- all of them.
pub record AreNext (old new : Forest) (v : HostTree) (k : ℕ) (moves : List Move) (n : ℕ) : Type 0 where
  pub from : ℕ
  pub ops : List Op
  pub a : Host
  pub walk : IsInWalk old new v k from ops a moves n
  pub behind : v.next ≤ from
  pub room : from + unkept old (Some k) (trees_of new (children_of new k)) ≤ last_u32
  pub there : has k new ≡ true

-- the same for these moves with any others after them
pub record AreComing (old new : Forest) (v : HostTree) (k : ℕ) (moves : List Move) (n : ℕ) : Type 0 where
  pub more : List Move
  pub are : AreNext old new v k (moves ++ more) n

-- and for one move
abbrev pub IsNext : Forest → Forest → HostTree → ℕ → Move → ℕ → Type 0
IsNext old new v k m n = AreComing old new v k (m ∷ []) n

-- how many nodes there are in the end in the trees of the children that these moves leave
abbrev pub standing_total : Forest → List Move → ℕ
standing_total new moves = total (trees_of new (standing moves))
