-- What marks show of a change: every node that isn't marked itself is as it was.
use Rattle.std.specs.Prelude.{ℕ, ◌≡◌, ◌≤◌, ◌⊎◌, Bool, true, false, Option, None, Some, Result, Ok}
use Rattle.lx_node.specs.Kinds.{is_element}
use Rattle.lx_node.specs.declared.kind.Kind.{Kind}
use Rattle.lx_node.specs.declared.cause.Cause.{Cause}
use Rattle.lx_marks.specs.Marks.{Marked, flag_in, is_true_flag, is_touched, is_noted}
use Rattle.lx_forest.specs.Forest.{Forest}
use Rattle.lx_forest.specs.Lookups.{has, spot, kind_of, parent_of, IsForest}
use Rattle.lx_forest.specs.Records.{record_at}
use Rattle.lx_draft.specs.Working.{Working}

-- above each marked node every node is marked
abbrev pub IsNotedUp : Forest → Marked → Type 0
IsNotedUp f m = (q p : ℕ) → is_noted m q ≡ true → parent_of f q ≡ Some p → is_noted m p ≡ true

-- the marks n show what changed from f with the marks m to g: a node that isn't marked itself has its label, place,
-- neighbours and children still; marks stay; and where all was marked above marked nodes, it is so again
pub record Covers (f : Forest) (m : Marked) (g : Forest) (n : Marked) : Type 0 where
  pub touched : (q : ℕ) → is_touched m q ≡ true → is_touched n q ≡ true
  pub noted : (q : ℕ) → is_noted m q ≡ true → is_noted n q ≡ true
  pub seen : (q : ℕ) → ((spot g q ≡ spot f q) × (record_at g q ≡ record_at f q)) ⊎ (is_touched n q ≡ true)
  pub above : IsNotedUp f m → IsNotedUp g n

-- ---- drafts

-- every node keeps its kind
pub record KindsStay (f g : Forest) : Type 0 where
  pub each : (q : ℕ) (kind : Kind) → kind_of f q ≡ Some kind → kind_of g q ≡ Some kind

-- a kind is there, and is an element's
abbrev pub is_element_in : Option Kind → Bool
is_element_in None = false
is_element_in (Some kind) = is_element kind

-- only elements are marked as elements themselves
pub record AreElements (f : Forest) (m : Marked) : Type 0 where
  pub each : (q : ℕ) → is_true_flag (flag_in m.elements q) ≡ true → is_element_in (kind_of f q) ≡ true

-- what an update can rely on between two edits of a draft: it hasn't failed, and the next key and those above it are
-- free
pub record IsReady (w : Working) : Type 0 where
  pub in_order : IsForest w.forest
  pub free : (q : ℕ) → w.next_key ≤ q → has q w.forest ≡ false

-- the key that the next new node gets doesn't fall, and each node that is new has a key that was still to be given
pub record AreNew (w v : Working) : Type 0 where
  pub next : w.next_key ≤ v.next_key
  pub each : (q : ℕ) → has q v.forest ≡ true → (has q w.forest ≡ true) ⊎ (w.next_key ≤ q)

-- what a draft became: both its marks and those still to be handled cover it, what the first mark anew the second do
-- too, new nodes have new keys, and the next edit can rely on the same
pub record AreCovered (w v : Working) : Type 0 where
  pub marks : Covers w.forest w.marks v.forest v.marks
  pub fresh : Covers w.forest w.fresh v.forest v.fresh
  pub told : (q : ℕ) → is_touched v.marks q ≡ true → (is_touched w.marks q ≡ true) ⊎ (is_touched v.fresh q ≡ true)
  pub noted : (q : ℕ) → is_noted v.marks q ≡ true → (is_noted w.marks q ≡ true) ⊎ (is_noted v.fresh q ≡ true)
  pub same : w.marks ≡ w.fresh → v.marks ≡ v.fresh
  pub kinds : KindsStay w.forest v.forest
  pub elements : AreElements w.forest w.fresh → AreElements v.forest v.fresh
  pub keys : AreNew w v
  pub ready : IsReady v

-- a step whose every result is covered
abbrev pub IsCovering : (Working → Result Working Cause) → Type 0
IsCovering step = (w v : Working) → IsReady w → step w ≡ Ok v → AreCovered w v
