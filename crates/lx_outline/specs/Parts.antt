-- What holds of the parts of a list of events while it is made. Only this crate's own contracts cite it.
use Rattle.std.specs.Prelude.{◌≡◌, ℕ, true, false, List, Some}
use Rattle.lx_trees.specs.Siblings.{is_among}
use Rattle.lx_node.specs.declared.node.Node.{Node}
use Rattle.lx_forest.specs.Forest.{Forest}
use Rattle.lx_forest.specs.Lookups.{has, parent_of}
use Rattle.lx_outline.specs.Events.{IsDestroyed}

-- two nodes that were read have the same kind, fields and parent
pub record IsSameNode (old new : Node) : Type 0 where
  pub kind : old.kind ≡ new.kind
  pub fields : old.fields ≡ new.fields
  pub parent : old.parent ≡ new.parent

-- of these marked keys those for which this holds are among the keys, and no others are
pub record IsPart (P : ℕ → Type 0) (marked keys : List ℕ) : Type 0 where
  pub each : (q : ℕ) → is_among q keys ≡ true → P q
  pub all : (q : ℕ) → is_among q marked ≡ true → P q → is_among q keys ≡ true

-- The keys are of nodes that are gone, and with each of them all that went from below it is there too.
pub record AreGone (old new : Forest) (keys : List ℕ) : Type 0 where
  pub each : (q : ℕ) → is_among q keys ≡ true → IsDestroyed old new q
  pub closed : (q p : ℕ) → parent_of old q ≡ Some p → has q new ≡ false → is_among p keys ≡ true → is_among q keys ≡ true

-- of what was right below a node all that is gone is among the keys
abbrev pub HasLost : Forest → Forest → ℕ → List ℕ → Type 0
HasLost old new p keys = (q : ℕ) → parent_of old q ≡ Some p → has q new ≡ false → is_among q keys ≡ true

-- what was among the keys still is
abbrev pub Grows : List ℕ → List ℕ → Type 0
Grows before after = (q : ℕ) → is_among q before ≡ true → is_among q after ≡ true
