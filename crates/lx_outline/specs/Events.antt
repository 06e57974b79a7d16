-- What a commit did to nodes, from the trees before and after.
use Rattle.std.specs.Prelude.{◌≡◌, ℕ, Bool, true, false, map, List, [], ◌∷◌, ◌++◌}
use Rattle.lx_trees.specs.Siblings.{is_among}
use Rattle.lx_forest.specs.Forest.{Forest}
use Rattle.lx_forest.specs.Lookups.{has, kind_of, fields_of, parent_of, children_of, rises_from}
use Rattle.lx_outline.specs.declared.event.Event.{Event}
use Rattle.lx_outline.specs.declared.event.Event.TheVariants.{Destroyed, Created, Updated}
use Rattle.lx_outline.specs.declared.keys.Change.{Change}
use Rattle.lx_outline.specs.declared.keys.Change.TheVariants as change

-- The node is the same in both trees, beside what is below its children. Its kind is part of that, since the level of a
-- heading and the type of a list are there.
pub record IsSame (old new : Forest) (q : ℕ) : Type 0 where
  pub kind : kind_of old q ≡ kind_of new q
  pub fields : fields_of old q ≡ fields_of new q
  pub parent : parent_of old q ≡ parent_of new q
  pub children : children_of old q ≡ children_of new q

-- the node is in the first tree alone
abbrev pub IsDestroyed : Forest → Forest → ℕ → Type 0
IsDestroyed old new q = (has q old ≡ true) × (has q new ≡ false)

-- the node is in the second tree alone
abbrev pub IsCreated : Forest → Forest → ℕ → Type 0
IsCreated old new q = (has q old ≡ false) × (has q new ≡ true)

-- the node is in both, with other fields, another parent or another list of children
abbrev pub IsUpdated : Forest → Forest → ℕ → Type 0
IsUpdated old new q = (has q old ≡ true) × (has q new ≡ true) × (IsSame old new q → ⊥)

-- whether each key is greater than the one before it
abbrev pub ascends : List ℕ → Bool
ascends [] = true
ascends (k ∷ keys) = rises_from k keys

-- these are the keys of which this holds, in ascending order
pub record AreAll (P : ℕ → Type 0) (keys : List ℕ) : Type 0 where
  pub ascending : ascends keys ≡ true
  pub each : (q : ℕ) → is_among q keys ≡ true → P q
  pub all : (q : ℕ) → P q → is_among q keys ≡ true

-- what an event says of a key, by what was done to it
abbrev pub event_of : Change → ℕ → Event
event_of change.Destroyed q = Destroyed q
event_of change.Created q = Created q
event_of change.Updated q = Updated q

-- The events between two trees: what was destroyed, then what was created, then what was updated, each by ascending keys. So
-- there is one such list.
pub record AreEvents (old new : Forest) (events : List Event) : Type 0 where
  pub destroyed : List ℕ
  pub created : List ℕ
  pub updated : List ℕ
  pub listed : events ≡ map (λ q. Destroyed q) destroyed ++ map (λ q. Created q) created ++ map (λ q. Updated q) updated
  pub gone : AreAll (IsDestroyed old new) destroyed
  pub made : AreAll (IsCreated old new) created
  pub changed : AreAll (IsUpdated old new) updated
