-- What the entries of a history tell of the trees beside theirs.
use Rattle.std.specs.Prelude.{◌≡◌, ℕ, List, [], ◌∷◌, map, Option, None, Some, IfSome}
use Rattle.lx_forest.specs.Forest.{Forest}
use Rattle.lx_compare.specs.Places.{DifferAt, IsJoined}
use Rattle.lx_draft.specs.declared.state.State.{State}
use Rattle.lx_history.specs.declared.entry.Entry.{Entry}
use Rattle.lx_history.specs.declared.history.History.TheInside.{Inside}

-- the states of entries
abbrev pub states : List Entry → List State
states entries = map (λ (e : Entry). e.state) entries

-- entries, the newest first: the tree of each differs from this one, and that of the next from its own, only where it is told
abbrev pub AreTold : Forest → List Entry → Type 0
AreTold beside [] = Unit {0}
AreTold beside (e ∷ es) = DifferAt e.places e.state.links beside × AreTold e.state.links es

-- all entries tell where their trees differ, those to go back to and those to go forth to, from the current state on
abbrev pub AreEntriesTold : Inside → Type 0
AreEntriesTold h = IfSome h.current (λ c. AreTold c.links h.undo.items × AreTold c.links h.redo.items)

-- entries with one more in front, if there is a state
abbrev pub with_told : Option State → Option (List ℕ) → List Entry → List Entry
with_told None places entries = entries
with_told (Some state) places entries = record { state = state; places = places } ∷ entries

-- the first entry, if there is one, tells of the others too
abbrev pub IsFirstJoined : Option (List ℕ) → List Entry → List Entry → Type 0
IsFirstJoined others [] new = new ≡ []
IsFirstJoined others (e ∷ es) new = (places : Option (List ℕ)) × (new ≡ record { state = e.state; places = places } ∷ es) × IsJoined e.places others places

-- the current state, if there is one, differs from a tree only at these places
abbrev pub IsAway : Option State → Option (List ℕ) → Forest → Type 0
IsAway current places other = IfSome current (λ c. DifferAt places c.links other)
