-- The keys that edits marked, and what marking does to them. What marks doesn't unfold: its laws are in `specs/Laws.antt`.
use Rattle.std.specs.Prelude.{ℕ, ◌==◌, ◌||◌, Bool, false, is_some, if◌then◌else◌, List, [], ◌∷◌, ◌++◌, Option, None, Some}
use Rattle.std.specs.Map.{keys_of}
use Rattle.lx_trees.specs.Siblings.{is_among, NoRepeats}

-- the keys that edits marked, by their first marks: leaves, and elements, each with whether it was marked itself or
-- only below
pub record Marked : Type 0 where
  pub leaves : List ℕ
  pub elements : List (ℕ × Bool)

-- nothing is marked
abbrev pub unmarked : Marked
unmarked = record { leaves = []; elements = [] }

-- the flag of a key, if it is there
abbrev pub flag_in : List (ℕ × Bool) → ℕ → Option Bool
flag_in [] q = None
flag_in (e ∷ es) q = if q == e.0 then Some e.1 else flag_in es q

-- the elements with this one: one that is there keeps its place, and a flag that is true stays true
unfoldable pub flagged : ℕ → Bool → List (ℕ × Bool) → List (ℕ × Bool)
flagged k flag [] = (k, flag) ∷ []
flagged k flag (e ∷ es) = if k == e.0 then (e.0, e.1 || flag) ∷ es else e ∷ flagged k flag es

-- the names with this one, after all unless it is there
unfoldable pub with_name : ℕ → List ℕ → List ℕ
with_name k xs = if is_among k xs then xs else xs ++ k ∷ []

-- a leaf is marked
unfoldable pub with_leaf : ℕ → Marked → Marked
with_leaf k m = record m { leaves = with_name k m.leaves }

-- an element is marked, itself where the flag is true
unfoldable pub with_marked : ℕ → Bool → Marked → Marked
with_marked k flag m = record m { elements = flagged k flag m.elements }

-- the names with all of these, one after another
unfoldable pub with_names : List ℕ → List ℕ → List ℕ
with_names [] xs = xs
with_names (k ∷ ks) xs = with_names ks (with_name k xs)

-- the elements with all of these, one after another
unfoldable pub all_flagged : List (ℕ × Bool) → List (ℕ × Bool) → List (ℕ × Bool)
all_flagged [] es = es
all_flagged (f ∷ fs) es = all_flagged fs (flagged f.0 f.1 es)

-- all that the other has marked is marked too: its leaves in their order, and its elements with their flags
unfoldable pub absorbed : Marked → Marked → Marked
absorbed other m = record { leaves = with_names other.leaves m.leaves; elements = all_flagged other.elements m.elements }

-- ---- which nodes are marked

-- a flag is there and is true
abbrev pub is_true_flag : Option Bool → Bool
is_true_flag None = false
is_true_flag (Some flag) = flag

-- whether a node is marked itself: as a leaf, or as an element whose flag is true
abbrev pub is_touched : Marked → ℕ → Bool
is_touched m q = is_among q m.leaves || is_true_flag (flag_in m.elements q)

-- whether a node is marked at all: itself, or since something below it is
abbrev pub is_noted : Marked → ℕ → Bool
is_noted m q = is_among q m.leaves || is_some (flag_in m.elements q)

-- no key occurs twice among the leaves, nor among the elements
pub record IsMarked (m : Marked) : Type 0 where
  pub leaves : NoRepeats m.leaves
  pub elements : NoRepeats (keys_of m.elements)
