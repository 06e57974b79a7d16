-- What the tables of marks stand for.
use Rattle.std.specs.Prelude.{◌≡◌, ℕ, List, [], ◌⊎◌}
use Rattle.std.specs.Map.{keys_of}
use Rattle.lx_marks.specs.declared.marks.Tables.{Tables}
use Rattle.lx_marks.specs.Marks.{Marked, IsMarked}

-- the keys in the two tables, in their order
abbrev pub marked_in : Tables → Marked
marked_in t = record { leaves = t.leaves.keys.items; elements = t.elements.entries.items }

-- a table has all of the keys, in their order, or none
abbrev pub AreTabled : List ℕ → List ℕ → Type 0
AreTabled keys table = (table ≡ []) ⊎ (table ≡ keys)

-- no key occurs twice, and each table has all keys or none
pub record AreTables (t : Tables) : Type 0 where
  pub once : IsMarked (marked_in t)
  pub leaves : AreTabled t.leaves.keys.items t.leaves.table.keys
  pub elements : AreTabled (keys_of t.elements.entries.items) t.elements.table.keys
