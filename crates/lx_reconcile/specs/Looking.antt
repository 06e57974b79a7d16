-- What is behind a source that nodes are looked up in.
use Rattle.std.specs.Prelude.{ℕ, ◌≤◌, ◌≡◌}
use Rattle.lx_forest.specs.Forest.{Forest}

-- The records that a source reads: how many more reads they have made than the source counts, their forest, and what the
-- source borrows, if anything.
pub record Backing : Type 0 where
  pub lag : ℕ
  pub whole : Forest
  pub place : ℕ

-- Nothing is read that isn't counted, and the forest and what is borrowed stay.
abbrev pub Stays : Backing → Backing → Type 0
Stays was now = (now.lag ≤ was.lag) × (now.whole ≡ was.whole) × (now.place ≡ was.place)
