-- A reader of a forest, and how often it has read.
use Rattle.std.specs.Prelude.{ℕ}
use Rattle.lx_forest.specs.Forest.{Forest}

-- a reader of a forest, and how often it has read
pub record Reader : Type 0 where
  pub forest : Forest
  pub count : ℕ
