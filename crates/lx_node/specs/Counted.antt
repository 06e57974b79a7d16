-- What is counted of a text. A text has no more characters, and no more code units, than bytes, so that both numbers fit.
use Rattle.std.specs.Prelude.{ℕ, ◌≡◌, ◌<◌, ◌^◌, List, length}
use Rattle.lx_node.specs.Units.{units}
use Rattle.lx_node.specs.declared.counts.Counts.{Counts}

-- what a machine has counted of a text: its characters and its code units
pub record AreCounted (counts : Counts) (text : List ℕ) : Type 0 where
  pub characters : counts.characters ≡ length text
  pub fits : units text < 2 ^ 64
  pub units : counts.units ≡ units text
