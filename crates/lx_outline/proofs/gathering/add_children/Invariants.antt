use Rattle.std.proofs.Common.{ℕ, length}
use Rattle.lx_trees.specs.Siblings.{from_name}
use Rattle.lx_forest.specs.Forest.{Forest}
use Rattle.lx_forest.specs.Lookups.{children_of}
use Rattle.lx_outline.specs.Reading.{piece_at}
use Rattle.lx_outline.proofs.Along.{IsOnWay}
use Rattle.lx_outline.proofs.gathering.add_children.Given as goal

abbrev pub invariant-loop-at : goal.invariant-loop-at
invariant-loop-at g l =
    IsOnWay (g.R.Records.forest l.fn.records) l.fn.parent piece_at (λ (f : Forest) (k : ℕ). 1) l.fn.text (g.R.Records.count l.fn.records)
    (g.R.Records.forest l.records) l.text (g.R.Records.count l.records) l.at

abbrev pub decreases-loop-at : goal.decreases-loop-at
decreases-loop-at g l = length (from_name l.at (children_of (g.R.Records.forest l.fn.records) l.fn.parent))
