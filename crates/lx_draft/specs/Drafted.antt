-- What holds of a draft with the keys that it has made or taken out.
use Rattle.std.specs.Prelude.{ℕ, List}
use Rattle.lx_forest.specs.Loose.{AreMoved}
use Rattle.lx_node.specs.Limits.{most_depth}
use Rattle.lx_draft.specs.Working.{Working, IsWorking}
use Rattle.lx_draft.specs.Raised.{IsRaised}

-- what holds of every draft: what is below nothing or too deep was made or taken out, or is below such a node, and
-- above marked nodes all are marked
pub record IsDrafted (w : Working) (loose : List ℕ) : Type 0 where
  pub working : IsWorking w
  pub moved : AreMoved most_depth w.forest loose
  pub raised : IsRaised w.forest w.marks
  pub raised_fresh : IsRaised w.forest w.fresh
