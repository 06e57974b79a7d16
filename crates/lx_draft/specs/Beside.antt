-- A node is put right before another, or right after it.
use Rattle.std.specs.Prelude.{ℕ, ◌+◌, List, length, Option, None, Some, unwrap_or, Result, Err}
use Rattle.lx_trees.specs.Siblings.{index_in}
use Rattle.lx_node.specs.declared.cause.Cause.{Cause}
use Rattle.lx_node.specs.declared.cause.Cause.TheVariants.{BadPlace}
use Rattle.lx_forest.specs.Lookups.{parent_of, index_of}
use Rattle.lx_draft.specs.Working.{Working}
use Rattle.lx_draft.specs.Steps.{put_step}

-- the index of a place among children: that of the one that is to come after it, or the end
abbrev pub gap_index : Option ℕ → List ℕ → ℕ
gap_index None children = length children
gap_index (Some before) children = unwrap_or (index_in children before) 0

-- put where the other is, so that this one comes right before it, which has to have a parent
abbrev pub before_at : ℕ → ℕ → Option ℕ → Option ℕ → Working → Result Working Cause
before_at k other (Some p) (Some index) w = put_step k p index w
before_at k other _ _ w = Err (BadPlace other)

-- a node put right before another
unfoldable pub put_before_step : ℕ → ℕ → Working → Result Working Cause
put_before_step k other w = before_at k other (parent_of w.forest other) (index_of w.forest other) w

-- put right after where the other is, which has to have a parent
abbrev pub behind_at : ℕ → ℕ → Option ℕ → Option ℕ → Working → Result Working Cause
behind_at k other (Some p) (Some index) w = put_step k p (index + 1) w
behind_at k other _ _ w = Err (BadPlace other)

-- a node put right after another
unfoldable pub put_behind_step : ℕ → ℕ → Working → Result Working Cause
put_behind_step k other w = behind_at k other (parent_of w.forest other) (index_of w.forest other) w
