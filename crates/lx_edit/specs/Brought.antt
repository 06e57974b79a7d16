-- Which index serves for the points that an unwrapped node brings up.
use Rattle.std.specs.Prelude.{ℕ, ◌≡◌, Option}
use Rattle.lx_forest.specs.Lookups.{parent_of, index_of}
use Rattle.lx_select.specs.Selection.{ends_of}
use Rattle.lx_draft.specs.Working.{Working}
use Rattle.lx_edit.specs.Edits.{brought_up}

-- taken for the node's own, this index brings the same points up: it is the node's, or no point is on the node
pub record BringsUp (k : ℕ) (w : Working) (index : Option ℕ) : Type 0 where
  pub same : (v : Working) → brought_up k (parent_of w.forest k) index (ends_of w.selection) v ≡ brought_up k (parent_of w.forest k) (index_of w.forest k) (ends_of w.selection) v
