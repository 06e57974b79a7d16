-- What is copied is read back: the nodes that a slice makes have the trees that were covered, but for their keys.
use Rattle.std.specs.Prelude.{ℕ, ◌≡◌, Bool, true, false, codes, Result, Ok, Err}
use Rattle.serde_json.specs.Data.{array}
use Rattle.lx_node.specs.declared.cause.Cause.{Cause}
use Rattle.lx_node.specs.declared.cause.Cause.TheVariants.{StepLimit, TooLarge}
use Rattle.lx_forest.specs.Forest.{Forest}
use Rattle.lx_forest.specs.Lookups.{has, alone, trees_of}
use Rattle.lx_draft.specs.Working.{Working}
use Rattle.lx_draft.specs.Covering.{IsReady}
use Rattle.lx_draft.specs.Faults.{after}
use Rattle.lx_json.specs.Exporting.{trees_data}
use Rattle.lx_json.specs.Back.{pieces_of}
use Rattle.lx_json.specs.Nodes.{Made, nodes_read}
use Rattle.lx_clip.specs.Copies.{IsCopy}
use Rattle.lx_clip.specs.Slices.{slice_data}
use Rattle.lx_clip.specs.Pasting.{begins_inline, holder, placed, insert_step}

-- ---- a slice that is read

-- what a slice of these trees makes of a draft, before it is put in
abbrev pub slice_read : Forest → Working → Result Made Cause
slice_read c w = nodes_read (codes "/nodes") (array (trees_data c)) (holder (begins_inline (trees_data c))) w

-- the counts are used up, or something would be too large
abbrev pub is_limit : Cause → Bool
is_limit StepLimit = true
is_limit (TooLarge limit reached) = true
is_limit other = false

-- The new nodes have these trees, but for their keys. What there was before is as it was.
pub record IsReadBack (c : Forest) (w : Working) (made : Made) : Type 0 where
  pub same : pieces_of (trees_of made.draft.forest made.keys) ≡ pieces_of c
  pub stays : (q : ℕ) → has q w.forest ≡ true → alone q made.draft.forest ≡ alone q w.forest

-- A slice of a copy, and any draft: it is read back, or a limit refuses it, so its form is always right. And a slice is put in by
-- reading it and placing what was made.
pub record SlicesAreReadBack : Type 0 where
  pub back : (c : Forest) (w : Working) (made : Made) → IsCopy c → IsReady w → slice_read c w ≡ Ok made → IsReadBack c w made
  pub refused : (c : Forest) (w : Working) (cause : Cause) → IsCopy c → IsReady w → slice_read c w ≡ Err cause → is_limit cause ≡ true
  pub inserted : (c : Forest) (w : Working)
      → insert_step (slice_data c) w ≡ after (slice_read c w) (λ made. placed (begins_inline (trees_data c)) made.keys made.draft)
