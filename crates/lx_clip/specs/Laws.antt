-- What holds of every slice that is put into a draft.
use Rattle.std.specs.Prelude.{ℕ, ◌≡◌, List, Result, Ok}
use Rattle.serde_json.specs.Data.{Data}
use Rattle.lx_node.specs.Kinds.{may_hold}
use Rattle.lx_node.specs.declared.cause.Cause.{Cause}
use Rattle.lx_forest.specs.Lookups.{IsHeld}
use Rattle.lx_draft.specs.Working.{Working, TextsAreShort}
use Rattle.lx_draft.specs.Covering.{IsReady, IsCovering}
use Rattle.lx_caret.specs.Lying.{IsLying, LeavesLying}
use Rattle.lx_clip.specs.Pasting.{insert_step, paste_step}

-- marks show whatever inserting or pasting a slice changes
pub record PastesAreCovered : Type 0 where
  pub insert : (slice : Data) → IsCovering (insert_step slice)
  pub paste : (text : List ℕ) → IsCovering (paste_step text)

-- A step that isn't refused leaves a selection that lies in the tree, where it did before. It says nothing of other selections,
-- since it changes none where there is nothing to insert.
abbrev pub KeepsLying : (Working → Result Working Cause) → Type 0
KeepsLying step = (w v : Working) → IsReady w → IsHeld may_hold w.forest → TextsAreShort w → IsLying w → step w ≡ Ok v → IsLying v

-- the selection lies in the tree after it; what is pasted needs no selection that did before, since it is refused without one
pub record PastesLie : Type 0 where
  pub insert : (slice : Data) → KeepsLying (insert_step slice)
  pub paste : (text : List ℕ) → LeavesLying (paste_step text)
