-- The laws of composite edits on which work after an edit rests.
use Rattle.std.specs.Prelude.{ℕ, Bool, List, Result}
use Rattle.lx_node.specs.declared.cause.Cause.{Cause}
use Rattle.lx_draft.specs.Working.{Working}
use Rattle.lx_draft.specs.Covering.{IsCovering}
use Rattle.lx_edit.specs.InTurn.{in_turn}
use Rattle.lx_edit.specs.Edits.{remove_step, children_step, replace_step, wrap_step, unwrap_step}
use Rattle.lx_edit.specs.Texts.{split_step, join_step, join_around_step}

-- marks show whatever an edit changes that is made of steps
pub record EditsAreCovered : Type 0 where
  -- a step for each key of a list
  pub turns : (step : ℕ → Working → Result Working Cause) → ((k : ℕ) → IsCovering (step k)) → (ks : List ℕ) → IsCovering (in_turn step ks)
  -- each edit
  pub remove : (k : ℕ) → IsCovering (remove_step k)
  pub replace : (k with : ℕ) (keep : Bool) → IsCovering (replace_step k with keep)
  pub wrap : (k outer : ℕ) → IsCovering (wrap_step k outer)
  pub unwrap : (k : ℕ) → IsCovering (unwrap_step k)
  pub children : (from to : ℕ) → IsCovering (children_step from to)
  pub split : (k : ℕ) (offsets : List ℕ) → IsCovering (split_step k offsets)
  pub join : (first second : ℕ) → IsCovering (join_step first second)
  pub join_around : (k : ℕ) → IsCovering (join_around_step k)
