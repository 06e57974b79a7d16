-- The laws of drafts on which work after an edit rests.
use Rattle.std.specs.Prelude.{ℕ, List}
use Rattle.lx_node.specs.declared.kind.Kind.{Kind}
use Rattle.lx_node.specs.declared.fields.Fields.{Fields}
use Rattle.lx_select.specs.declared.selection.Selection.{Selection}
use Rattle.lx_draft.specs.Working.{Working}
use Rattle.lx_draft.specs.Steps.{count_step, new_step, set_step, splice_step, take_step, put_step, mark_step, mark_uncounted_step, select_step}
use Rattle.lx_draft.specs.Covering.{IsReady, AreCovered, IsCovering}

-- marks show whatever the steps of a draft change, one step or several
pub record DraftsAreCovered : Type 0 where
  -- nothing is done, one thing after another, and another selection
  pub same : (w : Working) → IsReady w → AreCovered w w
  pub composed : (u v w : Working) → AreCovered u v → AreCovered v w → AreCovered u w
  pub pointed : (w : Working) (selection : Selection) → IsReady w → AreCovered w (record w { selection = selection })
  -- each step
  pub count : IsCovering count_step
  pub new : (kind : Kind) (fields : Fields) → IsCovering (new_step kind fields)
  pub set : (k : ℕ) (fields : Fields) → IsCovering (set_step k fields)
  pub splice : (k from to : ℕ) (new : List ℕ) → IsCovering (splice_step k from to new)
  pub take : (k : ℕ) → IsCovering (take_step k)
  pub put : (k p index : ℕ) → IsCovering (put_step k p index)
  pub mark : (k : ℕ) → IsCovering (mark_step k)
  pub mark_uncounted : (k : ℕ) → IsCovering (mark_uncounted_step k)
  pub select : (selection : Selection) → IsCovering (select_step selection)
