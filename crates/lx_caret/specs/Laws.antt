-- What holds of every caret command.
use Rattle.std.specs.Prelude.{ℕ, Bool, List, Result}
use Rattle.lx_node.specs.declared.cause.Cause.{Cause}
use Rattle.lx_draft.specs.Working.{Working}
use Rattle.lx_draft.specs.Covering.{IsCovering}
use Rattle.lx_caret.specs.Lying.{LeavesLying}
use Rattle.lx_caret.specs.Removing.{remove_text_step}
use Rattle.lx_caret.specs.Inserting.{insert_text_step, insert_line_break_step, insert_tab_step}
use Rattle.lx_caret.specs.Paragraphs.{insert_paragraph_step, draft_left}
use Rattle.lx_caret.specs.Deleting.{delete_character_step, delete_word_step}
use Rattle.lx_caret.specs.Formatting.{format_text_step}
use Rattle.lx_caret.specs.SelectAll.{select_all_step}

-- the step of each caret command has a property
pub record EachCommand (Holds : (Working → Result Working Cause) → Type 0) : Type 0 where
  pub insert_text : (text : List ℕ) → Holds (insert_text_step text)
  pub remove_text : Holds remove_text_step
  pub insert_paragraph : Holds (λ w. draft_left (insert_paragraph_step w))
  pub insert_line_break : Holds insert_line_break_step
  pub insert_tab : Holds insert_tab_step
  pub delete_character : (back : Bool) → Holds (delete_character_step back)
  pub delete_word : (back : Bool) → Holds (delete_word_step back)
  pub format_text : (bit : ℕ) → Holds (format_text_step bit)
  pub select_all : Holds select_all_step

-- marks show whatever a command changes
abbrev pub CommandsAreCovered : Type 0
CommandsAreCovered = EachCommand IsCovering

-- a command that isn't refused leaves a selection that lies in the tree
abbrev pub SelectionsLie : Type 0
SelectionsLie = EachCommand LeavesLying
