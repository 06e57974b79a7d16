-- The caret's commands leave a selection in the tree, as they are dispatched.
use Rattle.std.proofs.Common.{◌≡◌, ℕ, Option, None, Some, Result, Ok, Err, refl, subst}
use Rattle.lx_node.specs.declared.cause.Cause.{Cause}
use Rattle.lx_step.specs.declared.built_in.BuiltIn.TheVariants.{Caret}
use Rattle.lx_step.specs.declared.built_in.CaretCommand.TheVariants.{InsertText, RemoveText, InsertParagraph, InsertLineBreak, InsertTab, DeleteCharacter, DeleteWord, FormatText, SelectAll, Paste}
use Rattle.lx_step.specs.declared.command.Payload.{Payload}
use Rattle.lx_step.specs.declared.command.Payload.TheVariants as payload
use Rattle.lx_draft.specs.Working.{Working}
use Rattle.lx_draft.specs.Faults.{after}
use Rattle.lx_caret.specs.Lying.{IsLying, LeavesLying}
use Rattle.lx_caret.specs.Deleting.{delete_character_step, delete_word_step}
use Rattle.lx_caret.specs.Formatting.{format_text_step}
use Rattle.lx_caret.specs.Inserting.{insert_text_step}
use Rattle.lx_caret.specs.Paragraphs.{Broken, insert_paragraph_step}
use Rattle.lx_caret.proofs.Fit.{after_tells, Fit}
use Rattle.lx_caret.proofs.Breaks.{insert_paragraph_fits}
use Rattle.lx_caret.proofs.Lying.{selections}
use Rattle.lx_clip.specs.Pasting.{paste_step}
use Rattle.lx_clip.proofs.Lying.{lies-paste}
use Rattle.lx_list.proofs.Broken.{empty_items}
use Rattle.lx_list.proofs.Ended.{paragraph_in_item_fits}
use Rattle.lx_update.specs.Commands.{with_none, text_sent, word_sent, with_sent, ways, formats, ended_at, paragraph_step, plain_step, command_step}
use Rattle.lx_update.specs.Laws.{CaretCommandsLie}

-- ---- what is sent

lies_with_none : (command : Working → Result Working Cause) → LeavesLying command → (sent : Payload) → LeavesLying (with_none command sent)
lies_with_none command lies payload.Nothing w v ready held short e = lies w v ready held short e
lies_with_none command lies _ w v ready held short e = absurd (cc)

lies_with_sent : {A : Type 0} (sent : Result A Cause) (command : A → Working → Result Working Cause) → ((a : A) → LeavesLying (command a))
    → LeavesLying (with_sent sent command)
lies_with_sent (Ok a) command lies w v ready held short e = lies a w v ready held short e
lies_with_sent (Err cause) command lies w v ready held short e = absurd (cc)

-- ---- a paragraph, also one that ends a list

ended_lies : (item : Option ℕ) (b : Broken) (w v : Working) → Fit b.draft → insert_paragraph_step w ≡ Ok b → b.item ≡ item
    → ended_at item b.draft ≡ Ok v → IsLying v
ended_lies None b w v fit done is e = let same : b.draft ≡ v = cc in subst IsLying same fit.lying
ended_lies (Some item) b w v fit done is e =
    (paragraph_in_item_fits item b.draft v fit (empty_items w b item fit.ready.in_order fit.lying done is) e).lying

lies_paragraph : LeavesLying paragraph_step
lies_paragraph w v ready held short e =
    let told = after_tells (insert_paragraph_step w) (λ broken. ended_at broken.item broken.draft) v e in
    ended_lies told.0.item told.0 w v (insert_paragraph_fits w told.0 ready held short told.1.0) told.1.0 refl told.1.1

-- ---- the commands

pub caret_commands_lie : CaretCommandsLie
unfolding command_step
caret_commands_lie InsertText sent = lies_with_sent (text_sent sent) insert_text_step selections.insert_text
caret_commands_lie DeleteCharacter sent = lies_with_sent (word_sent ways sent) delete_character_step selections.delete_character
caret_commands_lie DeleteWord sent = lies_with_sent (word_sent ways sent) delete_word_step selections.delete_word
caret_commands_lie FormatText sent = lies_with_sent (word_sent formats sent) format_text_step selections.format_text
caret_commands_lie Paste sent = lies_with_sent (text_sent sent) paste_step lies-paste
caret_commands_lie RemoveText sent = lies_with_none (plain_step (Caret RemoveText)) selections.remove_text sent
caret_commands_lie InsertParagraph sent = lies_with_none (plain_step (Caret InsertParagraph)) lies_paragraph sent
caret_commands_lie InsertLineBreak sent = lies_with_none (plain_step (Caret InsertLineBreak)) selections.insert_line_break sent
caret_commands_lie InsertTab sent = lies_with_none (plain_step (Caret InsertTab)) selections.insert_tab sent
caret_commands_lie SelectAll sent = lies_with_none (plain_step (Caret SelectAll)) selections.select_all sent
