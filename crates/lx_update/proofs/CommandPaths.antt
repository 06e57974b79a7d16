-- What holds of each step of a draft, and of one after another, holds of what built-in commands do with what is sent.
use Rattle.std.proofs.Common.{◌≡◌, ℕ, Bool, Option, None, Some, Result, Ok, Err, refl}
use Rattle.lx_node.specs.declared.cause.Cause.{Cause}
use Rattle.lx_step.specs.declared.built_in.BuiltIn.{BuiltIn}
use Rattle.lx_step.specs.declared.built_in.BuiltIn.TheVariants.{Caret, List as list, Table}
use Rattle.lx_step.specs.declared.built_in.CaretCommand.TheVariants.{InsertText, RemoveText, InsertParagraph, InsertLineBreak, InsertTab, DeleteCharacter, DeleteWord, FormatText, SelectAll, Paste}
use Rattle.lx_step.specs.declared.built_in.ListCommand.TheVariants.{MakeList, RemoveList, Indent, Outdent, ToggleChecked}
use Rattle.lx_step.specs.declared.built_in.TableCommand.TheVariants.{InsertTable, InsertRow, InsertColumn, DeleteRow, DeleteColumn, MergeCells, Unmerge}
use Rattle.lx_step.specs.declared.command.Payload.{Payload}
use Rattle.lx_step.specs.declared.command.Payload.TheVariants as payload
use Rattle.lx_draft.specs.Working.{Working}
use Rattle.lx_draft.specs.Faults.{after}
use Rattle.lx_edit.proofs.Paths.{Leads, self, from_, ok}
use Rattle.lx_caret.specs.Deleting.{delete_character_step, delete_word_step}
use Rattle.lx_caret.specs.Formatting.{format_text_step}
use Rattle.lx_caret.specs.Inserting.{insert_text_step}
use Rattle.lx_caret.specs.Paragraphs.{Broken, insert_paragraph_step, draft_left}
use Rattle.lx_caret.proofs.PathsOfTexts.{remove_text_path, insert_text_path, insert_line_break_path, insert_tab_path}
use Rattle.lx_caret.proofs.PathsOfParagraphs.{insert_paragraph_path}
use Rattle.lx_caret.proofs.PathsOfDeleting.{delete_character_path, delete_word_path}
use Rattle.lx_caret.proofs.PathsOfFormatting.{format_text_path, select_all_path}
use Rattle.lx_clip.specs.Pasting.{paste_step}
use Rattle.lx_clip.proofs.PathsOfPasting.{paste_path}
use Rattle.lx_list.specs.Listing.{make_list_step}
use Rattle.lx_list.proofs.Paths.{make_list_path, remove_list_path, indent_path, outdent_path, toggle_checked_path, paragraph_in_item_path}
use Rattle.lx_table.specs.Growing.{insert_row_step, insert_column_step}
use Rattle.lx_table.specs.Making.{insert_table_step}
use Rattle.lx_table.proofs.Paths.{insert_table_path, insert_row_path, insert_column_path, delete_row_path, delete_column_path, merge_cells_path, unmerge_path}
use Rattle.lx_update.specs.Commands.{with_none, text_sent, word_sent, with_sent, with_size, ways, formats, list_type_words, sides, ended_at, paragraph_step, plain_step, command_step}
use Rattle.lx_update.specs.Scripts.{on_draft}
use Rattle.lx_update.proofs.Paths.{IsScriptPath, Reaches, looked, on_draft_path}

module _ {D : Working → Type 0} {R : Working → Working → Type 0} (scripts : IsScriptPath D R) where
  -- ---- what is sent

  with_none_path : (command : Working → Result Working Cause) → Leads D R command → (sent : Payload) → Leads D R (with_none command sent)
  with_none_path command leads payload.Nothing w v d e = leads w v d e
  with_none_path command leads _ w v d e = absurd (cc)

  with_sent_path : {A : Type 0} (sent : Result A Cause) (command : A → Working → Result Working Cause) → ((a : A) → Leads D R (command a))
      → Leads D R (with_sent sent command)
  with_sent_path sent command leads w v d e = looked (R w v) sent (λ a. command a w) v (λ a f. leads a w v d f) e

  with_size_path : (command : ℕ → ℕ → Bool → Working → Result Working Cause)
      → ((rows columns : ℕ) (headers : Bool) → Leads D R (command rows columns headers)) → (sent : Payload) → Leads D R (with_size command sent)
  with_size_path command leads (payload.Grid rows columns headers) w v d e = leads rows columns headers w v d e
  with_size_path command leads _ w v d e = absurd (cc)

  -- ---- the commands

  ended_path : (item : Option ℕ) → Leads D R (ended_at item)
  ended_path None w v d e = ok R w w v (self scripts.path w d) e
  ended_path (Some item) w v d e = paragraph_in_item_path scripts.path item w v d e

  cut_path : (w v : Working) (r : Result Broken Cause) → ((u : Working) → draft_left r ≡ Ok u → R w u)
      → after r (λ broken. ended_at broken.item broken.draft) ≡ Ok v → R w v
  cut_path w v (Ok broken) each e = from_ scripts.path w broken.draft v (ended_at broken.item) (each broken.draft refl) (ended_path broken.item) e
  cut_path w v (Err cause) each e = absurd (cc)

  paragraph_path : Leads D R paragraph_step
  paragraph_path w v d e = cut_path w v (insert_paragraph_step w) (λ u f. insert_paragraph_path scripts.path w u d f) e

  plain_path : (command : BuiltIn) → Leads D R (plain_step command)
  plain_path (Caret RemoveText) w v d e = remove_text_path scripts.path w v d e
  plain_path (Caret InsertParagraph) w v d e = paragraph_path w v d e
  plain_path (Caret InsertLineBreak) w v d e = insert_line_break_path scripts.path w v d e
  plain_path (Caret InsertTab) w v d e = insert_tab_path scripts.path w v d e
  plain_path (Caret SelectAll) w v d e = select_all_path scripts.path w v d e
  plain_path (list RemoveList) w v d e = remove_list_path scripts.path w v d e
  plain_path (list Indent) w v d e = indent_path scripts.path w v d e
  plain_path (list Outdent) w v d e = outdent_path scripts.path w v d e
  plain_path (list ToggleChecked) w v d e = toggle_checked_path scripts.path w v d e
  plain_path (Table DeleteRow) w v d e = delete_row_path scripts.path w v d e
  plain_path (Table DeleteColumn) w v d e = delete_column_path scripts.path w v d e
  plain_path (Table MergeCells) w v d e = merge_cells_path scripts.path w v d e
  plain_path (Table Unmerge) w v d e = unmerge_path scripts.path w v d e
  plain_path _ w v d e = absurd (cc)

  command_path : (command : BuiltIn) (sent : Payload) → Leads D R (command_step command sent)
  unfolding command_step
  command_path (Caret InsertText) sent = with_sent_path (text_sent sent) insert_text_step (insert_text_path scripts.path)
  command_path (Caret DeleteCharacter) sent = with_sent_path (word_sent ways sent) delete_character_step (delete_character_path scripts.path)
  command_path (Caret DeleteWord) sent = with_sent_path (word_sent ways sent) delete_word_step (delete_word_path scripts.path)
  command_path (Caret FormatText) sent = with_sent_path (word_sent formats sent) format_text_step (format_text_path scripts.path)
  command_path (Caret Paste) sent = with_sent_path (text_sent sent) paste_step (paste_path scripts.path)
  command_path (list MakeList) sent = with_sent_path (word_sent list_type_words sent) make_list_step (make_list_path scripts.path)
  command_path (Table InsertTable) sent = with_size_path insert_table_step (insert_table_path scripts.path) sent
  command_path (Table InsertRow) sent = with_sent_path (word_sent sides sent) insert_row_step (insert_row_path scripts.path)
  command_path (Table InsertColumn) sent = with_sent_path (word_sent sides sent) insert_column_step (insert_column_path scripts.path)
  command_path plain sent = with_none_path (plain_step plain) (plain_path plain) sent

  pub command_reaches : (command : BuiltIn) (sent : Payload) → Reaches D R (on_draft (command_step command sent))
  command_reaches command sent = on_draft_path D R (command_step command sent) (command_path command sent)
