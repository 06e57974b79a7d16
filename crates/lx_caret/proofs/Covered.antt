-- Each caret command is covered by what it marks, since the steps are that it is made of.
use Rattle.lx_edit.proofs.Covered.{covered_path}
use Rattle.lx_caret.specs.Laws.{CommandsAreCovered}
use Rattle.lx_caret.proofs.PathsOfTexts.{remove_text_path, insert_text_path, insert_line_break_path, insert_tab_path}
use Rattle.lx_caret.proofs.PathsOfParagraphs.{insert_paragraph_path}
use Rattle.lx_caret.proofs.PathsOfDeleting.{delete_character_path, delete_word_path}
use Rattle.lx_caret.proofs.PathsOfFormatting.{format_text_path, select_all_path}

pub covered-commands : CommandsAreCovered
covered-commands = record {
  insert_text = λ text. insert_text_path covered_path text;
  remove_text = remove_text_path covered_path;
  insert_paragraph = insert_paragraph_path covered_path;
  insert_line_break = insert_line_break_path covered_path;
  insert_tab = insert_tab_path covered_path;
  delete_character = λ back. delete_character_path covered_path back;
  delete_word = λ back. delete_word_path covered_path back;
  format_text = λ bit. format_text_path covered_path bit;
  select_all = select_all_path covered_path;
}
