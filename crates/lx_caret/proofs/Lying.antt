-- Every command that isn't refused leaves a selection that lies in the tree.
use Rattle.std.proofs.Common.{◌≡◌, Result, Ok, Err}
use Rattle.std.specs.Prelude.{OnOk}
use Rattle.lx_node.specs.declared.cause.Cause.{Cause}
use Rattle.lx_node.specs.declared.cause.Fault.{Fault}
use Rattle.lx_draft.specs.Working.{Working}
use Rattle.lx_edit.specs.Standing.{Does, Gives}
use Rattle.lx_caret.specs.Laws.{SelectionsLie}
use Rattle.lx_caret.proofs.Selected.{lies-select_all}
use Rattle.lx_caret.proofs.Cleared.{lies-remove_text}
use Rattle.lx_caret.proofs.Adds.{lies-insert_text, lies-insert_line_break, lies-insert_tab}
use Rattle.lx_caret.proofs.Breaks.{lies-insert_paragraph}
use Rattle.lx_caret.proofs.Deletes.{lies-delete_character, lies-delete_word}
use Rattle.lx_caret.proofs.Formats.{lies-format_text}

pub selections : SelectionsLie
selections = record {
  insert_text = lies-insert_text;
  remove_text = lies-remove_text;
  insert_paragraph = lies-insert_paragraph;
  insert_line_break = lies-insert_line_break;
  insert_tab = lies-insert_tab;
  delete_character = lies-delete_character;
  delete_word = lies-delete_word;
  format_text = lies-format_text;
  select_all = lies-select_all;
}

-- what follows from an answer Ok holds of it
pub still_lies : {A E P Q : Type 0} (r : Result A E) → (P → Q) → OnOk r P → OnOk r Q
still_lies (Ok a) leads so = leads so
still_lies (Err e) leads so = tt

pub does_lie : {T Q : Type 0} (step : Result Working Cause) (new : Working) (r : Result T Fault) → (step ≡ Ok new → Q) → Does step new r → OnOk r Q
does_lie step new (Ok t) leads so = leads so
does_lie step new (Err e) leads so = tt

pub gives_lying : {A T Q : Type 0} (step : Result A Cause) (made : T → A) (new : Working) (r : Result T Fault) → ((t : T) → step ≡ Ok (made t) → Q)
    → Gives step made new r → OnOk r Q
gives_lying step made new (Ok t) leads so = leads t so
gives_lying step made new (Err e) leads so = tt
