-- What built-in commands do with what they are given.
use Rattle.std.specs.Prelude.{ℕ, Bool, true, false, List, [], ◌∷◌, chars, codes, Option, None, Some, Result, Ok, Err}
use Rattle.lx_node.specs.declared.kind.ListType.{ListType}
use Rattle.lx_node.specs.declared.kind.ListType.TheVariants.{Bullet, Number, Check}
use Rattle.lx_node.specs.declared.cause.Cause.{Cause}
use Rattle.lx_node.specs.declared.cause.Cause.TheVariants.{BadCommand, HistoryInside}
use Rattle.lx_step.specs.BuiltIns.{row_of}
use Rattle.lx_step.specs.declared.built_in.BuiltIn.{BuiltIn}
use Rattle.lx_step.specs.declared.built_in.BuiltIn.TheVariants.{Turn, Caret, List as list, Table}
use Rattle.lx_step.specs.declared.built_in.CaretCommand.TheVariants.{InsertText, RemoveText, InsertParagraph, InsertLineBreak, InsertTab, DeleteCharacter, DeleteWord, FormatText, SelectAll, Paste}
use Rattle.lx_step.specs.declared.built_in.ListCommand.TheVariants.{MakeList, RemoveList, Indent, Outdent, ToggleChecked}
use Rattle.lx_step.specs.declared.built_in.TableCommand.TheVariants.{InsertTable, InsertRow, InsertColumn, DeleteRow, DeleteColumn, MergeCells, Unmerge}
use Rattle.lx_step.specs.declared.command.Payload.{Payload}
use Rattle.lx_step.specs.declared.command.Payload.TheVariants as payload
use Rattle.lx_draft.specs.Working.{Working}
use Rattle.lx_draft.specs.Faults.{after}
use Rattle.lx_caret.specs.Removing.{remove_text_step}
use Rattle.lx_caret.specs.Inserting.{insert_text_step, insert_line_break_step, insert_tab_step}
use Rattle.lx_caret.specs.Paragraphs.{insert_paragraph_step}
use Rattle.lx_caret.specs.Deleting.{delete_character_step, delete_word_step}
use Rattle.lx_caret.specs.Formatting.{format_text_step}
use Rattle.lx_caret.specs.SelectAll.{select_all_step}
use Rattle.lx_clip.specs.Pasting.{paste_step}
use Rattle.lx_list.specs.Listing.{make_list_step}
use Rattle.lx_list.specs.Dissolving.{remove_list_step}
use Rattle.lx_list.specs.Indenting.{indent_step}
use Rattle.lx_list.specs.Outdenting.{outdent_step}
use Rattle.lx_list.specs.Checking.{toggle_checked_step}
use Rattle.lx_list.specs.Ending.{paragraph_in_item_step}
use Rattle.lx_table.specs.Growing.{insert_row_step, insert_column_step}
use Rattle.lx_table.specs.Making.{insert_table_step}
use Rattle.lx_table.specs.Merging.{merge_cells_step, unmerge_step}
use Rattle.lx_table.specs.Shrinking.{delete_row_step, delete_column_step}

-- ---- what a command is given: nothing, a text, a word or a size; anything else is no payload of it

-- a command that takes nothing
abbrev pub with_none : (Working → Result Working Cause) → Payload → Working → Result Working Cause
with_none command payload.Nothing w = command w
with_none command sent w = Err BadCommand

-- the text that is sent
abbrev pub text_sent : Payload → Result (List ℕ) Cause
text_sent (payload.Text text) = Ok text
text_sent other = Err BadCommand

-- what a word means, if it means anything
abbrev pub meant : {A : Type 0} → Option A → Result A Cause
meant None = Err BadCommand
meant (Some a) = Ok a

-- what the word that is sent means by a table
abbrev pub word_sent : {A : Type 0} → List (List ℕ × A) → Payload → Result A Cause
word_sent table sent = after (text_sent sent) (λ text. meant (row_of table text))

-- a command that takes a text, or what a word means
abbrev pub with_sent : {A : Type 0} → Result A Cause → (A → Working → Result Working Cause) → Working → Result Working Cause
with_sent sent command w = after sent (λ a. command a w)

-- a command that takes the numbers of rows and columns, and whether there are headers
abbrev pub with_size : (ℕ → ℕ → Bool → Working → Result Working Cause) → Payload → Working → Result Working Cause
with_size command (payload.Grid rows columns headers) w = command rows columns headers w
with_size command sent w = Err BadCommand

-- ---- the words

-- the words for the two ways of a deletion, and whether each goes back
abbrev pub ways : List (List ℕ × Bool)
ways = (chars (codes "back"), true) ∷ (chars (codes "forward"), false) ∷ []

-- the side of the caret's cell on which a row or column comes, by its word: whether that is after it
abbrev pub sides : List (List ℕ × Bool)
sides = (chars (codes "before"), false) ∷ (chars (codes "after"), true) ∷ []

-- the types of lists, by their words
abbrev pub list_type_words : List (List ℕ × ListType)
list_type_words = (chars (codes "bullet"), Bullet) ∷ (chars (codes "number"), Number) ∷ (chars (codes "check"), Check) ∷ []

-- the formats of texts, each with its bit
abbrev pub formats : List (List ℕ × ℕ)
formats =
    (chars (codes "bold"), 1)
    ∷ (chars (codes "italic"), 2)
    ∷ (chars (codes "strikethrough"), 4)
    ∷ (chars (codes "underline"), 8)
    ∷ (chars (codes "code"), 16)
    ∷ (chars (codes "subscript"), 32)
    ∷ (chars (codes "superscript"), 64)
    ∷ (chars (codes "highlight"), 128)
    ∷ []

-- ---- the commands

-- an item without children, if there is one, isn't cut in two: it ends its list
abbrev pub ended_at : Option ℕ → Working → Result Working Cause
ended_at None w = Ok w
ended_at (Some item) w = paragraph_in_item_step item w

-- the command `insert-paragraph`, which in an item without children ends the list
abbrev pub paragraph_step : Working → Result Working Cause
paragraph_step w = after (insert_paragraph_step w) (λ broken. ended_at broken.item broken.draft)

-- What a command does that takes no payload. The history goes nowhere among steps.
abbrev pub plain_step : BuiltIn → Working → Result Working Cause
plain_step (Turn turn) w = Err HistoryInside
plain_step (Caret RemoveText) w = remove_text_step w
plain_step (Caret InsertParagraph) w = paragraph_step w
plain_step (Caret InsertLineBreak) w = insert_line_break_step w
plain_step (Caret InsertTab) w = insert_tab_step w
plain_step (Caret SelectAll) w = select_all_step w
plain_step (list RemoveList) w = remove_list_step w
plain_step (list Indent) w = indent_step w
plain_step (list Outdent) w = outdent_step w
plain_step (list ToggleChecked) w = toggle_checked_step w
plain_step (Table DeleteRow) w = delete_row_step w
plain_step (Table DeleteColumn) w = delete_column_step w
plain_step (Table MergeCells) w = merge_cells_step w
plain_step (Table Unmerge) w = unmerge_step w
plain_step other w = Err BadCommand

-- what a command does with what is sent
unfoldable pub command_step : BuiltIn → Payload → Working → Result Working Cause
command_step (Caret InsertText) sent w = with_sent (text_sent sent) insert_text_step w
command_step (Caret DeleteCharacter) sent w = with_sent (word_sent ways sent) delete_character_step w
command_step (Caret DeleteWord) sent w = with_sent (word_sent ways sent) delete_word_step w
command_step (Caret FormatText) sent w = with_sent (word_sent formats sent) format_text_step w
command_step (Caret Paste) sent w = with_sent (text_sent sent) paste_step w
command_step (list MakeList) sent w = with_sent (word_sent list_type_words sent) make_list_step w
command_step (Table InsertTable) sent w = with_size insert_table_step sent w
command_step (Table InsertRow) sent w = with_sent (word_sent sides sent) insert_row_step w
command_step (Table InsertColumn) sent w = with_sent (word_sent sides sent) insert_column_step w
command_step plain sent w = with_none (plain_step plain) sent w
