-- Commands that are built in, by their names.
use Rattle.std.specs.Prelude.{ℕ, List, [], ◌∷◌, chars, codes, if◌then◌else◌, Option, None, Some, option_map}
use Rattle.std.specs.Option.{option_or}
use Rattle.lx_node.specs.Same.{same_text}
use Rattle.lx_step.specs.declared.built_in.BuiltIn.{BuiltIn}
use Rattle.lx_step.specs.declared.built_in.BuiltIn.TheVariants.{Turn as turn, Caret as caret, List as list, Table as table}
use Rattle.lx_step.specs.declared.built_in.CaretCommand.{CaretCommand}
use Rattle.lx_step.specs.declared.built_in.CaretCommand.TheVariants.{InsertText, RemoveText, InsertParagraph, InsertLineBreak, InsertTab, DeleteCharacter, DeleteWord, FormatText, SelectAll, Paste}
use Rattle.lx_step.specs.declared.built_in.ListCommand.{ListCommand}
use Rattle.lx_step.specs.declared.built_in.ListCommand.TheVariants.{MakeList, RemoveList, Indent, Outdent, ToggleChecked}
use Rattle.lx_step.specs.declared.built_in.TableCommand.{TableCommand}
use Rattle.lx_step.specs.declared.built_in.TableCommand.TheVariants.{InsertTable, InsertRow, InsertColumn, DeleteRow, DeleteColumn, MergeCells, Unmerge}
use Rattle.lx_step.specs.declared.built_in.Turn.{Turn}
use Rattle.lx_step.specs.declared.built_in.Turn.TheVariants.{Undo, Redo}

-- what a table of names says of a name
abbrev pub row_of : {A : Type 0} → List (List ℕ × A) → List ℕ → Option A
row_of [] name = None
row_of (row ∷ rows) name = if same_text row.0 name then Some row.1 else row_of rows name

-- the commands of the history
abbrev pub turns : List (List ℕ × Turn)
turns = (chars (codes "undo"), Undo) ∷ (chars (codes "redo"), Redo) ∷ []

-- the commands of the caret
abbrev pub caret_commands : List (List ℕ × CaretCommand)
caret_commands =
    (chars (codes "insert-text"), InsertText)
    ∷ (chars (codes "remove-text"), RemoveText)
    ∷ (chars (codes "insert-paragraph"), InsertParagraph)
    ∷ (chars (codes "insert-line-break"), InsertLineBreak)
    ∷ (chars (codes "insert-tab"), InsertTab)
    ∷ (chars (codes "delete-character"), DeleteCharacter)
    ∷ (chars (codes "delete-word"), DeleteWord)
    ∷ (chars (codes "format-text"), FormatText)
    ∷ (chars (codes "select-all"), SelectAll)
    ∷ (chars (codes "cut"), RemoveText)
    ∷ (chars (codes "paste"), Paste)
    ∷ []

-- the commands of lists
abbrev pub list_commands : List (List ℕ × ListCommand)
list_commands =
    (chars (codes "make-list"), MakeList)
    ∷ (chars (codes "remove-list"), RemoveList)
    ∷ (chars (codes "indent"), Indent)
    ∷ (chars (codes "outdent"), Outdent)
    ∷ (chars (codes "toggle-checked"), ToggleChecked)
    ∷ []

-- the commands of tables
abbrev pub table_commands : List (List ℕ × TableCommand)
table_commands =
    (chars (codes "insert-table"), InsertTable)
    ∷ (chars (codes "insert-row"), InsertRow)
    ∷ (chars (codes "insert-column"), InsertColumn)
    ∷ (chars (codes "delete-row"), DeleteRow)
    ∷ (chars (codes "delete-column"), DeleteColumn)
    ∷ (chars (codes "merge-cells"), MergeCells)
    ∷ (chars (codes "unmerge"), Unmerge)
    ∷ []

-- the command of a name
abbrev pub built_in : List ℕ → Option BuiltIn
built_in name =
    option_or (option_map turn (row_of turns name))
    (option_or (option_map caret (row_of caret_commands name))
    (option_or (option_map list (row_of list_commands name)) (option_map table (row_of table_commands name))))
