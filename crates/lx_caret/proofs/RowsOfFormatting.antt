-- Formats set on what is selected, and everything selected, each computed at a small document.
use Rattle.std.specs.Prelude.{codes}
use Rattle.std.proofs.Common.{◌≡◌, refl}
use Rattle.lx_trees.specs.Trees.{nil}
use Rattle.lx_select.specs.declared.selection.Selection.TheVariants.{Range, Nothing}
use Rattle.lx_forest.specs.Forest.{Forest}
use Rattle.lx_draft.specs.Working.{started}
use Rattle.lx_edit.specs.Edits.{text_point}
use Rattle.lx_caret.specs.Formatting.{format_text_step}
use Rattle.lx_caret.specs.SelectAll.{select_all_step}
use Rattle.lx_caret.proofs.Computing.{commands}
use Rattle.lx_caret.proofs.Rows.{shown, seen, document, paragraph, text, text_of_format, line, lines, caret_inside, between}

-- ---- formats

-- the part of a text that is selected becomes bold, and so does the selection
bold_part :
    shown (format_text_step 1 (started (line (codes "abc")) (between 2 1 2 2) 3))
    ≡ seen (document (paragraph 1 (text 2 (codes "a") (text_of_format 3 1 (codes "b") (text 4 (codes "c") nil))) nil) nil)
    (Range (text_point 2 1) (text_point 3 1) 1)
unfolding commands
bold_part = refl

abbrev bold_and_plain : Forest
bold_and_plain = document (paragraph 1 (text_of_format 2 1 (codes "ab") nil) (paragraph 3 (text 4 (codes "cd") nil) nil)) nil

-- where the first of the selected parts is bold, none is any more
bold_cleared :
    shown (format_text_step 1 (started bold_and_plain (between 2 1 4 1) 5))
    ≡ seen (document (paragraph 1 (text_of_format 2 1 (codes "a") (text 5 (codes "b") nil)) (paragraph 3 (text 4 (codes "c") (text 6 (codes "d") nil)) nil))
    nil)
    (between 2 1 4 1)
unfolding commands
bold_cleared = refl

-- superscript excludes subscript
raised :
    shown (format_text_step 64 (started (document (paragraph 1 (text_of_format 2 33 (codes "ab") nil) nil) nil) (between 2 0 2 2) 3))
    ≡ seen (document (paragraph 1 (text_of_format 2 65 (codes "ab") nil) nil) nil) (Range (text_point 2 0) (text_point 2 2) 65)
unfolding commands
raised = refl

-- ---- everything

-- from the first character to after the last
all_selected :
    shown (select_all_step (started (lines (codes "ab") (codes "cd")) (caret_inside 0 1) 5))
    ≡ seen (lines (codes "ab") (codes "cd")) (between 2 0 4 2)
unfolding commands
all_selected = refl

-- of a document without text, and where nothing was selected
none_selected :
    shown (select_all_step (started (document (paragraph 1 nil nil) nil) Nothing 2))
    ≡ seen (document (paragraph 1 nil nil) nil) (caret_inside 1 0)
unfolding commands
none_selected = refl
