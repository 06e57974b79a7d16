-- Commands that insert, each computed at a small document.
use Rattle.std.specs.Prelude.{ℕ, codes, Bool, true, false, List, [], ◌∷◌, Option, None, Some, Result, Ok, Err}
use Rattle.std.proofs.Common.{◌≡◌, refl}
use Rattle.lx_trees.specs.Trees.{nil, tree}
use Rattle.lx_node.specs.Plain.{plain_element, element_with, text_with}
use Rattle.lx_node.specs.declared.cause.Cause.{Cause}
use Rattle.lx_node.specs.declared.cause.Cause.TheVariants.{WrongKind}
use Rattle.lx_node.specs.declared.kind.Kind.{Kind}
use Rattle.lx_node.specs.declared.kind.Kind.TheVariants.{Root, Heading, Quote, List as ListKind, Item, Link, Text, Tab, Break}
use Rattle.lx_node.specs.declared.kind.ListType.TheVariants.{Check}
use Rattle.lx_node.specs.declared.fields.Fields.{Fields}
use Rattle.lx_node.specs.declared.fields.Fields.TheVariants as fields
use Rattle.lx_node.specs.declared.fields.Extra.TheVariants as extra
use Rattle.lx_select.specs.declared.selection.Selection.{Selection}
use Rattle.lx_select.specs.declared.selection.Selection.TheVariants.{Range}
use Rattle.lx_forest.specs.Forest.{Forest, root_label, paragraph_label, text_label}
use Rattle.lx_draft.specs.Working.{Working, started}
use Rattle.lx_edit.specs.Edits.{text_point, element_point}
use Rattle.lx_caret.specs.Inserting.{insert_text_step, insert_line_break_step, insert_tab_step}
use Rattle.lx_caret.specs.Paragraphs.{insert_paragraph_step, draft_left}
use Rattle.lx_caret.proofs.Computing.{commands}

-- ---- documents and selections

-- what a reader sees of a draft
pub record Shown : Type 0 where
  pub forest : Forest
  pub selection : Selection

abbrev pub seen : Forest → Selection → Option Shown
seen f selection = Some (record { forest = f; selection = selection })

abbrev pub shown : Result Working Cause → Option Shown
shown (Ok w) = seen w.forest w.selection
shown (Err cause) = None

-- blocks below the root, and trees that were taken out
abbrev pub document : Forest → Forest → Forest
document blocks taken = tree root_label blocks taken

abbrev pub paragraph : ℕ → Forest → Forest → Forest
paragraph k below rest = tree (paragraph_label k) below rest

abbrev pub text : ℕ → List ℕ → Forest → Forest
text k characters rest = tree (text_label k characters) nil rest

abbrev pub node : ℕ → Kind → Fields → Forest → Forest → Forest
node k kind fields below rest = tree (record { key = k; kind = kind; fields = fields }) below rest

abbrev pub element : ℕ → Kind → Forest → Forest → Forest
element k kind below rest = node k kind plain_element below rest

abbrev pub text_of_format : ℕ → ℕ → List ℕ → Forest → Forest
text_of_format k format characters rest = node k Text (fields.Text (record (text_with characters 0) { format = format })) nil rest

-- one paragraph with one text
abbrev pub line : List ℕ → Forest
line characters = document (paragraph 1 (text 2 characters nil) nil) nil

-- two of them
abbrev pub lines : List ℕ → List ℕ → Forest
lines first second = document (paragraph 1 (text 2 first nil) (paragraph 3 (text 4 second nil) nil)) nil

-- a caret in a text, in a format, and in an element
abbrev pub caret : ℕ → ℕ → Selection
caret k offset = Range (text_point k offset) (text_point k offset) 0

abbrev pub caret_in : ℕ → ℕ → ℕ → Selection
caret_in format k offset = Range (text_point k offset) (text_point k offset) format

abbrev pub caret_inside : ℕ → ℕ → Selection
caret_inside k offset = Range (element_point k offset) (element_point k offset) 0

-- from one place in texts to another
abbrev pub between : ℕ → ℕ → ℕ → ℕ → Selection
between k from other to = Range (text_point k from) (text_point other to) 0

-- ---- text

-- the first text of an empty paragraph
typed_first :
    shown (insert_text_step (codes "a") (started (document (paragraph 1 nil nil) nil) (caret_inside 1 0) 2))
    ≡ seen (line (codes "a")) (caret 2 1)
unfolding commands
typed_first = refl

-- in another format it gets a text of its own, which cuts that of the caret in two
typed_bold :
    shown (insert_text_step (codes "b") (started (line (codes "ac")) (caret_in 1 2 1) 3))
    ≡ seen (document (paragraph 1 (text 2 (codes "a") (text_of_format 4 1 (codes "b") (text 3 (codes "c") nil))) nil) nil) (caret_in 1 4 1)
unfolding commands
typed_bold = refl

-- text in the place of what is selected
typed_over :
    shown (insert_text_step (codes "xyz") (started (line (codes "abcd")) (between 2 3 2 1) 3)) ≡ seen (line (codes "axyzd")) (caret 2 4)
unfolding commands
typed_over = refl

-- ... and right below the root
no_room : insert_text_step (codes "a") (started (line []) (caret_inside 0 1) 3) ≡ Err (WrongKind Root)
unfolding commands
no_room = refl

-- ---- line breaks and tabs

-- a line break within a text, and the caret after it
broken_text :
    shown (insert_line_break_step (started (line (codes "ab")) (caret 2 1) 3))
    ≡ seen (document (paragraph 1 (text 2 (codes "a") (node 4 Break fields.Bare nil (text 3 (codes "b") nil))) nil) nil) (caret_inside 1 2)
unfolding commands
broken_text = refl

abbrev tab : ℕ → ℕ → Forest → Forest
tab k format rest = node k Tab (fields.Text (record (text_with (9 ∷ []) 2) { format = format })) nil rest

-- a tab has the format of the selection
bold_tab :
    shown (insert_tab_step (started (line (codes "a")) (caret_in 1 2 1) 3))
    ≡ seen (document (paragraph 1 (text 2 (codes "a") (tab 3 1 nil)) nil) nil) (caret_in 1 3 1)
unfolding commands
bold_tab = refl

-- ---- paragraphs

-- after a heading cut at its end comes a paragraph
heading_ended :
    shown (draft_left (insert_paragraph_step (started (document (element 1 (Heading 2) (text 2 (codes "ab") nil) nil) nil) (caret 2 2) 3)))
    ≡ seen (document (element 1 (Heading 2) (text 2 (codes "ab") nil) (paragraph 3 nil nil)) nil) (caret_inside 3 0)
unfolding commands
heading_ended = refl

-- after one cut within, another heading with the rest
heading_cut :
    shown (draft_left (insert_paragraph_step (started (document (element 1 (Heading 2) (text 2 (codes "ab") nil) nil) nil) (caret 2 1) 3)))
    ≡ seen (document (element 1 (Heading 2) (text 2 (codes "a") nil) (element 4 (Heading 2) (text 3 (codes "b") nil) nil)) nil) (caret 3 0)
unfolding commands
heading_cut = refl

-- the text of a quote goes on in a paragraph
quote_ended :
    shown (draft_left (insert_paragraph_step (started (document (element 1 Quote (text 2 (codes "ab") nil) nil) nil) (caret 2 1) 3)))
    ≡ seen (document (element 1 Quote (text 2 (codes "a") nil) (paragraph 4 (text 3 (codes "b") nil) nil)) nil) (caret 3 0)
unfolding commands
quote_ended = refl

abbrev list : Forest
list = element 3 (ListKind Check) (element 4 Item nil nil) nil

-- a list goes on in another quote
quote_cut :
    shown (draft_left (insert_paragraph_step (started (document (element 1 Quote (text 2 (codes "a") list) nil) nil) (caret 2 1) 5)))
    ≡ seen (document (element 1 Quote (text 2 (codes "a") nil) (element 5 Quote list nil)) nil) (caret_inside 5 0)
unfolding commands
quote_cut = refl

abbrev link : ℕ → Forest → Forest → Forest
link k below rest = node k Link (fields.Element (element_with (extra.Link None None None (codes "u")))) below rest

-- a link is cut with its paragraph
link_cut :
    shown (draft_left (insert_paragraph_step (started (document (paragraph 1 (link 2 (text 3 (codes "ab") nil) nil) nil) nil) (caret 3 1) 4)))
    ≡ seen (document (paragraph 1 (link 2 (text 3 (codes "a") nil) nil) (paragraph 6 (link 5 (text 4 (codes "b") nil) nil) nil)) nil) (caret_inside 6 0)
unfolding commands
link_cut = refl

abbrev checklist : Forest → Forest
checklist items = document (node 1 (ListKind Check) (fields.Element (element_with (extra.List 1))) items nil) nil

abbrev item : ℕ → ℕ → Bool → Forest → Forest → Forest
item k value checked below rest = node k Item (fields.Element (element_with (extra.Item value (Some checked)))) below rest

-- after a checked item comes one that isn't
item_ended :
    shown (draft_left (insert_paragraph_step (started (checklist (item 2 7 true (text 3 (codes "a") nil) nil)) (caret 3 1) 4)))
    ≡ seen (checklist (item 2 7 true (text 3 (codes "a") nil) (item 4 1 false nil nil))) (caret_inside 4 0)
unfolding commands
item_ended = refl

abbrev emptied : Working
emptied = started (checklist (item 2 1 false nil nil)) (caret_inside 2 0) 3

-- an empty item is left to its list
item_left : insert_paragraph_step emptied ≡ Ok (record { draft = emptied; item = Some 2 })
unfolding commands
item_left = refl

-- with no block around the caret, an empty paragraph
paragraph_alone :
    shown (draft_left (insert_paragraph_step (started (document nil nil) (caret_inside 0 0) 1)))
    ≡ seen (document (paragraph 1 nil nil) nil) (caret_inside 1 0)
unfolding commands
paragraph_alone = refl
