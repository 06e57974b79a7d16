-- Commands that remove and delete, each computed at a small document.
use Rattle.std.specs.Prelude.{ℕ, codes, true, false, [], ◌∷◌, None, Ok}
use Rattle.std.proofs.Common.{◌≡◌, refl}
use Rattle.lx_trees.specs.Trees.{nil}
use Rattle.lx_node.specs.Plain.{element_with, text_with}
use Rattle.lx_node.specs.declared.kind.Kind.TheVariants.{List as ListKind, Item, Table, Row, Cell, Text, Break, Rule}
use Rattle.lx_node.specs.declared.kind.ListType.TheVariants.{Bullet}
use Rattle.lx_node.specs.declared.fields.Fields.TheVariants as fields
use Rattle.lx_node.specs.declared.fields.Extra.TheVariants as extra
use Rattle.lx_node.specs.declared.fields.Mode.TheVariants.{Token}
use Rattle.lx_forest.specs.Forest.{Forest}
use Rattle.lx_draft.specs.Working.{Working, started}
use Rattle.lx_caret.specs.Removing.{remove_text_step}
use Rattle.lx_caret.specs.Deleting.{delete_character_step}
use Rattle.lx_caret.proofs.Computing.{commands}
use Rattle.lx_caret.proofs.Rows.{shown, seen, document, paragraph, text, node, element, line, lines, caret, caret_inside, between}

-- ---- ranges

-- what is left of two paragraphs joins
two_cut :
    shown (remove_text_step (started (lines (codes "ab") (codes "cd")) (between 2 1 4 1) 5))
    ≡ seen (document (paragraph 1 (text 2 (codes "a") (text 4 (codes "d") nil)) nil) (paragraph 3 nil nil)) (caret 2 1)
unfolding commands
two_cut = refl

-- from either end: the texts of a range are emptied, and the caret is at its start
both_ways :
    shown (remove_text_step (started (lines (codes "a") (codes "b")) (between 4 1 2 0) 5))
    ≡ seen (document (paragraph 1 (text 2 [] (text 4 [] nil)) nil) (paragraph 3 nil nil)) (caret 2 0)
unfolding commands
both_ways = refl

abbrev three : Forest
three = document (paragraph 1 (text 2 (codes "ab") nil) (paragraph 3 (text 4 (codes "cd") nil) (paragraph 5 (text 6 (codes "ef") nil) nil))) nil

-- a paragraph between goes whole
middle_gone :
    shown (remove_text_step (started three (between 2 1 6 1) 7))
    ≡ seen (document (paragraph 1 (text 2 (codes "a") (text 6 (codes "f") nil)) nil)
    (paragraph 3 (text 4 (codes "cd") nil) (paragraph 5 nil nil))) (caret 2 1)
unfolding commands
middle_gone = refl

abbrev token : Forest → Forest
token rest = node 2 Text (fields.Text (record (text_with (codes "ab") 0) { mode = Token })) nil rest

-- a token goes whole with a part of it
token_gone :
    shown (remove_text_step (started (document (paragraph 1 (token nil) nil) nil) (between 2 0 2 1) 3))
    ≡ seen (document (paragraph 1 nil nil) (token nil)) (caret_inside 1 0)
unfolding commands
token_gone = refl

-- ---- characters and words

-- a family of three, joined
abbrev family : Forest
family = line (97 ∷ 128104 ∷ 8205 ∷ 128105 ∷ 8205 ∷ 128103 ∷ [])

abbrev with_break : Forest
with_break = document (paragraph 1 (text 2 (codes "a") (node 3 Break fields.Bare nil (text 4 (codes "b") nil))) nil) nil

-- a line break is deleted as a character is
break_gone :
    shown (delete_character_step true (started with_break (caret 4 0) 5))
    ≡ seen (document (paragraph 1 (text 2 (codes "a") (text 4 (codes "b") nil)) nil) (node 3 Break fields.Bare nil nil)) (caret 4 0)
unfolding commands
break_gone = refl

-- ---- lines

abbrev joined : Forest
joined = document (paragraph 1 (text 2 (codes "a") (text 4 (codes "b") nil)) nil) (paragraph 3 nil nil)

-- forward from the end of a paragraph, the next one's text joins it
joined_on : shown (delete_character_step false (started (lines (codes "a") (codes "b")) (caret 2 1) 5)) ≡ seen joined (caret 2 1)
unfolding commands
joined_on = refl

abbrev cell : ℕ → Forest → Forest → Forest
cell k below rest = node k Cell (fields.Element (element_with (extra.Cell 0 1 1 None))) below rest

abbrev table : Forest
table = element 3 Table (element 4 Row (cell 5 (paragraph 6 (text 7 (codes "b") nil) nil) nil) nil) nil

abbrev tabled : Forest
tabled = document (paragraph 1 (text 2 (codes "a") nil) table) nil

abbrev before_table : Working
before_table = started tabled (caret 2 1) 8

-- nothing joins before a table
stopped_before : delete_character_step false before_table ≡ Ok before_table
unfolding commands
stopped_before = refl

abbrev items : Forest → Forest
items inner = document (element 1 (ListKind Bullet) inner nil) nil

abbrev sublist : Forest
sublist = element 6 (ListKind Bullet) (element 7 Item (text 8 (codes "c") nil) nil) nil

-- an item joins the one before, but for its list
item_joined :
    shown (delete_character_step true
    (started (items (element 2 Item (text 3 (codes "a") nil) (element 4 Item (text 5 (codes "b") sublist) nil))) (caret 5 0) 9))
    ≡ seen (items (element 2 Item (text 3 (codes "a") (text 5 (codes "b") nil)) (element 4 Item sublist nil))) (caret 5 0)
unfolding commands
item_joined = refl

abbrev ruled : Forest
ruled = document (paragraph 1 (text 2 (codes "a") nil) (node 3 Rule fields.Bare nil (paragraph 4 (text 5 (codes "b") nil) nil))) nil

-- a rule before a line goes
rule_gone :
    shown (delete_character_step true (started ruled (caret 5 0) 6))
    ≡ seen (document (paragraph 1 (text 2 (codes "a") nil) (paragraph 4 (text 5 (codes "b") nil) nil)) (node 3 Rule fields.Bare nil nil)) (caret 5 0)
unfolding commands
rule_gone = refl
