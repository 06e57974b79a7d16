-- What it means to remove what is selected from one text to another, to type over it, or to insert a paragraph in its place.
use Rattle.std.specs.Prelude.{ℕ, ◌≡◌, ◌≢◌, ◌+◌, true, false, ◌++◌, ◌⊎◌, Bool, List, [], ◌∷◌, Some, Ok}
use Rattle.lx_node.specs.Kinds.{is_text_block}
use Rattle.lx_node.specs.declared.fields.TextFields.{TextFields}
use Rattle.lx_node.specs.declared.kind.Kind.TheVariants.{Text}
use Rattle.lx_select.specs.declared.selection.Selection.TheVariants.{Range}
use Rattle.lx_text.specs.Texts.{text_length, front_of, rest_of}
use Rattle.lx_forest.specs.Forest.{Forest}
use Rattle.lx_forest.specs.Lookups.{has, label_of, parent_of, children_of}
use Rattle.lx_forest.specs.Suited.{IsSuited}
use Rattle.lx_draft.specs.Working.{Working}
use Rattle.lx_draft.specs.Steps.{text_replaced}
use Rattle.lx_edit.specs.Edits.{text_point}
use Rattle.lx_edit_laws.specs.Reading.{in_place_of}
use Rattle.lx_blocks.specs.Blocks.{is_at}
use Rattle.lx_blocks.specs.Ranges.{normal_at}
use Rattle.lx_caret.specs.Paragraphs.{insert_paragraph_step, draft_left}
use Rattle.lx_caret.specs.Removing.{remove_text_step}
use Rattle.lx_caret.specs.Deleting.{delete_character_step, delete_word_step}
use Rattle.lx_caret.specs.Inserting.{insert_text_step, insert_line_break_step, insert_tab_step}
use Rattle.lx_caret_laws.specs.Breaking.{StartsIn}
use Rattle.lx_caret_laws.specs.Carets.{IsSound, HasCaret}
use Rattle.lx_caret_laws.specs.Reading.{ReadsBetween, StaysAside, read_in, reads_in, place_in}

-- a selection from an offset of one normal text to an offset of another, whichever is its anchor: both texts are children of one node,
-- whose other children come before them, between them and behind them
pub record IsSelectedAcross (parent first last from to format : ℕ) (one other : TextFields) (w : Working) : Type 0 where
  pub sound : IsSound w
  pub before : List ℕ
  pub between : List ℕ
  pub behind : List ℕ
  pub children : children_of w.forest parent ≡ before ++ (first ∷ (between ++ (last ∷ behind)))
  pub first_normal : normal_at w.forest first ≡ Some one
  pub last_normal : normal_at w.forest last ≡ Some other
  pub selects : (w.selection ≡ Range (text_point first from) (text_point last to) format) ⊎
      (w.selection ≡ Range (text_point last to) (text_point first from) format)

-- the text k reads this, and has its other fields
abbrev pub ReadsNow : Forest → ℕ → TextFields → List ℕ → Type 0
ReadsNow f k text now = label_of f k ≡ Some (record { key = k; kind = Text; fields = text_replaced text now })

-- What was selected is gone: the first text keeps what it had before the selection, the last one what it had after it, and the nodes
-- between them are the parent's children no more. In each element around, what is read is without it, and the caret stands there.
pub record IsGoneAcross (parent first last from to format : ℕ) (one other : TextFields) (before behind : List ℕ) (w v : Working) : Type 0 where
  pub first_reads : ReadsNow v.forest first one (front_of from one.text)
  pub last_reads : ReadsNow v.forest last other (rest_of to other.text)
  pub children : children_of v.forest parent ≡ before ++ (first ∷ (last ∷ behind))
  pub around : ReadsBetween (text_point first from) (text_point last to) [] w.forest v.forest
  pub caret : HasCaret first from format v

-- What was selected gave way to what was typed in the first text's format: that text reads it after its front, and the caret stands
-- after it. The last text and the parent's children are as after removing.
pub record IsTypedAcross (typed : List ℕ) (parent first last from to : ℕ) (one other : TextFields) (before behind : List ℕ) (w v : Working)
    : Type 0 where
  pub first_reads : ReadsNow v.forest first one (front_of from one.text ++ typed)
  pub last_reads : ReadsNow v.forest last other (rest_of to other.text)
  pub children : children_of v.forest parent ≡ before ++ (first ∷ (last ∷ behind))
  pub caret : HasCaret first (from + text_length typed) one.format v

-- A block was parted where something in it was selected: the block keeps what was read before the first place, and a new block that
-- comes right after it has what was read after the second. All that holds neither text stays.
pub record IsPartedOver (from to block new first last : ℕ) (w v : Working) : Type 0 where
  pub before : read_in v.forest block ≡ front_of from (read_in w.forest block)
  pub behind : reads_in v.forest (children_of v.forest new) ≡ rest_of to (read_in w.forest block)
  pub fresh : has new w.forest ≡ false
  pub order : (p : ℕ) → parent_of w.forest block ≡ Some p →
      children_of v.forest p ≡ in_place_of block (block ∷ (new ∷ [])) (children_of w.forest p)
  pub aside : StaysAside first last w.forest v.forest

-- what is selected from one text to another goes when it is removed or deleted, and gives way to what is typed or inserted
pub record RangesGiveWay : Type 0 where
  pub removed : (parent first last from to format : ℕ) (one other : TextFields) (w v : Working)
      → (is : IsSelectedAcross parent first last from to format one other w) → remove_text_step w ≡ Ok v
      → IsGoneAcross parent first last from to format one other is.before is.behind w v
  pub deleted : (back : Bool) (parent first last from to format : ℕ) (one other : TextFields) (w v : Working)
      → (is : IsSelectedAcross parent first last from to format one other w)
      → (delete_character_step back w ≡ Ok v) ⊎ (delete_word_step back w ≡ Ok v)
      → IsGoneAcross parent first last from to format one other is.before is.behind w v
  pub typed : (typed : List ℕ) (parent first last from to format : ℕ) (one other : TextFields) (w v : Working)
      → IsSelectedAcross parent first last from to format one other w → typed ≢ [] → insert_text_step typed w ≡ Ok v
      → ReadsBetween (text_point first from) (text_point last to) typed w.forest v.forest
  -- typed in the format of the first text, it goes into that
  pub typed_into : (typed : List ℕ) (parent first last from to : ℕ) (one other : TextFields) (w v : Working)
      → (is : IsSelectedAcross parent first last from to one.format one other w) → insert_text_step typed w ≡ Ok v
      → IsTypedAcross typed parent first last from to one other is.before is.behind w v
  -- a tab is read there as its character, and where a line break comes no character does
  pub tab : (parent first last from to format : ℕ) (one other : TextFields) (w v : Working)
      → IsSelectedAcross parent first last from to format one other w → insert_tab_step w ≡ Ok v
      → ReadsBetween (text_point first from) (text_point last to) (9 ∷ []) w.forest v.forest
  pub line_break : (parent first last from to format : ℕ) (one other : TextFields) (w v : Working)
      → IsSelectedAcross parent first last from to format one other w → insert_line_break_step w ≡ Ok v
      → ReadsBetween (text_point first from) (text_point last to) [] w.forest v.forest
  -- a paragraph that is inserted parts the block that is their parent
  pub parted : (block first last from to format : ℕ) (one other : TextFields) (w v : Working)
      → IsSelectedAcross block first last from to format one other w → is_at is_text_block w.forest block ≡ true
      → draft_left (insert_paragraph_step w) ≡ Ok v
      → (new : ℕ) × IsPartedOver (place_in w.forest block (text_point first from)) (place_in w.forest block (text_point last to))
      block new first last w v
  -- and the caret is at the start of the new block then
  pub started : (block first last from to format : ℕ) (one other : TextFields) (w v : Working)
      → IsSelectedAcross block first last from to format one other w → is_at is_text_block w.forest block ≡ true → IsSuited w.forest
      → draft_left (insert_paragraph_step w) ≡ Ok v
      → (new : ℕ) × IsPartedOver (place_in w.forest block (text_point first from)) (place_in w.forest block (text_point last to))
      block new first last w v × StartsIn new format v
