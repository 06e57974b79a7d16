-- What it means to remove what is selected from one text to another, or to type over it, wherever the two are: in one block, in two
-- blocks, or in blocks of which one is in the other.
use Rattle.std.specs.Prelude.{ℕ, ◌≡◌, ◌≢◌, ◌+◌, ◌++◌, ◌⊎◌, Bool, true, false, List, [], ◌∷◌, None, Some, Ok}
use Rattle.std.specs.declared.cmp.Ordering.TheVariants.{Less}
use Rattle.lx_node.specs.Kinds.{is_inline, is_text_block}
use Rattle.lx_node.specs.declared.fields.TextFields.{TextFields}
use Rattle.lx_select.specs.declared.selection.Selection.TheVariants.{Range}
use Rattle.lx_text.specs.Texts.{text_length, is_offset, front_of, rest_of}
use Rattle.lx_trees.specs.Siblings.{is_among}
use Rattle.lx_forest.specs.Lookups.{has, is_attached, is_within, order_of, parent_of, children_of}
use Rattle.lx_forest.specs.Suited.{IsSuited}
use Rattle.lx_draft.specs.Working.{Working}
use Rattle.lx_edit.specs.Edits.{text_point}
use Rattle.lx_blocks.specs.Blocks.{block_of, is_at}
use Rattle.lx_blocks.specs.Places.{covered}
use Rattle.lx_blocks.specs.Ranges.{normal_at}
use Rattle.lx_caret.specs.Paragraphs.{insert_paragraph_step, draft_left}
use Rattle.lx_caret.specs.Removing.{remove_text_step}
use Rattle.lx_caret.specs.Deleting.{delete_character_step, delete_word_step}
use Rattle.lx_caret.specs.Inserting.{insert_text_step, insert_line_break_step, insert_tab_step}
use Rattle.lx_caret_laws.specs.Carets.{IsSound, HasCaret}
use Rattle.lx_caret_laws.specs.Ranges.{ReadsNow}
use Rattle.lx_caret_laws.specs.Reading.{ReadsBetween, StaysAside, read_in, reads_in, place_in}

-- A selection from an offset of one normal text to an offset of another that comes after it in the document, whichever is its anchor.
-- Each node has fields of its kind, as in every draft, so that only texts and tabs say something.
pub record IsSelectedOver (first last from to format : ℕ) (one other : TextFields) (w : Working) : Type 0 where
  pub sound : IsSound w
  pub suited : IsSuited w.forest
  pub first_normal : normal_at w.forest first ≡ Some one
  pub last_normal : normal_at w.forest last ≡ Some other
  pub order : order_of w.forest first last ≡ Some Less
  pub selects : (w.selection ≡ Range (text_point first from) (text_point last to) format) ⊎
      (w.selection ≡ Range (text_point last to) (text_point first from) format)

-- What was selected is gone: the first text keeps what it had before the selection, the last one what it had after it. In each element
-- that holds both, what is read is without it; all that holds neither stays; and the caret is after what the first text keeps.
pub record IsGoneOver (first last from to format : ℕ) (one other : TextFields) (w v : Working) : Type 0 where
  pub first_reads : ReadsNow v.forest first one (front_of from one.text)
  pub last_reads : ReadsNow v.forest last other (rest_of to other.text)
  pub around : ReadsBetween (text_point first from) (text_point last to) [] w.forest v.forest
  pub caret : HasCaret first from format v
  -- each node that lay wholly between, such as a text, a rule or a whole block, is in the document no more ..
  pub goes : (q : ℕ) → is_among q (covered w.forest (text_point first from) (text_point last to)) ≡ true → is_attached v.forest q ≡ false
  -- .. and each other node still is: for those that hold the last text, such as its block, that isn't said but of the text itself
  pub stays : (q : ℕ) → is_attached w.forest q ≡ true → is_among q (covered w.forest (text_point first from) (text_point last to)) ≡ false
      → is_within w.forest q last ≡ false → is_attached v.forest q ≡ true
  pub last_stays : is_attached v.forest last ≡ true

-- The first block reads what it had before the one point, and then some of what the last block had after the other: its first inline
-- children came over. The last block reads the rest of that, if there is any.
pub record Share (a b first last from to : ℕ) (w v : Working) : Type 0 where
  pub moved : List ℕ
  pub first_reads : read_in v.forest a ≡ front_of (place_in w.forest a (text_point first from)) (read_in w.forest a) ++ moved
  pub last_reads : rest_of (place_in w.forest b (text_point last to)) (read_in w.forest b) ≡ moved ++ read_in v.forest b

-- the blocks of two texts, neither of which is in the other, where the last block has nothing but inline children
pub record AreToJoin (a b first last : ℕ) (w : Working) : Type 0 where
  pub first_block : block_of w.forest first ≡ Some a
  pub last_block : block_of w.forest last ≡ Some b
  pub outside : is_within w.forest a b ≡ false
  pub apart : is_within w.forest b a ≡ false
  pub inline : (c : ℕ) → parent_of w.forest c ≡ Some b → is_at is_inline w.forest c ≡ true

-- The first block reads what it had before the one point, and then what the last had after the other. The caret is at that place of
-- it, and the last block is gone.
pub record AreJoined (a b first last from to : ℕ) (w v : Working) : Type 0 where
  pub reads : read_in v.forest a ≡ front_of (place_in w.forest a (text_point first from)) (read_in w.forest a)
      ++ rest_of (place_in w.forest b (text_point last to)) (read_in w.forest b)
  pub inside : is_offset (place_in w.forest a (text_point first from)) (read_in w.forest a) ≡ true
  pub place : place_in v.forest a (text_point first from) ≡ place_in w.forest a (text_point first from)
  pub gone : parent_of v.forest b ≡ None

-- The block a, in which a selection begins, was parted: it keeps what it had before the one point, and a new block has what the block b,
-- in which the selection ends, had after the other. All that holds neither text stays.
pub record ArePartedOver (a b new first last from to : ℕ) (w v : Working) : Type 0 where
  pub before : read_in v.forest a ≡ front_of (place_in w.forest a (text_point first from)) (read_in w.forest a)
  pub behind : reads_in v.forest (children_of v.forest new) ≡ rest_of (place_in w.forest b (text_point last to)) (read_in w.forest b)
  pub fresh : has new w.forest ≡ false
  pub aside : StaysAside first last w.forest v.forest

-- each node that holds the first text alone reads its front, and each that holds the last alone its rest
pub record KeepEnds (first last from to : ℕ) (w v : Working) : Type 0 where
  pub front : (q : ℕ) → is_within w.forest q first ≡ true → is_within w.forest q last ≡ false
      → read_in v.forest q ≡ front_of (place_in w.forest q (text_point first from)) (read_in w.forest q)
  pub rest : (q : ℕ) → is_within w.forest q last ≡ true → is_within w.forest q first ≡ false
      → read_in v.forest q ≡ rest_of (place_in w.forest q (text_point last to)) (read_in w.forest q)

-- a command removed what was selected: to remove it, or to delete a character or a word while something is selected
abbrev pub Removes : Bool → Working → Working → Type 0
Removes back w v = (remove_text_step w ≡ Ok v) ⊎ ((delete_character_step back w ≡ Ok v) ⊎ (delete_word_step back w ≡ Ok v))

-- What was selected gave way to what was typed in the first text's format: that text reads it after its front, the last text keeps its
-- rest, and the caret stands after what was typed.
pub record IsTypedOverSpan (typed : List ℕ) (first last from to : ℕ) (one other : TextFields) (w v : Working) : Type 0 where
  pub first_reads : ReadsNow v.forest first one (front_of from one.text ++ typed)
  pub last_reads : ReadsNow v.forest last other (rest_of to other.text)
  pub caret : HasCaret first (from + text_length typed) one.format v

-- what is selected from one text to another goes when it is removed or deleted, and gives way to what is typed or inserted
pub record SpansGiveWay : Type 0 where
  pub removed : (back : Bool) (first last from to format : ℕ) (one other : TextFields) (w v : Working)
      → IsSelectedOver first last from to format one other w → Removes back w v → IsGoneOver first last from to format one other w v
  -- where neither of the two blocks is in the other, they share what is left
  pub shared : (back : Bool) (a b first last from to format : ℕ) (one other : TextFields) (w v : Working)
      → IsSelectedOver first last from to format one other w → block_of w.forest first ≡ Some a → block_of w.forest last ≡ Some b
      → is_within w.forest a b ≡ false → is_within w.forest b a ≡ false → Removes back w v → Share a b first last from to w v
  -- a last block that has inline children alone is joined to the first
  pub joined : (back : Bool) (a b first last from to format : ℕ) (one other : TextFields) (w v : Working)
      → IsSelectedOver first last from to format one other w → AreToJoin a b first last w → Removes back w v
      → AreJoined a b first last from to w v
  -- and where one of the two blocks is in the other, or is the other, nothing is joined
  pub nested : (back : Bool) (a b first last from to format : ℕ) (one other : TextFields) (w v : Working)
      → IsSelectedOver first last from to format one other w → block_of w.forest first ≡ Some a → block_of w.forest last ≡ Some b
      → (is_within w.forest a b ≡ true) ⊎ (is_within w.forest b a ≡ true) → Removes back w v → KeepEnds first last from to w v
  pub typed : (typed : List ℕ) (first last from to format : ℕ) (one other : TextFields) (w v : Working)
      → IsSelectedOver first last from to format one other w → typed ≢ [] → insert_text_step typed w ≡ Ok v
      → ReadsBetween (text_point first from) (text_point last to) typed w.forest v.forest
  -- typed in the format of the first text, it goes into that
  pub typed_into : (typed : List ℕ) (first last from to : ℕ) (one other : TextFields) (w v : Working)
      → IsSelectedOver first last from to one.format one other w → insert_text_step typed w ≡ Ok v
      → IsTypedOverSpan typed first last from to one other w v
  -- a tab is read there as its character, and where a line break comes no character does
  pub tab : (first last from to format : ℕ) (one other : TextFields) (w v : Working)
      → IsSelectedOver first last from to format one other w → insert_tab_step w ≡ Ok v
      → ReadsBetween (text_point first from) (text_point last to) (9 ∷ []) w.forest v.forest
  pub line_break : (first last from to format : ℕ) (one other : TextFields) (w v : Working)
      → IsSelectedOver first last from to format one other w → insert_line_break_step w ≡ Ok v
      → ReadsBetween (text_point first from) (text_point last to) [] w.forest v.forest
  -- a paragraph that is inserted parts the block right above the first text, whether that holds the last text too ..
  pub parted : (block first last from to format : ℕ) (one other : TextFields) (w v : Working)
      → IsSelectedOver first last from to format one other w → parent_of w.forest first ≡ Some block
      → is_at is_text_block w.forest block ≡ true → is_within w.forest block last ≡ true → draft_left (insert_paragraph_step w) ≡ Ok v
      → (new : ℕ) × ArePartedOver block block new first last from to w v
  -- .. or the last text's block is joined to it
  pub parted_across : (a b first last from to format : ℕ) (one other : TextFields) (w v : Working)
      → IsSelectedOver first last from to format one other w → parent_of w.forest first ≡ Some a → AreToJoin a b first last w
      → draft_left (insert_paragraph_step w) ≡ Ok v
      → (new : ℕ) × ArePartedOver a b new first last from to w v
