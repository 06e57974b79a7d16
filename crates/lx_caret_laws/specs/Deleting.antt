-- What it means to delete in a text.
use Rattle.std.specs.Prelude.{ℕ, ◌≡◌, ◌≢◌, ◌<◌, ◌++◌, ◌⊎◌, Bool, true, false, List, [], Some, Ok}
use Rattle.lx_node.specs.declared.fields.TextFields.{TextFields}
use Rattle.lx_text.specs.Texts.{text_length, front_of, rest_of, slice_of}
use Rattle.lx_text.specs.Clusters.{cluster_before, cluster_after, word_before, word_after}
use Rattle.lx_draft.specs.Working.{Working}
use Rattle.lx_blocks.specs.Blocks.{block_of}
use Rattle.lx_blocks.specs.Ranges.{normal_at}
use Rattle.lx_caret.specs.Removing.{remove_text_step}
use Rattle.lx_node.specs.declared.cause.Point.{Point}
use Rattle.lx_select.specs.declared.selection.Selection.TheVariants.{Range}
use Rattle.lx_caret.specs.Deleting.{has_more, leaf_beside, delete_character_step, delete_word_step}
use Rattle.lx_edit.specs.Edits.{text_point}
use Rattle.lx_caret_laws.specs.Reading.{ReadsBetween}
use Rattle.lx_caret_laws.specs.Carets.{IsSound, Selects, HasCaret, OnlyReads}

-- exactly what a text had between two offsets is gone: it reads what was before it and what was after it, and nothing else
-- changed; so in each element around, what is read is without it
pub record IsOut (k from to : ℕ) (text : List ℕ) (w v : Working) : Type 0 where
  pub parted : front_of from text ++ slice_of from to text ++ rest_of to text ≡ text
  pub length : text_length (front_of from text) ≡ from
  pub read : OnlyReads k (front_of from text ++ rest_of to text) w.forest v.forest
  pub around : ReadsBetween (text_point k from) (text_point k to) [] w.forest v.forest

-- and the caret stands between
pub record IsGone (k from to format : ℕ) (text : List ℕ) (w v : Working) : Type 0 where
  pub out : IsOut k from to text w v
  pub caret : HasCaret k from format v

-- something is selected in a normal text
pub record IsSelectedIn (k from to format : ℕ) (text : TextFields) (w : Working) : Type 0 where
  pub sound : IsSound w
  pub normal : normal_at w.forest k ≡ Some text
  pub some : from < to
  pub selects : Selects k from to format w

-- a caret in a normal text
pub record IsCaretIn (k at format : ℕ) (text : TextFields) (w : Working) : Type 0 where
  pub sound : IsSound w
  pub normal : normal_at w.forest k ≡ Some text
  pub caret : HasCaret k at format w

-- a caret on any node in a block, with nothing on one side of it in its own text; the nearest leaf of the block on that side is a
-- normal text with characters
pub record IsBesideText (back : Bool) (leaf : ℕ) (text : TextFields) (p : Point) (format : ℕ) (w : Working) : Type 0 where
  pub sound : IsSound w
  pub caret : w.selection ≡ Range p p format
  pub block : ℕ
  pub within : block_of w.forest p.key ≡ Some block
  pub at_edge : has_more back w.forest p p.kind ≡ false
  pub beside : leaf_beside back w.forest block p ≡ Some leaf
  pub normal : normal_at w.forest leaf ≡ Some text
  pub some : text.text ≢ []

-- what is selected in a text is removed, and a cluster or word beside the caret is deleted, exactly
pub record DeletingIsExact : Type 0 where
  -- what is selected in a normal text, whether it is removed or deleted
  pub removed : (k from to format : ℕ) (text : TextFields) (w v : Working) → IsSelectedIn k from to format text w → remove_text_step w ≡ Ok v →
      IsGone k from to format text.text w v
  pub selection_deleted : (back : Bool) (k from to format : ℕ) (text : TextFields) (w v : Working) → IsSelectedIn k from to format text w →
      (delete_character_step back w ≡ Ok v) ⊎ (delete_word_step back w ≡ Ok v) → IsGone k from to format text.text w v
  -- the cluster before the caret, where there are characters before it in the text, and the one after it, where there are some
  pub character_back : (k at format : ℕ) (text : TextFields) (w v : Working) → IsCaretIn k at format text w → 0 < at →
      delete_character_step true w ≡ Ok v → IsGone k (cluster_before text.text at) at format text.text w v
  pub character_on : (k at format : ℕ) (text : TextFields) (w v : Working) → IsCaretIn k at format text w → at < text_length text.text →
      delete_character_step false w ≡ Ok v → IsGone k at (cluster_after text.text at) format text.text w v
  -- the word before the caret, and the one after it
  pub word_back : (k at format : ℕ) (text : TextFields) (w v : Working) → IsCaretIn k at format text w → 0 < at →
      delete_word_step true w ≡ Ok v → IsGone k (word_before text.text at) at format text.text w v
  pub word_on : (k at format : ℕ) (text : TextFields) (w v : Working) → IsCaretIn k at format text w → at < text_length text.text →
      delete_word_step false w ≡ Ok v → IsGone k at (word_after text.text at) format text.text w v
  -- at an edge of the caret's own node: the last cluster or word of the text before it, or the first one of the text after it
  pub last_character : (leaf : ℕ) (text : TextFields) (p : Point) (format : ℕ) (w v : Working) → IsBesideText true leaf text p format w →
      delete_character_step true w ≡ Ok v → IsOut leaf (cluster_before text.text (text_length text.text)) (text_length text.text) text.text w v
  pub first_character : (leaf : ℕ) (text : TextFields) (p : Point) (format : ℕ) (w v : Working) → IsBesideText false leaf text p format w →
      delete_character_step false w ≡ Ok v → IsOut leaf 0 (cluster_after text.text 0) text.text w v
  pub last_word : (leaf : ℕ) (text : TextFields) (p : Point) (format : ℕ) (w v : Working) → IsBesideText true leaf text p format w →
      delete_word_step true w ≡ Ok v → IsOut leaf (word_before text.text (text_length text.text)) (text_length text.text) text.text w v
  pub first_word : (leaf : ℕ) (text : TextFields) (p : Point) (format : ℕ) (w v : Working) → IsBesideText false leaf text p format w →
      delete_word_step false w ≡ Ok v → IsOut leaf 0 (word_after text.text 0) text.text w v
