-- What it means to type at a caret.
use Rattle.std.specs.Prelude.{ℕ, ◌≡◌, ◌≢◌, ◌+◌, ◌++◌, true, is_some, List, [], ◌∷◌, Some, Ok}
use Rattle.lx_node.specs.declared.fields.TextFields.{TextFields}
use Rattle.lx_text.specs.Texts.{text_length, front_of, rest_of}
use Rattle.lx_draft.specs.Working.{Working}
use Rattle.lx_blocks.specs.Ranges.{normal_at}
use Rattle.lx_node.specs.declared.cause.Point.{Point}
use Rattle.lx_select.specs.declared.selection.Selection.TheVariants.{Range}
use Rattle.lx_caret.specs.Adding.{is_inside}
use Rattle.lx_caret.specs.Inserting.{insert_text_step, insert_line_break_step, insert_tab_step}
use Rattle.lx_edit.specs.Edits.{text_point}
use Rattle.lx_caret_laws.specs.Deleting.{IsSelectedIn}
use Rattle.lx_caret_laws.specs.Reading.{ReadsBetween}
use Rattle.lx_caret_laws.specs.Carets.{IsSound, HasCaret, OnlyReads}

-- this was typed in the draft w, at a caret in a normal text of the caret's format, which left the draft v
pub record IsTyped (typed : List ℕ) (k at : ℕ) (text : TextFields) (w v : Working) : Type 0 where
  pub sound : IsSound w
  pub normal : normal_at w.forest k ≡ Some text
  pub caret : HasCaret k at text.format w
  pub done : insert_text_step typed w ≡ Ok v

-- what a text had between two offsets gave way to what was typed, after which the caret stands, and nothing else changed
pub record IsTypedOver (typed : List ℕ) (k from to format : ℕ) (text : List ℕ) (w v : Working) : Type 0 where
  pub read : OnlyReads k (front_of from text ++ typed ++ rest_of to text) w.forest v.forest
  pub around : ReadsBetween (text_point k from) (text_point k to) typed w.forest v.forest
  pub caret : HasCaret k (from + text_length typed) format v

-- the caret of a draft is at a point on any node, but not strictly inside a tab, or a text that isn't normal, which typing never
-- cuts
pub record IsCaretAt (p : Point) (format : ℕ) (w : Working) : Type 0 where
  pub sound : IsSound w
  pub caret : w.selection ≡ Range p p format
  pub open_there : is_inside w.forest p p.kind ≡ true → is_some (normal_at w.forest p.key) ≡ true

-- what is typed is read at the caret, which stands after it then, and nothing else changes
pub record TypingIsRead : Type 0 where
  -- the text falls into what is before the caret and what is after it ..
  pub parted : (typed : List ℕ) (k at : ℕ) (text : TextFields) (w v : Working) → IsTyped typed k at text w v →
      (front_of at text.text ++ rest_of at text.text ≡ text.text) × (text_length (front_of at text.text) ≡ at)
  -- .. between which it reads what is typed, and nothing else changes
  pub read : (typed : List ℕ) (k at : ℕ) (text : TextFields) (w v : Working) → IsTyped typed k at text w v →
      OnlyReads k (front_of at text.text ++ typed ++ rest_of at text.text) w.forest v.forest
  -- so in each element around it is read between what was read before the caret and what was read after it
  pub around : (typed : List ℕ) (k at : ℕ) (text : TextFields) (w v : Working) → IsTyped typed k at text w v →
      ReadsBetween (text_point k at) (text_point k at) typed w.forest v.forest
  -- what is selected in a normal text of the selection's format gives way to what is typed
  pub over : (typed : List ℕ) (k from to : ℕ) (text : TextFields) (w v : Working) → IsSelectedIn k from to text.format text w →
      insert_text_step typed w ≡ Ok v → IsTypedOver typed k from to text.format text.text w v
  -- what is typed at a caret is read there wherever one types: in the text, in a new one beside it or between its parts, or in an element
  pub anywhere : (typed : List ℕ) (p : Point) (format : ℕ) (w v : Working) → IsCaretAt p format w → typed ≢ [] → insert_text_step typed w ≡ Ok v →
      ReadsBetween p p typed w.forest v.forest
  -- a tab is read there as its character, and around a line break the same is read as before
  pub tab : (p : Point) (format : ℕ) (w v : Working) → IsCaretAt p format w → insert_tab_step w ≡ Ok v → ReadsBetween p p (9 ∷ []) w.forest v.forest
  pub line_break : (p : Point) (format : ℕ) (w v : Working) → IsCaretAt p format w → insert_line_break_step w ≡ Ok v →
      ReadsBetween p p [] w.forest v.forest
  -- the caret in a text stands after what is typed
  pub caret : (typed : List ℕ) (k at : ℕ) (text : TextFields) (w v : Working) → IsTyped typed k at text w v →
      HasCaret k (at + text_length typed) text.format v
