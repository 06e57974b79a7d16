-- Where the caret is once something was added at it.
use Rattle.std.specs.Prelude.{ℕ, ◌+◌, ◌≡◌, ◌≢◌, true, false, List, [], ◌∷◌, Some, Ok}
use Rattle.lx_node.specs.Kinds.{is_element}
use Rattle.lx_node.specs.declared.cause.Point.{Point}
use Rattle.lx_node.specs.declared.fields.TextFields.{TextFields}
use Rattle.lx_node.specs.declared.kind.Kind.TheVariants.{Break}
use Rattle.lx_select.specs.declared.selection.Selection.TheVariants.{Range}
use Rattle.lx_text.specs.Texts.{text_length}
use Rattle.lx_forest.specs.Lookups.{has, is_within, kind_of, parent_of, index_of}
use Rattle.lx_draft.specs.Working.{Working}
use Rattle.lx_edit.specs.Edits.{element_point}
use Rattle.lx_blocks.specs.Blocks.{is_at}
use Rattle.lx_blocks.specs.Ranges.{normal_at}
use Rattle.lx_caret.specs.Inserting.{insert_text_step, insert_line_break_step, insert_tab_step}
use Rattle.lx_caret_laws.specs.Reading.{place_in}
use Rattle.lx_caret_laws.specs.Typing.{IsCaretAt}

-- The caret, which was at the point p of the draft w, is at the point q of the draft v, right after these new characters: in each
-- element around p, such as its block or the root, as much is read before q as was before p, and they.
pub record IsRightAfter (new : List ℕ) (p q : Point) (format : ℕ) (w v : Working) : Type 0 where
  pub caret : v.selection ≡ Range q q format
  pub inside : (b : ℕ) → is_at is_element w.forest b ≡ true → is_within w.forest b p.key ≡ true → is_within v.forest b q.key ≡ true
  pub place : (b : ℕ) → is_at is_element w.forest b ≡ true → is_within w.forest b p.key ≡ true →
      place_in v.forest b q ≡ place_in w.forest b p + text_length new

-- and in a normal text of the selection's format, into which one types on
pub record TypesOn (new : List ℕ) (p : Point) (format : ℕ) (w v : Working) : Type 0 where
  pub point : Point
  pub after : IsRightAfter new p point format w v
  pub text : TextFields
  pub normal : normal_at v.forest point.key ≡ Some text
  pub alike : text.format ≡ format

-- and in an element, right after a new line break
pub record IsAfterBreak (p : Point) (format : ℕ) (w v : Working) : Type 0 where
  pub node : ℕ
  pub parent : ℕ
  pub index : ℕ
  pub fresh : has node w.forest ≡ false
  pub kind : kind_of v.forest node ≡ Some Break
  pub up : parent_of v.forest node ≡ Some parent
  pub at : index_of v.forest node ≡ Some index
  pub after : IsRightAfter [] p (element_point parent (index + 1)) format w v

-- the caret is right after what one adds at it
pub record CaretFollows : Type 0 where
  -- after what is typed, in a text into which one types on
  pub typing : (typed : List ℕ) (p : Point) (format : ℕ) (w v : Working) → IsCaretAt p format w → typed ≢ [] → insert_text_step typed w ≡ Ok v →
      TypesOn typed p format w v
  -- after a tab's character
  pub tab : (p : Point) (format : ℕ) (w v : Working) → IsCaretAt p format w → insert_tab_step w ≡ Ok v →
      (q : Point) × IsRightAfter (9 ∷ []) p q format w v
  -- after a line break, around which the same is read
  pub line_break : (p : Point) (format : ℕ) (w v : Working) → IsCaretAt p format w → insert_line_break_step w ≡ Ok v → IsAfterBreak p format w v
