-- What it means to insert a paragraph.
use Rattle.std.specs.Prelude.{ℕ, ◌≡◌, true, false, [], ◌∷◌, Some, Ok}
use Rattle.lx_node.specs.Kinds.{is_text_block}
use Rattle.lx_node.specs.declared.cause.Point.{Point}
use Rattle.lx_select.specs.declared.selection.Selection.TheVariants.{Range}
use Rattle.lx_text.specs.Texts.{is_offset, front_of, rest_of}
use Rattle.lx_forest.specs.Lookups.{has, is_within, parent_of, children_of}
use Rattle.lx_forest.specs.Suited.{IsSuited}
use Rattle.lx_draft.specs.Working.{Working}
use Rattle.lx_edit.specs.Edits.{text_point}
use Rattle.lx_edit_laws.specs.Reading.{in_place_of}
use Rattle.lx_blocks.specs.Blocks.{is_at}
use Rattle.lx_caret.specs.Paragraphs.{insert_paragraph_step, draft_left}
use Rattle.lx_caret_laws.specs.Carets.{IsSound, HasCaret}
use Rattle.lx_caret_laws.specs.Reading.{StaysAside, read_in, reads_in, place_in}

-- a paragraph was inserted in the draft w, which left the draft v; the caret was on a text or tab right below its block, which is
-- a paragraph, heading, quote or item
pub record IsBroken (block k at format : ℕ) (w v : Working) : Type 0 where
  pub sound : IsSound w
  pub up : parent_of w.forest k ≡ Some block
  pub kind : is_at is_text_block w.forest block ≡ true
  pub caret : HasCaret k at format w
  pub done : draft_left (insert_paragraph_step w) ≡ Ok v

-- a block was parted at a place of what is read in it: the block keeps what was read before the place, and a new block that comes
-- right after it has what was read after the place; all that the node of the caret isn't below stays
pub record IsPartedAt (place block new k : ℕ) (w v : Working) : Type 0 where
  pub inside : is_offset place (read_in w.forest block) ≡ true
  pub before : read_in v.forest block ≡ front_of place (read_in w.forest block)
  pub behind : reads_in v.forest (children_of v.forest new) ≡ rest_of place (read_in w.forest block)
  pub fresh : has new w.forest ≡ false
  pub order : (p : ℕ) → parent_of w.forest block ≡ Some p →
      children_of v.forest p ≡ in_place_of block (block ∷ new ∷ []) (children_of w.forest p)
  pub aside : StaysAside k k w.forest v.forest

-- the caret, of this format, is at the start of a node: it is in the node, and nothing of the node is read before it
pub record StartsIn (k format : ℕ) (w : Working) : Type 0 where
  pub point : Point
  pub caret : w.selection ≡ Range point point format
  pub inside : is_within w.forest k point.key ≡ true
  pub place : place_in w.forest k point ≡ 0

-- a paragraph that is inserted parts what is read in the block of the caret at the caret
pub record BreakingPartsText : Type 0 where
  pub parted : (block k at format : ℕ) (w v : Working) → IsBroken block k at format w v →
      (new : ℕ) × IsPartedAt (place_in w.forest block (text_point k at)) block new k w v
  -- the caret is at the start of the new block then, where the fields of each node are of its kind, as they always are
  pub started : (block k at format : ℕ) (w v : Working) → IsBroken block k at format w v → IsSuited w.forest →
      (new : ℕ) × IsPartedAt (place_in w.forest block (text_point k at)) block new k w v × StartsIn new format v
