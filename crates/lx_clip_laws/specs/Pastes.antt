-- What is copied stands pasted: in the end the nodes of a slice have the trees that were covered.
use Rattle.std.specs.Prelude.{ℕ, ◌≡◌, true, List, Ok}
use Rattle.lx_node.specs.Kinds.{may_hold}
use Rattle.lx_node.specs.declared.cause.Point.{Point}
use Rattle.lx_forest.specs.Forest.{Forest}
use Rattle.lx_forest.specs.Lookups.{has, trees_of, IsHeld}
use Rattle.lx_draft.specs.Working.{Working, TextsAreShort}
use Rattle.lx_draft.specs.Covering.{IsReady}
use Rattle.lx_json.specs.Back.{pieces_of}
use Rattle.lx_json.specs.Nodes.{Made}
use Rattle.lx_caret.specs.Lying.{EachPoint}
use Rattle.lx_caret.specs.Removing.{remove_text_step}
use Rattle.lx_clip.specs.Copies.{IsCopy}
use Rattle.lx_clip.specs.Slices.{slice_data}
use Rattle.lx_clip.specs.Pasting.{nodes_added, block_opened, put_beyond, insert_step, json_of, paste_step}
use Rattle.lx_clip_laws.specs.Copies.{slice_read}

-- a slice of a copy, which a draft read
pub record IsCopied (c : Forest) (w : Working) (made : Made) : Type 0 where
  pub copy : IsCopy c
  pub ready : IsReady w
  pub read : slice_read c w ≡ Ok made

-- A slice of these trees was read and put in. In the end the nodes that were made for it have the trees, but for their keys.
pub record IsInserted (c : Forest) (w v : Working) : Type 0 where
  pub made : Made
  pub read : slice_read c w ≡ Ok made
  pub same : pieces_of (trees_of v.forest made.keys) ≡ pieces_of c

-- the same after what was selected was removed
pub record IsPasted (c : Forest) (w v : Working) : Type 0 where
  pub removed : Working
  pub first : remove_text_step w ≡ Ok removed
  pub inserted : IsInserted c removed v

-- after nodes of a slice were put in, they have the trees that were covered, but for their keys
pub record CopiesArePasted : Type 0 where
  -- at a point of a node that was there before
  pub inlines : (c : Forest) (w : Working) (made : Made) (p : Point) (v : Working) → IsCopied c w made → has p.key w.forest ≡ true
      → nodes_added p made.keys made.draft ≡ Ok v
      → pieces_of (trees_of v.forest made.keys) ≡ pieces_of c
  -- between the parts of a block that is parted at a point, where the block and the point's node were there before
  pub around : (c : Forest) (w : Working) (made : Made) (block : ℕ) (p : Point) (v : Working) → IsCopied c w made → has block w.forest ≡ true
      → has p.key w.forest ≡ true → block_opened block p made.keys made.draft ≡ Ok v
      → pieces_of (trees_of v.forest made.keys) ≡ pieces_of c
  -- after a node
  pub beyond : (c : Forest) (w : Working) (made : Made) (outer : ℕ) (v : Working) → IsCopied c w made → put_beyond outer made.keys made.draft ≡ Ok v
      → pieces_of (trees_of v.forest made.keys) ≡ pieces_of c
  -- whichever way the step goes, where the points of a range are at nodes that were there before
  pub inserted : (c : Forest) (w v : Working) → IsCopy c → IsReady w → EachPoint (λ p. has p.key w.forest ≡ true) w.selection
      → insert_step (slice_data c) w ≡ Ok v → IsInserted c w v
  -- from a text that is the JSON of the slice, in place of what is selected
  pub pasted : (c : Forest) (text : List ℕ) (w v : Working) → IsCopy c → json_of text ≡ Ok (slice_data c) → IsReady w → IsHeld may_hold w.forest
      → TextsAreShort w → paste_step text w ≡ Ok v → IsPasted c w v
