-- What it means to split a text.
use Rattle.std.specs.Prelude.{ℕ, ◌≡◌, ◌≢◌, ◌≤◌, true, map, length, List, [], ◌∷◌, Some, Ok}
use Rattle.lx_trees.specs.Siblings.{is_among}
use Rattle.lx_node.specs.Kinds.{may_hold}
use Rattle.lx_node.specs.declared.kind.Kind.TheVariants.{Text}
use Rattle.lx_node.specs.declared.fields.TextFields.{TextFields}
use Rattle.lx_node.specs.Limits.{last_u32}
use Rattle.lx_text.specs.Texts.{slice_of, text_length}
use Rattle.lx_forest.specs.Lookups.{has, spot, label_of, parent_of, children_of, IsHeld}
use Rattle.lx_draft.specs.Working.{Working}
use Rattle.lx_draft.specs.Covering.{IsReady}
use Rattle.lx_draft.specs.Faults.{text_in}
use Rattle.lx_draft.specs.Selecting.{length_told}
use Rattle.lx_draft.specs.Steps.{text_replaced}
use Rattle.lx_edit.specs.Texts.{split_step, keys_from}
use Rattle.lx_edit_laws.specs.Reading.{text_at, texts_of, read_below, in_place_of, PlacesAreKept}

-- a text cut at offsets, from one on: what comes up to each, and the rest
abbrev pub cut_from : ℕ → List ℕ → List ℕ → List (List ℕ)
cut_from start [] text = slice_of start (length_told text) text ∷ []
cut_from start (o ∷ rest) text = slice_of start o text ∷ cut_from o rest text

-- a text of the draft w was split at offsets, and these are its pieces in the draft v: itself, and the new texts
pub record IsSplit (k : ℕ) (offsets pieces : List ℕ) (w v : Working) : Type 0 where
  pub ready : IsReady w
  pub split : split_step k offsets w ≡ Ok v
  pub pieces_are : pieces ≡ k ∷ keys_from w.next_key (length offsets)
  -- offsets are numbers of a u32, and so can say every place of a text that is no longer
  pub fits : text_length (text_at w.forest k) ≤ last_u32

-- what a split leaves: pieces that have the old text, in its place and like it, all other nodes as they were, points at
-- their places, and the same to be read
pub record SplitsAreTold : Type 0 where
  -- the pieces are the old text cut at the offsets, in order ..
  pub pieces : (k : ℕ) (offsets pieces : List ℕ) (w v : Working) → IsSplit k offsets pieces w v →
      map (text_at v.forest) pieces ≡ cut_from 0 offsets (text_at w.forest k)
  -- .. and one after another they are the old text
  pub whole : (k : ℕ) (offsets pieces : List ℕ) (w v : Working) → IsSplit k offsets pieces w v →
      texts_of v.forest pieces ≡ text_at w.forest k
  -- they are in its place
  pub order : (k : ℕ) (offsets pieces : List ℕ) (w v : Working) (p : ℕ) → IsSplit k offsets pieces w v → parent_of w.forest k ≡ Some p →
      children_of v.forest p ≡ in_place_of k pieces (children_of w.forest p)
  -- each is as the old text was, but for the characters
  pub alike : (k : ℕ) (offsets pieces : List ℕ) (w v : Working) (q : ℕ) (text : TextFields) → IsSplit k offsets pieces w v → is_among q pieces ≡ true →
      text_in (label_of w.forest k) ≡ Some text →
      label_of v.forest q ≡ Some (record { key = q; kind = Text; fields = text_replaced text (text_at v.forest q) })
  -- every node that the edit isn't about stays where it was, as it was
  pub others : (k : ℕ) (offsets pieces : List ℕ) (w v : Working) (q : ℕ) → IsSplit k offsets pieces w v → has q w.forest ≡ true →
      q ≢ k → parent_of w.forest k ≢ Some q → spot v.forest q ≡ spot w.forest q
  -- each point in the text keeps its place in it
  pub points : (k : ℕ) (offsets pieces : List ℕ) (w v : Working) → IsSplit k offsets pieces w v → PlacesAreKept (k ∷ []) pieces w v
  -- and below any other node the same is read, where each node holds what it may, so that a text has nothing below it
  pub read : (k : ℕ) (offsets pieces : List ℕ) (w v : Working) (b : ℕ) → IsSplit k offsets pieces w v → IsHeld may_hold w.forest → has b w.forest ≡ true
      → b ≢ k →
      read_below v.forest b ≡ read_below w.forest b
