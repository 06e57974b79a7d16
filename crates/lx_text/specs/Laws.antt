-- The laws of lengths, offsets and pieces: most hold whatever it is that offsets count, and the last that they count UTF-16.
use Rattle.std.specs.Prelude.{ℕ, ◌+◌, ◌≤◌, ◌≡◌, ◌++◌, true, false, List, [], ◌∷◌, None, length}
use Rattle.std.specs.List.{flat_map}
use Rattle.std.specs.Char.Escape.{encode_utf16}
use Rattle.lx_node.specs.Limits.{last_u32}
use Rattle.lx_text.specs.Texts.{text_length, front_of, rest_of, within, is_offset, length_told, slice_of, spliced_text, slice_fault}

-- how lengths, offsets and pieces go together, whatever offsets count; and that they count UTF-16
pub record TextsAreTold : Type 0 where
  -- lengths add up
  pub length_none : text_length [] ≡ 0
  pub length_joined : (front back : List ℕ) → text_length (front ++ back) ≡ text_length front + text_length back
  -- both ends are offsets, and none is past the end
  pub offset_start : (text : List ℕ) → is_offset 0 text ≡ true
  pub offset_end : (text : List ℕ) → is_offset (text_length text) text ≡ true
  pub offset_within : (offset : ℕ) (text : List ℕ) → is_offset offset text ≡ true → offset ≤ text_length text
  -- of two texts, one after the other, the offsets of both are those of each
  pub offset_front : (offset : ℕ) (front back : List ℕ) → is_offset offset front ≡ true → is_offset offset (front ++ back) ≡ true
  pub offset_behind : (offset : ℕ) (front back : List ℕ) → is_offset (text_length front + offset) (front ++ back) ≡ is_offset offset back
  -- between them the one ends and the other begins
  pub front_joined : (front back : List ℕ) → front_of (text_length front) (front ++ back) ≡ front
  pub rest_joined : (front back : List ℕ) → rest_of (text_length front) (front ++ back) ≡ back
  -- the last place at an offset or before it
  pub within_is : (offset : ℕ) (text : List ℕ) → is_offset (within text offset) text ≡ true
  pub within_below : (offset : ℕ) (text : List ℕ) → within text offset ≤ offset
  pub within_last : (offset place : ℕ) (text : List ℕ) → is_offset place text ≡ true → place ≤ offset → place ≤ within text offset
  pub told : (text : List ℕ) → text_length text ≤ last_u32 → length_told text ≡ text_length text
  -- a text falls into pieces at offsets
  pub slice_whole : (text : List ℕ) → slice_of 0 (text_length text) text ≡ text
  pub slice_length : (from to : ℕ) (text : List ℕ) → slice_fault text from to ≡ None → text_length (slice_of from to text) + from ≡ to
  pub slice_parts : (from to : ℕ) (text : List ℕ) → slice_fault text from to ≡ None →
      slice_of 0 from text ++ slice_of from to text ++ slice_of to (text_length text) text ≡ text
  -- a splice changes the piece between its offsets alone
  pub splice_parts : (from to : ℕ) (new text : List ℕ) → slice_fault text from to ≡ None →
      spliced_text from to new text ≡ slice_of 0 from text ++ new ++ slice_of to (text_length text) text
  pub splice_length : (from to : ℕ) (new text : List ℕ) → slice_fault text from to ≡ None →
      text_length (spliced_text from to new text) + to ≡ text_length text + text_length new + from
  -- a text is as long as its UTF-16, and no place is inside a pair
  pub length_utf16 : (text : List ℕ) → text_length text ≡ length (flat_map encode_utf16 text)
  pub offset_pair : (c : ℕ) (text : List ℕ) → 65536 ≤ c → is_offset 1 (c ∷ text) ≡ false
