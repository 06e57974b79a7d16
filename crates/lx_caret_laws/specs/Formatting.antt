-- What it means to format.
use Rattle.std.specs.Prelude.{ℕ, ◌≡◌, ◌≢◌, true, false, map, List, Some, Ok}
use Rattle.lx_trees.specs.Siblings.{is_among}
use Rattle.lx_forest.specs.Forest.{Forest}
use Rattle.lx_forest.specs.Lookups.{has, label_of, parent_of, children_of}
use Rattle.lx_draft.specs.Working.{Working}
use Rattle.lx_blocks.specs.declared.ranges.Ranged.{Ranged}
use Rattle.lx_blocks.specs.Ranges.{range_of, start_of, end_of}
use Rattle.lx_caret.specs.Formatting.{pieces, format_text_step}
use Rattle.lx_caret_laws.specs.Carets.{IsSound}
use Rattle.lx_caret_laws.specs.Reading.{ReadsTheSame}

-- the texts and tabs in which a range covers some character
abbrev pub covered_texts : Forest → Ranged → List ℕ
covered_texts f r = map (λ p. p.key) (pieces f (start_of f r) (end_of f r))

-- a node is none of these, nor the parent of one
pub record IsApartFrom (ks : List ℕ) (f : Forest) (q : ℕ) : Type 0 where
  pub other : is_among q ks ≡ false
  pub above : (k : ℕ) → is_among k ks ≡ true → parent_of f k ≢ Some q

-- formatting changes no character, whatever is selected, and no node but the covered texts and what they are below
pub record FormattingKeepsText : Type 0 where
  -- the same is read everywhere
  pub read : (bit : ℕ) (w v : Working) → IsSound w → format_text_step bit w ≡ Ok v → ReadsTheSame w.forest v.forest
  -- each node but the covered texts and their parents has its label and its children still
  pub others : (bit : ℕ) (r : Ranged) (w v : Working) (q : ℕ) → IsSound w → range_of w ≡ Ok r → format_text_step bit w ≡ Ok v →
      has q w.forest ≡ true → IsApartFrom (covered_texts w.forest r) w.forest q →
      (label_of v.forest q ≡ label_of w.forest q) × (children_of v.forest q ≡ children_of w.forest q)
