-- An element says nothing itself, where the fields of each node are of its kind.
use Rattle.lx_blocks.specs.Blocks.{is_at, passes}
use Rattle.lx_caret_laws.proofs.Silent.{silent_at}
use Rattle.lx_caret_laws.specs.Reading.{said}
use Rattle.lx_forest.specs.Forest.{Forest}
use Rattle.lx_forest.specs.Lookups.{kind_of}
use Rattle.lx_forest.specs.Suited.{IsSuited}
use Rattle.lx_node.specs.Kinds.{has_characters, is_element, is_text_block}
use Rattle.lx_node.specs.declared.kind.Kind.TheVariants as kinds
use Rattle.lx_node.specs.declared.kind.Kind.{Kind}
use Rattle.std.proofs.Common.{None, Option, Some, [], ap, false, refl, sym, true, ℕ, ◌∙◌, ◌≡◌}

element_plain : (kind : Kind) → is_element kind ≡ true → has_characters kind ≡ false
unfolding is_element has_characters
element_plain kinds.Text e = absurd (cc)
element_plain kinds.Tab e = absurd (cc)
element_plain kind e = refl

pub silent_element : (f : Forest) (k : ℕ) → IsSuited f → is_at is_element f k ≡ true → said f k ≡ []
silent_element f k suited e = silent_at f k suited (λ kind is. element_plain kind (sym (ap (passes is_element) is) ∙ e))

block_element : (kind : Kind) → is_text_block kind ≡ true → is_element kind ≡ true
unfolding is_text_block is_element
block_element kinds.Paragraph e = refl
block_element (kinds.Heading level) e = refl
block_element kinds.Quote e = refl
block_element kinds.Item e = refl
block_element kind e = absurd (cc)

pub element_of_block : (o : Option Kind) → passes is_text_block o ≡ true → passes is_element o ≡ true
element_of_block None e = absurd (cc)
element_of_block (Some kind) e = block_element kind e

pub silent_block : (f : Forest) (k : ℕ) → IsSuited f → is_at is_text_block f k ≡ true → said f k ≡ []
silent_block f k suited e = silent_element f k suited (element_of_block (kind_of f k) e)
