-- A text in the root's tree is in a block, since only a text block or a link holds it, and only a text block holds a link.
use Rattle.lx_blocks.specs.Blocks.{block_of, is_at, passes}
use Rattle.lx_edit_laws.proofs.Reading.{kind_known}
use Rattle.lx_forest.proofs.Lookups.{has-parent_of}
use Rattle.lx_forest.proofs.Walks.{ancestors-step, is_attached-top, is_attached-up}
use Rattle.lx_forest.specs.Forest.{Forest}
use Rattle.lx_forest.specs.Lookups.{IsForest, IsHeld, ancestors, holds, is_attached, kind_of, parent_of}
use Rattle.lx_node.specs.Kinds.{is_block, is_cell, is_inline, is_item, is_link, is_row, is_text_block, may_hold}
use Rattle.lx_node.specs.declared.kind.Kind.TheVariants as kinds
use Rattle.lx_node.specs.declared.kind.Kind.{Kind}
use Rattle.std.proofs.Common.{None, Option, Some, ap, ap₂, cond, false, inl, inr, refl, sym, true, ℕ, ◌∙◌, ◌∷◌, ◌≡◌, ◌≢◌, ◌⊎◌}
use Rattle.std.specs.Prelude.{find}

-- what holds a text is a text block or a link
holds_text : (outer : Kind) → may_hold outer kinds.Text ≡ true → (is_text_block outer ≡ true) ⊎ (outer ≡ kinds.Link)
unfolding may_hold is_text_block is_block is_item is_row is_cell
holds_text kinds.Paragraph e = inl refl
holds_text (kinds.Heading level) e = inl refl
holds_text kinds.Quote e = inl refl
holds_text kinds.Item e = inl refl
holds_text kinds.Link e = inr refl
holds_text outer e = absurd (cc)

-- what holds a link is a text block
holds_link : (outer : Kind) → may_hold outer kinds.Link ≡ true → is_text_block outer ≡ true
unfolding may_hold is_text_block is_block is_item is_row is_cell is_inline is_link
holds_link kinds.Paragraph e = refl
holds_link (kinds.Heading level) e = refl
holds_link kinds.Quote e = refl
holds_link kinds.Item e = refl
holds_link outer e = absurd (cc)

-- what is in the root's tree and isn't the root is below a node there
record IsBelowOne (f : Forest) (k : ℕ) : Type 0 where
  parent : ℕ
  up : parent_of f k ≡ Some parent
  attached : is_attached f parent ≡ true
  kind : Kind
  kind_is : kind_of f parent ≡ Some kind

below_one : (f : Forest) (k : ℕ) (inner : Kind) → IsForest f → is_attached f k ≡ true → kind_of f k ≡ Some inner → inner ≢ kinds.Root → IsBelowOne f k
below_one f k inner h place is other = by_parent (parent_of f k) refl where
  by_parent : (o : Option ℕ) → parent_of f k ≡ o → IsBelowOne f k
  by_parent None top =
      let apart : k ≢ 0 = λ e. other (let g : Some inner ≡ Some kinds.Root = sym is ∙ ap (kind_of f) e ∙ h.root in cc) in
      absurd (let bad : false ≡ true = sym (is_attached-top f k h top apart) ∙ place in cc)
  by_parent (Some p) up =
      let kind = kind_known f p (has-parent_of f k p up) in
      record { parent = p; up = up; attached = sym (is_attached-up f k p h up) ∙ place; kind = kind.0; kind_is = kind.1 }

held_by : (f : Forest) (k : ℕ) (inner : Kind) → IsHeld may_hold f → kind_of f k ≡ Some inner → (b : IsBelowOne f k) → may_hold b.kind inner ≡ true
held_by f k inner held is b = sym (ap₂ (holds may_hold) b.kind_is is) ∙ held.each k b.parent b.up

-- a node that is no text block has the block of what it is below
pub block_up : (f : Forest) (k p : ℕ) → IsForest f → parent_of f k ≡ Some p → is_at is_text_block f k ≡ false → block_of f k ≡ block_of f p
block_up f k p h up no_block =
    ap (λ ks. find (is_at is_text_block f) (k ∷ ks)) (ancestors-step f k p h up)
    ∙ ap (λ t. cond t (Some k) (find (is_at is_text_block f) (p ∷ ancestors f p))) no_block

block_self : (f : Forest) (p : ℕ) → is_at is_text_block f p ≡ true → block_of f p ≡ Some p
block_self f p kind = ap (λ t. cond t (Some p) (find (is_at is_text_block f) (ancestors f p))) kind

no_text_block : (f : Forest) (k : ℕ) (kind : Kind) → kind_of f k ≡ Some kind → is_text_block kind ≡ false → is_at is_text_block f k ≡ false
no_text_block f k kind is e = ap (passes is_text_block) is ∙ e

text_no_block : is_text_block kinds.Text ≡ false
unfolding is_text_block
text_no_block = refl

link_no_block : is_text_block kinds.Link ≡ false
unfolding is_text_block
link_no_block = refl

pub text_in_block : (f : Forest) (k : ℕ) → IsForest f → IsHeld may_hold f → is_attached f k ≡ true → kind_of f k ≡ Some kinds.Text
    → (block : ℕ) × (block_of f k ≡ Some block)
text_in_block f k h held place text =
    let one = below_one f k kinds.Text h place text (λ e. cc) in
    let up = block_up f k one.parent h one.up (no_text_block f k kinds.Text text text_no_block) in
    elim (holds_text one.kind (held_by f k kinds.Text held text one)) [
      | inl block ↦ (one.parent, up ∙ block_self f one.parent (ap (passes is_text_block) one.kind_is ∙ block))
      | inr link ↦
          let is : kind_of f one.parent ≡ Some kinds.Link = one.kind_is ∙ ap (λ x. Some x) link in
          let two = below_one f one.parent kinds.Link h one.attached is (λ e. cc) in
          let block : is_text_block two.kind ≡ true = holds_link two.kind (held_by f one.parent kinds.Link held is two) in (
            two.parent,
            up ∙ block_up f one.parent two.parent h two.up (no_text_block f one.parent kinds.Link is link_no_block)
                ∙ block_self f two.parent (ap (passes is_text_block) two.kind_is ∙ block),
          )
    ]
