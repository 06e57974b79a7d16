-- What a parent is, and what has no children.
use Rattle.std.proofs.Common.{◌≡◌, ◌≢◌, ◌∙◌, ℕ, true, false, List, [], ◌∷◌, Option, None, Some, refl, sym, ap, ap₂, arith, inl, inr}
use Rattle.std.specs.Prelude.{option_map}
use Rattle.std.proofs.lemmas.Bool.Decides.{eqb_tells}
use Rattle.lx_trees.specs.Siblings.{is_among, is_named}
use Rattle.lx_trees.specs.Spots.{Spot}
use Rattle.lx_node.specs.Kinds.{may_hold, is_element, is_text, has_characters}
use Rattle.lx_node.specs.declared.kind.Kind.{Kind}
use Rattle.lx_node.specs.declared.kind.Kind.TheVariants as kinds
use Rattle.lx_node.specs.declared.cause.PointKind.TheVariants as point
use Rattle.lx_trees.proofs.Siblings.{is_named_tells}
use Rattle.lx_forest.specs.Forest.{Forest, Label}
use Rattle.lx_forest.specs.Lookups.{has, spot, kind_of, parent_of, children_of, is_attached, holds, IsForest, IsHeld}
use Rattle.lx_forest.proofs.Edits.{is_some-spot}
use Rattle.lx_forest.proofs.Lookups.{is_among-children_of, has-parent_of, has-child}
use Rattle.lx_forest.proofs.Walks.{cases_option, is_attached-top}
use Rattle.lx_draft.specs.Selecting.{is_counted_in}
use Rattle.lx_blocks.specs.Blocks.{passes, is_at}

-- what may hold something is an element
holder : (outer inner : Kind) → may_hold outer inner ≡ true → is_element outer ≡ true
unfolding may_hold is_element
holder kinds.Text inner e = absurd (cc)
holder kinds.Tab inner e = absurd (cc)
holder kinds.Break inner e = absurd (cc)
holder kinds.Rule inner e = absurd (cc)
holder kinds.Embed inner e = absurd (cc)
holder outer inner e = refl

pub kind_known : (f : Forest) (k : ℕ) → has k f ≡ true → (kind : Kind) × (kind_of f k ≡ Some kind)
kind_known f k there = by_spot (spot f k) refl where
  by_spot : (s : Option (Spot Label)) → spot f k ≡ s → (kind : Kind) × (kind_of f k ≡ Some kind)
  by_spot None is = absurd (grind (arith, there, is, is_some-spot f k))
  by_spot (Some s) is = (s.label.kind, ap (λ o. option_map (λ l. l.kind) (option_map (λ x. x.label) o)) is)

-- every parent is an element
pub parents_are : (f : Forest) (q p : ℕ) → IsHeld may_hold f → parent_of f q ≡ Some p → is_counted_in point.Element (kind_of f p) ≡ true
parents_are f q p held up =
    let outer = kind_known f p (has-parent_of f q p up) in
    let inner = kind_known f q (has-child f q p up) in
    let may : may_hold outer.0 inner.0 ≡ true = sym (ap₂ (holds may_hold) outer.1 inner.1) ∙ held.each q p up in
    ap (is_counted_in point.Element) outer.1 ∙ holder outer.0 inner.0 may

-- what isn't an element has no children
pub no_children : (f : Forest) (k : ℕ) → IsForest f → IsHeld may_hold f → is_at is_element f k ≡ false → children_of f k ≡ []
no_children f k h held leaf = by_children (children_of f k) refl where
  by_children : (ks : List ℕ) → children_of f k ≡ ks → children_of f k ≡ []
  by_children [] is = is
  by_children (c ∷ ks) is =
      let among : is_among c (children_of f k) ≡ true = ap (is_among c) is ∙ grind (arith, eqb_tells c c) in
      let named : is_named (parent_of f c) k ≡ true = sym (is_among-children_of f c k h) ∙ among in
      let up : parent_of f c ≡ Some k = grind (arith, named, is_named_tells (parent_of f c) k) in
      absurd (bad (kind_of f k) leaf (parents_are f c k held up)) where
        bad : (o : Option Kind) → passes is_element o ≡ false → is_counted_in point.Element o ≡ true → ⊥
        bad None a b = cc
        bad (Some kind) a b = cc

-- an element counts children, and a text characters
pub element_counts : (o : Option Kind) → passes is_element o ≡ true → is_counted_in point.Element o ≡ true
element_counts None e = cc
element_counts (Some kind) e = e

pub text_counts : (o : Option Kind) → passes is_text o ≡ true → is_counted_in point.Text o ≡ true
unfolding is_text has_characters
text_counts None e = cc
text_counts (Some kinds.Text) e = refl
text_counts (Some kind) e = absurd (cc)

-- what has characters is no element
pub characters_no_element : (o : Option Kind) → is_counted_in point.Text o ≡ true → passes is_element o ≡ false
unfolding has_characters is_element
characters_no_element None e = refl
characters_no_element (Some kinds.Text) e = refl
characters_no_element (Some kinds.Tab) e = refl
characters_no_element (Some kind) e = absurd (cc)

-- what is in the tree and isn't the root has a parent
pub above_attached : (f : Forest) (k : ℕ) → IsForest f → is_attached f k ≡ true → k ≢ 0 → (p : ℕ) × (parent_of f k ≡ Some p)
above_attached f k h place other =
    elim (cases_option (parent_of f k)) [
      | inl none ↦ absurd (grind (arith, place, is_attached-top f k h none other))
      | inr (p, up) ↦ (p, up)
    ]
