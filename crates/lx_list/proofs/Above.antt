-- What holds an item is a list.
use Rattle.std.proofs.Common.{◌≡◌, ◌∙◌, ℕ, true, Option, None, Some, refl, sym, ap, ap₂, arith}
use Rattle.std.specs.Prelude.{option_map}
use Rattle.lx_trees.specs.Spots.{Spot}
use Rattle.lx_node.specs.Kinds.{may_hold, is_list, is_item, is_inline, is_block, is_link, is_row, is_cell, is_paragraph, is_heading}
use Rattle.lx_node.specs.declared.kind.Kind.{Kind}
use Rattle.lx_node.specs.declared.kind.Kind.TheVariants.{Root, Paragraph, Heading, Quote, List as ListKind, Item, Link, Table, Row, Cell}
use Rattle.lx_forest.specs.Forest.{Forest, Label}
use Rattle.lx_forest.specs.Lookups.{has, spot, kind_of, parent_of, holds, IsHeld}
use Rattle.lx_forest.proofs.Edits.{is_some-spot}
use Rattle.lx_forest.proofs.Lookups.{has-parent_of, has-child}
use Rattle.lx_blocks.specs.Blocks.{passes, is_at}

by_kinds : (outer inner : Kind) → is_item inner ≡ true → may_hold outer inner ≡ true → is_list outer ≡ true
unfolding may_hold is_list is_item is_inline is_block is_link is_row is_cell is_paragraph is_heading
by_kinds (ListKind type) inner is h = refl
by_kinds Root Item is h = absurd (cc)
by_kinds Paragraph Item is h = absurd (cc)
by_kinds (Heading level) Item is h = absurd (cc)
by_kinds Quote Item is h = absurd (cc)
by_kinds Item Item is h = absurd (cc)
by_kinds Link Item is h = absurd (cc)
by_kinds Table Item is h = absurd (cc)
by_kinds Row Item is h = absurd (cc)
by_kinds Cell Item is h = absurd (cc)
by_kinds outer Item is h = absurd (cc)
by_kinds outer inner is h = absurd (cc)

kind_known : (f : Forest) (k : ℕ) → has k f ≡ true → (kind : Kind) × (kind_of f k ≡ Some kind)
kind_known f k there = by_spot (spot f k) refl where
  by_spot : (s : Option (Spot Label)) → spot f k ≡ s → (kind : Kind) × (kind_of f k ≡ Some kind)
  by_spot None is = absurd (grind (arith, there, is, is_some-spot f k))
  by_spot (Some s) is = (s.label.kind, ap (λ o. option_map (λ l. l.kind) (option_map (λ x. x.label) o)) is)

-- the parent of an item is a list
pub list_above : (f : Forest) (x p : ℕ) → IsHeld may_hold f → is_at is_item f x ≡ true → parent_of f x ≡ Some p → is_at is_list f p ≡ true
list_above f x p held is up =
    let outer = kind_known f p (has-parent_of f x p up) in
    let inner = kind_known f x (has-child f x p up) in
    let may : may_hold outer.0 inner.0 ≡ true = sym (ap₂ (holds may_hold) outer.1 inner.1) ∙ held.each x p up in
    let item : is_item inner.0 ≡ true = sym (ap (passes is_item) inner.1) ∙ is in
    ap (passes is_list) outer.1 ∙ by_kinds outer.0 inner.0 item may
