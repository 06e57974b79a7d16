-- Kinds that are one hold the same.
use Rattle.std.proofs.Common.{◌≡◌, ◌∙◌, ℕ, true, cond, eqb, refl, sym, ap}
use Rattle.lx_node.specs.Kinds.{is_element, may_hold}
use Rattle.lx_node.specs.declared.kind.Kind.{Kind}
use Rattle.lx_node.specs.declared.kind.Kind.TheVariants.{Root, Paragraph, Heading, Quote, List as ListKind, Item, Link, Table, Row, Cell, Embed}
use Rattle.lx_node.specs.declared.kind.ListType.TheVariants.{Bullet}
use Rattle.lx_step.specs.Types.{row_of}
use Rattle.lx_links.proofs.Ordered.{test_equal}
use Rattle.lx_rules.specs.Types.{same_kind}

-- kinds that are one are of one row
same_row : (a b : Kind) → same_kind a b ≡ true → row_of a ≡ row_of b
unfolding same_kind row_of
same_row (Heading level) (Heading other) e = refl
same_row (Heading level) b e = absurd (cc)
same_row (ListKind type) (ListKind other) e = refl
same_row (ListKind type) b e = absurd (cc)
same_row a b e = test_equal (row_of a) (row_of b) e

-- a kind of each row of elements, and a leaf for the others
first_kind : ℕ → Kind
first_kind row =
    cond (eqb row 0) Root (cond (eqb row 1) Paragraph (cond (eqb row 2) (Heading 1) (cond (eqb row 3) Quote (cond (eqb row 4) (ListKind Bullet)
    (cond (eqb row 5) Item (cond (eqb row 6) Link (cond (eqb row 7) Table (cond (eqb row 8) Row (cond (eqb row 9) Cell Embed)))))))))

hold_by_row : (a inner : Kind) → may_hold a inner ≡ may_hold (first_kind (row_of a)) inner
unfolding may_hold row_of first_kind
hold_by_row Root inner = refl
hold_by_row a inner = refl

element_by_row : (a : Kind) → is_element a ≡ is_element (first_kind (row_of a))
unfolding is_element row_of first_kind
element_by_row Root = refl
element_by_row a = refl

pub same_hold : (a b inner : Kind) → same_kind a b ≡ true → may_hold a inner ≡ may_hold b inner
same_hold a b inner e = hold_by_row a inner ∙ ap (λ r. may_hold (first_kind r) inner) (same_row a b e) ∙ sym (hold_by_row b inner)

pub same_element : (a b : Kind) → same_kind a b ≡ true → is_element a ≡ is_element b
same_element a b e = element_by_row a ∙ ap (λ r. is_element (first_kind r)) (same_row a b e) ∙ sym (element_by_row b)
