-- Which heading has a node at or below it.
use Rattle.std.proofs.Common.{◌≡◌, ◌∙◌, ℕ, Bool, true, false, ◌&&◌, eqb, List, [], ◌∷◌, Some, inl, inr, refl, sym, ap, arith}
use Rattle.std.proofs.lemmas.Bool.{cases_eq}
use Rattle.std.proofs.lemmas.Bool.Decides.{eqb_tells}
use Rattle.lx_node.specs.Kinds.{is_inline}
use Rattle.lx_trees.specs.Siblings.{is_named}
use Rattle.lx_node.specs.declared.kind.Kind.{Kind}
use Rattle.lx_node.specs.declared.kind.Kind.TheVariants as kind
use Rattle.lx_forest.specs.Forest.{Forest}
use Rattle.lx_forest.specs.Lookups.{has, kind_of, parent_of, is_within, IsForest}
use Rattle.lx_forest.proofs.Tops.{is_within-child}
use Rattle.lx_forest.proofs.Within.{is_within-leaf}
use Rattle.lx_links.specs.Stands.{Sound}
use Rattle.lx_outline.specs.declared.event.Event.{Event}
use Rattle.lx_outline.specs.Reading.{key_in, is_named_in, if_heading, over_link, holder_by, heading_over, heading_by, heading_of, is_over_one}
use Rattle.lx_outline.proofs.HeadingText.{IsInline, below_heading, below_inline}

inline_by : (f : Forest) (q : ℕ) (k : Kind) → is_inline k ≡ true → heading_by f q (Some k) ≡ heading_over f (parent_of f q)
unfolding is_inline
inline_by f q (kind.Heading level) e = absurd (cc)
inline_by f q other e = refl

inline_over : (f : Forest) (q : ℕ) → IsInline f q → heading_of f q ≡ heading_over f (parent_of f q)
inline_over f q inline = ap (heading_by f q) inline.kind_is ∙ inline_by f q inline.kind inline.inline

leaf_only : (a b : Bool) → (a && b) ≡ true → a ≡ true
leaf_only true b e = refl
leaf_only false b e = e

-- what is in the tree of a heading has that one at or above it
pub over_is : (f : Forest) (q r level : ℕ) → Sound f → IsForest f → kind_of f q ≡ Some (kind.Heading level) → is_within f q r ≡ true → heading_of f r ≡ Some q
over_is f q r level s h is inside = elim (cases_eq r q) [
  | inl own ↦ ap (heading_of f) own ∙ ap (heading_by f q) is
  | inr other ↦
      let first = is_within-child f q r h inside other in
      let child : IsInline f first.child = below_heading f q first.child level s is first.up in
      elim (cases_eq r first.child) [
        | inl own ↦
            ap (heading_of f) own ∙ inline_over f first.child child ∙ ap (heading_over f) first.up ∙ ap (holder_by f q) is
        | inr deeper ↦
            let second = is_within-child f first.child r h first.inside deeper in
            let link = below_inline f first.child second.child s child second.up in
            let leaf : (eqb r second.child && has second.child f) ≡ true = sym (is_within-leaf f second.child r h link.childless) ∙ second.inside in
            elim (eqb_tells r second.child) [
              | inl same ↦
                  ap (heading_of f) same.1 ∙ inline_over f second.child link.child ∙ ap (heading_over f) second.up ∙ ap (holder_by f first.child) link.link
                  ∙ ap (over_link f) first.up ∙ ap (if_heading q) is
              | inr none ↦ absurd (let e = leaf_only (eqb r second.child) (has second.child f) leaf in let g = none.0 in cc)
            ]
      ]
]

-- a heading with a node of an event in its tree is over one
pub over_from : (f : Forest) (events : List Event) (r q : ℕ) → is_named_in events r ≡ true → heading_of f r ≡ Some q → is_over_one f events q ≡ true
over_from f [] r q e is = absurd (cc)
over_from f (event ∷ events) r q e is = elim (eqb_tells (key_in event) r) [
  | inl same ↦
      let own : is_named (heading_of f (key_in event)) q ≡ true = ap (λ o. is_named o q) (ap (heading_of f) same.1 ∙ is) ∙ grind (arith, eqb_tells q q) in
      grind (arith, own)
  | inr other ↦ grind (arith, over_from f events r q (grind (arith, e, other.0)) is)
]
