-- Which nodes are kept from one tree to the next.
use Rattle.std.proofs.Common.{◌≡◌, ◌∙◌, ◌<◌, ℕ, true, false, List, [], ◌∷◌, Option, None, Some, option_map, inl, inr, refl, sym, ap, subst, arith, eq-eqb, eqb-true, append-nil}
use Rattle.std.proofs.lemmas.Option.{same_Some}
use Rattle.std.proofs.lemmas.Bool.Decides.{eqb_tells}
use Rattle.std.proofs.lemmas.Bool.{cases_eq}
use Rattle.lx_trees.specs.Trees.{nil, tree}
use Rattle.lx_trees.specs.Siblings.{is_among, is_named}
use Rattle.lx_trees.specs.Spots.{Spot, spot_below, parent_at}
use Rattle.lx_trees.proofs.Spots.{spot_below-absent, option_or-None}
use Rattle.lx_host.specs.declared.tag.Tag.{Tag}
use Rattle.lx_forest.specs.Forest.{Label, Forest}
use Rattle.lx_forest.specs.Lookups.{key_of, spot, count, has, label_of, parent_of, children_of, is_within, IsForest}
use Rattle.lx_forest.proofs.Edits.{has-root, parent_of-root}
use Rattle.lx_forest.proofs.Lookups.{is_among-children_of, has-child}
use Rattle.lx_forest.proofs.Within.{is_within-up, is_within-top}
use Rattle.lx_render.specs.Render.{tag_of}
use Rattle.lx_reconcile.specs.Allowed.{places_of, IsKept, kept_root, kept_below}

-- where a spot is, and as which tag
abbrev pub places_at : Option (Spot Label) → List (Option ℕ × Tag)
places_at None = []
places_at (Some s) = (s.parent, tag_of s.label.kind s.label.fields) ∷ []

pub places_of-absent : (q : ℕ) (r : Option ℕ) (f : Forest) → count q f ≡ 0 → places_of q r f ≡ []
places_of-absent q r nil e = refl
places_of-absent q r (tree l b t) e = grind (arith, e, places_of-absent q (Some l.key) b, places_of-absent q r t)

pub places_of-spot : (q : ℕ) (r : Option ℕ) (f : Forest) → count q f < 2 → places_of q r f ≡ places_at (spot_below key_of r f q)
places_of-spot q r nil once = refl
places_of-spot q r (tree l b t) once =
    grind (
      arith,
      eqb_tells l.key q,
      places_of-absent q (Some l.key) b,
      places_of-absent q r t,
      places_of-spot q (Some l.key) b,
      places_of-spot q r t,
      spot_below-absent key_of (Some l.key) b q,
      spot_below-absent key_of r t q,
      option_or-None (spot_below key_of (Some l.key) b q),
      append-nil (places_of q (Some l.key) b),
    )

-- what one place of a key says
pub record HasPlace (f : Forest) (q p : ℕ) (tag : Tag) : Type 0 where
  pub label : Label
  pub label_is : label_of f q ≡ Some label
  pub parent : parent_of f q ≡ Some p
  pub tag_is : tag_of label.kind label.fields ≡ tag

pub has_place : (f : Forest) (q p : ℕ) (tag : Tag) → IsForest f → places_of q None f ≡ (Some p, tag) ∷ [] → HasPlace f q p tag
has_place f q p tag h e = from_spot (spot f q) refl (sym (places_of-spot q None f (h.once q)) ∙ e) where
  from_spot : (o : Option (Spot Label)) → spot f q ≡ o → places_at o ≡ (Some p, tag) ∷ [] → HasPlace f q p tag
  from_spot None at is = absurd (cc)
  from_spot (Some s) at is =
      let pair : (s.parent, tag_of s.label.kind s.label.fields) ≡ (Some p, tag) = cc in
      record {
        label = s.label;
        label_is = ap (option_map (λ (s : Spot Label). s.label)) at;
        parent = ap parent_at at ∙ ap (λ (x : Option ℕ × Tag). x.0) pair;
        tag_is = ap (λ (x : Option ℕ × Tag). x.1) pair;
      }

-- a node above a kept one is kept
pub kept_up : (old new : Forest) (k q : ℕ) → IsForest new → IsKept old new q → is_within new k q ≡ true → IsKept old new k
kept_up old new k _ h kept_root inside = elim (cases_eq 0 k) [
  | inl same ↦ subst (IsKept old new) same kept_root
  | inr other ↦ absurd (let out = is_within-top new k 0 h (parent_of-root new h) other in cc)
]
kept_up old new k _ h (kept_below q p tag kept was is) inside = elim (cases_eq q k) [
  | inl same ↦ subst (IsKept old new) same (kept_below q p tag kept was is)
  | inr other ↦ kept_up old new k p h kept (sym (is_within-up new k q p h (has_place new q p tag h is).parent other) ∙ inside)
]

-- a kept node is in both trees
pub kept_there : (old new : Forest) (q : ℕ) → IsForest old → IsForest new → IsKept old new q → (has q old ≡ true) × (has q new ≡ true)
kept_there old new _ g h kept_root = (has-root old g, has-root new h)
kept_there old new _ g h (kept_below q p tag kept was is) = (
  has-child old q p (has_place old q p tag g was).parent,
  has-child new q p (has_place new q p tag h is).parent,
)

-- a kept child was a child of the same node, with the same tag
pub record WasChild (old new : Forest) (p c : ℕ) : Type 0 where
  pub among : is_among c (children_of old p) ≡ true
  pub tag : (x y : Label) → label_of old c ≡ Some x → label_of new c ≡ Some y → tag_of x.kind x.fields ≡ tag_of y.kind y.fields

label_tag : (f : Forest) (q p : ℕ) (tag : Tag) (x : Label) → HasPlace f q p tag → label_of f q ≡ Some x → tag_of x.kind x.fields ≡ tag
label_tag f q p tag x at e =
    let same : at.label ≡ x = same_Some at.label x (sym at.label_is ∙ e) in
    sym (ap (λ (l : Label). tag_of l.kind l.fields) same) ∙ at.tag_is

pub was_child : (old new : Forest) (p c : ℕ) → IsForest old → IsForest new → is_among c (children_of new p) ≡ true → IsKept old new c → WasChild old new p c
was_child old new p _ g h among kept_root =
    absurd (let named : is_named (parent_of new 0) p ≡ true = sym (is_among-children_of new 0 p h) ∙ among in
    let none = ap (λ o. is_named o p) (parent_of-root new h) in cc)
was_child old new p _ g h among (kept_below c up tag kept was is) =
    let before = has_place old c up tag g was in
    let after = has_place new c up tag h is in
    let named : is_named (parent_of new c) p ≡ true = sym (is_among-children_of new c p h) ∙ among in
    let same : p ≡ up = eqb-true p up (sym (ap (λ o. is_named o p) after.parent) ∙ named) in
    record {
      among = is_among-children_of old c p g ∙ ap (λ o. is_named o p) before.parent ∙ eq-eqb p up same;
      tag = λ x y was_x is_y. label_tag old c up tag x before was_x ∙ sym (label_tag new c up tag y after is_y);
    }

-- a child that wasn't one of the same node, or had another tag, isn't kept
pub not_kept_new : (old new : Forest) (p c : ℕ) → IsForest old → IsForest new → is_among c (children_of new p) ≡ true → is_among c (children_of old p) ≡ false
    → IsKept old new c → ⊥
not_kept_new old new p c g h among out kept = let was = (was_child old new p c g h among kept).among in cc

pub not_kept_tag : (old new : Forest) (p c : ℕ) (x y : Label) → IsForest old → IsForest new → is_among c (children_of new p) ≡ true → label_of old c ≡ Some x
    → label_of new c ≡ Some y
    → (tag_of x.kind x.fields ≡ tag_of y.kind y.fields → ⊥) → IsKept old new c → ⊥
not_kept_tag old new p c x y g h among was is other kept = other ((was_child old new p c g h among kept).tag x y was is)
