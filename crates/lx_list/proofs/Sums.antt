-- Sums over the nodes of a tree, by the children of each. Of the children of nodes only those of lists are items.
use Rattle.std.proofs.Common.{◌≡◌, ◌∙◌, ℕ, ◌+◌, ◌<◌, Bool, true, false, cond, List, [], ◌∷◌, ◌++◌, Option, None, Some, refl, sym, ap, ap₂, arith, inl, inr}
use Rattle.std.specs.Prelude.{option_map, sum_by, filter}
use Rattle.std.proofs.lemmas.List.Sums.{sum_by-cons, sum_by-append}
use Rattle.std.proofs.lemmas.Bool.{cases_Bool}
use Rattle.std.proofs.lemmas.Bool.Decides.{eqb_tells}
use Rattle.lx_trees.specs.Trees.{nil, tree}
use Rattle.lx_trees.specs.NamedTrees as named
use Rattle.lx_trees.specs.Siblings.{is_among}
use Rattle.lx_trees.specs.Spots.{Spot, spot_below, children_at}
use Rattle.lx_node.specs.Kinds.{may_hold, is_list, is_item, is_block, is_inline, is_paragraph, is_heading, is_row, is_cell, is_link}
use Rattle.lx_node.specs.declared.kind.Kind.{Kind}
use Rattle.lx_node.specs.declared.kind.Kind.TheVariants.{List as ListKind, Item, Root}
use Rattle.lx_trees.proofs.NamedTrees.{names-alone}
use Rattle.lx_trees.proofs.Spots.{spot_below-absent}
use Rattle.lx_forest.specs.Forest.{Forest, Label}
use Rattle.lx_forest.specs.Lookups.{key_of, count, alone, spot, parent_of, children_of, is_attached, preorder, holds, IsForest, IsHeld}
use Rattle.lx_forest.specs.Weights.{own_weight, weight_in}
use Rattle.lx_forest.proofs.Edits.{has-root}
use Rattle.lx_forest.proofs.Lookups.{has-child, has-parent_of}
use Rattle.lx_forest.proofs.Walks.{spot_in_tree, tree_distinct}
use Rattle.lx_blocks.specs.Blocks.{passes, is_at}
use Rattle.lx_list.proofs.Itemless.{spot_known}

-- ---- a sum over all keys is one over the first trees' and one over the children of each

below_sum : (g : ℕ → ℕ) (children : ℕ → List ℕ) (r : Option ℕ) (t : Forest) → ((q : ℕ) → count q t < 2)
    → ((q : ℕ) (s : Spot Label) → spot_below key_of r t q ≡ Some s → children q ≡ s.children)
    → sum_by g (named.preorder key_of t) ≡ sum_by g (named.names key_of t) + sum_by (λ k. sum_by g (children k)) (named.preorder key_of t)
below_sum g children r nil once told = refl
below_sum g children r (tree l below rest) once told =
    let own : sum_by g (children l.key) ≡ sum_by g (named.names key_of below) =
    ap (sum_by g) (told l.key (record { label = l; parent = r; children = named.names key_of below }) (grind (arith, eqb_tells l.key l.key))) in
    let inner =
    below_sum g children (Some l.key) below (λ q. omega (arith, once q))
    (λ q s e. told q s (grind (arith, e, once q, eqb_tells l.key q, spot_below-absent key_of (Some l.key) below q))) in
    let outer =
    below_sum g children r rest (λ q. omega (arith, once q))
    (λ q s e. told q s (grind (arith, e, once q, eqb_tells l.key q, spot_below-absent key_of (Some l.key) below q, spot_below-absent key_of r rest q))) in
    omega (
      arith,
      own,
      inner,
      outer,
      sum_by-cons g l.key (named.preorder key_of below ++ named.preorder key_of rest),
      sum_by-append g (named.preorder key_of below) (named.preorder key_of rest),
      sum_by-cons g l.key (named.names key_of rest),
      sum_by-cons (λ k. sum_by g (children k)) l.key (named.preorder key_of below ++ named.preorder key_of rest),
      sum_by-append (λ k. sum_by g (children k)) (named.preorder key_of below) (named.preorder key_of rest),
    )

pub tree_sum : (g : ℕ → ℕ) (f : Forest) → IsForest f → sum_by g (preorder f) ≡ g 0 + sum_by (λ k. sum_by g (children_of f k)) (preorder f)
tree_sum g f h =
    let all = below_sum g (children_of f) None (alone 0 f) (tree_distinct f h) told in
    let first : sum_by g (named.names key_of (alone 0 f)) ≡ g 0 =
    ap (sum_by g) (names-alone key_of 0 f (grind (arith, h.once 0, has-root f h))) ∙ omega (arith, sum_by-cons g 0 []) in
    omega (arith, all, first)
  where
    told : (q : ℕ) (s : Spot Label) → spot_below key_of None (alone 0 f) q ≡ Some s → children_of f q ≡ s.children
    told q s e = by_attached (is_attached f q) (sym (spot_in_tree f q h) ∙ e) where
      by_attached : (b : Bool) → cond b (spot f q) None ≡ Some s → children_of f q ≡ s.children
      by_attached true e = ap children_at e
      by_attached false e = absurd (cc)

-- what weighs nothing may be left out
pub filtered_sum : (h : ℕ → ℕ) (p : ℕ → Bool) (ks : List ℕ) → ((k : ℕ) → p k ≡ false → h k ≡ 0) → sum_by h (filter p ks) ≡ sum_by h ks
filtered_sum h p [] none = refl
filtered_sum h p (k ∷ ks) none =
    elim (cases_Bool (p k)) [
      | inl passes ↦ rw passes (omega (arith, sum_by-cons h k ks, sum_by-cons h k (filter p ks), filtered_sum h p ks none))
      | inr fails ↦ rw fails (omega (arith, sum_by-cons h k ks, none k fails, filtered_sum h p ks none))
    ]

pub zero_sum : (h : ℕ → ℕ) (ks : List ℕ) → ((k : ℕ) → is_among k ks ≡ true → h k ≡ 0) → sum_by h ks ≡ 0
zero_sum h [] none = refl
zero_sum h (k ∷ ks) none = omega (arith, sum_by-cons h k ks, none k (grind (arith, eqb_tells k k)), zero_sum h ks (λ q among. none q (grind (arith, among))))

-- ---- items weigh, and nothing else does

-- what an item weighs, and what other nodes do
abbrev pub weighed : (Label → ℕ) → Label → ℕ
weighed of l = cond (is_item l.kind) (of l) 0

held_item : (outer inner : Kind) → is_item inner ≡ true → may_hold outer inner ≡ true → is_list outer ≡ true
unfolding is_list is_item is_block is_inline is_paragraph is_heading is_row is_cell is_link may_hold
held_item (ListKind type) Item is may = refl
held_item outer Item is may = absurd (cc)
held_item outer inner is may = absurd (cc)

weighs_nothing : (of : Label → ℕ) (l : Label) → is_item l.kind ≡ false → weighed of l ≡ 0
weighs_nothing of l not_it = ap (λ b. cond b (of l) 0) not_it

pub light_child : (of : Label → ℕ) (f : Forest) (k q : ℕ) → IsHeld may_hold f → is_at is_list f k ≡ false → parent_of f q ≡ Some k → own_weight (weighed of) f q ≡ 0
light_child of f k q held other up =
    let kind : Option (Spot Label) → Option Kind = λ o. option_map (λ (l : Label). l.kind) (option_map (λ (s : Spot Label). s.label) o) in
    let outer = spot_known f k (has-parent_of f q k up) in
    let inner = spot_known f q (has-child f q k up) in
    let is : is_list outer.0.label.kind ≡ false = sym (ap (λ o. passes is_list (kind o)) outer.1) ∙ other in
    let may : may_hold outer.0.label.kind inner.0.label.kind ≡ true = sym (ap₂ (λ o p. holds may_hold (kind o) (kind p)) outer.1 inner.1) ∙ held.each q k up in
    let not_it : is_item inner.0.label.kind ≡ false = not_item outer.0.label.kind inner.0.label.kind is may in
    ap (λ o. weight_in (weighed of) (option_map (λ (s : Spot Label). s.label) o)) inner.1 ∙ weighs_nothing of inner.0.label not_it
  where
    not_item : (outer inner : Kind) → is_list outer ≡ false → may_hold outer inner ≡ true → is_item inner ≡ false
    not_item outer inner is may =
        elim (cases_Bool (is_item inner))
        [ inl item ↦ (let a_list : is_list outer ≡ true = held_item outer inner item may in absurd (cc)) | inr not_it ↦ not_it ]

pub light_root : (of : Label → ℕ) (f : Forest) → IsForest f → own_weight (weighed of) f 0 ≡ 0
unfolding is_item
light_root of f h = by_spot (spot f 0) refl where
  by_kind : (l : Label) → Some l.kind ≡ Some Root → weighed of l ≡ 0
  by_kind l root = let is : l.kind ≡ Root = cc in weighs_nothing of l (ap is_item is)

  by_spot : (o : Option (Spot Label)) → spot f 0 ≡ o → own_weight (weighed of) f 0 ≡ 0
  by_spot None e = ap (λ o. weight_in (weighed of) (option_map (λ (s : Spot Label). s.label) o)) e
  by_spot (Some s) e =
      ap (λ o. weight_in (weighed of) (option_map (λ (s : Spot Label). s.label) o)) e
      ∙ by_kind s.label (sym (ap (λ (o : Option (Spot Label)). option_map (λ (l : Label). l.kind) (option_map (λ (t : Spot Label). t.label) o)) e) ∙ h.root)
