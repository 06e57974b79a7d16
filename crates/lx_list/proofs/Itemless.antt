-- Where a forest has no items, numbering does nothing.
use Rattle.std.proofs.Common.{◌≡◌, ◌∙◌, ℕ, Bool, true, false, List, [], ◌∷◌, Option, None, Some, Ok, refl, sym, ap, ap₂, arith, inl, inr}
use Rattle.std.specs.Prelude.{option_map, filter}
use Rattle.std.specs.Option.{option_or}
use Rattle.std.proofs.lemmas.Bool.Decides.{eqb_tells}
use Rattle.lx_trees.specs.Trees.{nil, tree}
use Rattle.lx_trees.specs.NamedTrees as named
use Rattle.lx_trees.specs.Spots.{Spot, spot_below}
use Rattle.lx_trees.specs.Siblings.{is_among}
use Rattle.lx_node.specs.Kinds.{may_hold, is_list, is_item}
use Rattle.lx_node.specs.declared.kind.Kind.{Kind}
use Rattle.lx_forest.specs.Forest.{Forest, Label}
use Rattle.lx_forest.specs.Lookups.{key_of, has, spot, fields_of, parent_of, children_of, preorder, holds, IsForest, IsHeld}
use Rattle.lx_forest.specs.Weights.{weight}
use Rattle.lx_forest.proofs.Edits.{is_some-spot}
use Rattle.lx_forest.proofs.Lookups.{has-parent_of, has-child}
use Rattle.lx_links.specs.Sums.{items_in}
use Rattle.lx_draft.specs.Working.{Working}
use Rattle.lx_draft.specs.Faults.{after}
use Rattle.lx_edit.specs.InTurn.{in_turn}
use Rattle.lx_blocks.specs.Blocks.{passes, is_at}
use Rattle.lx_blocks.proofs.Blocked.{kind_there, first_among}
use Rattle.lx_list.specs.Numbering.{list_start, numbered_from, list_numbered, number_step}
use Rattle.lx_list.proofs.Numbered.{parent_there, passes_filter}
use Rattle.lx_list.proofs.Kept.{held_below}

-- where all labels together weigh nothing, none of them does
unweighed : (of : Label → ℕ) (r : Option ℕ) (t : Forest) (q : ℕ) (s : Spot Label) → weight of t ≡ 0 → spot_below key_of r t q ≡ Some s → of s.label ≡ 0
unweighed of r nil q s none e = absurd (cc)
unweighed of r (tree l below rest) q s none e =
    elim (eqb_tells l.key q) [
      | inl own ↦
          let same : s ≡ record { label = l; parent = r; children = named.names key_of below } = grind (arith, e, own.0) in
          ap (λ (x : Spot Label). of x.label) same ∙ omega (arith, none)
      | inr other ↦
          let here : option_or (spot_below key_of (Some l.key) below q) (spot_below key_of r rest q) ≡ Some s = grind (arith, e, other.0) in
          by_first (spot_below key_of (Some l.key) below q) (unweighed of (Some l.key) below q s (omega (arith, none)))
          (unweighed of r rest q s (omega (arith, none))) refl here
    ]
  where
    by_first : (o : Option (Spot Label)) → (spot_below key_of (Some l.key) below q ≡ Some s → of s.label ≡ 0)
        → (spot_below key_of r rest q ≡ Some s → of s.label ≡ 0)
        → spot_below key_of (Some l.key) below q ≡ o → option_or o (spot_below key_of r rest q) ≡ Some s → of s.label ≡ 0
    by_first None below_it behind_it is e = behind_it e
    by_first (Some first) below_it behind_it is e = below_it (is ∙ e)

no_item : (l : Label) → items_in l ≡ 0 → is_item l.kind ≡ true → false ≡ true
no_item l none is = absurd (grind (arith, none, is))

pub spot_known : (f : Forest) (k : ℕ) → has k f ≡ true → (s : Spot Label) × (spot f k ≡ Some s)
spot_known f k there = by_spot (spot f k) refl where
  by_spot : (o : Option (Spot Label)) → spot f k ≡ o → (s : Spot Label) × (spot f k ≡ Some s)
  by_spot None is = absurd (grind (arith, there, is, is_some-spot f k))
  by_spot (Some s) is = (s, is)

-- what is an item or a list is there
pub there_at : (test : Kind → Bool) (f : Forest) (q : ℕ) → is_at test f q ≡ true → has q f ≡ true
there_at test f q is = kind_there test f q is

-- a child of a list is an item
pub item_below : (f : Forest) (list q : ℕ) → IsHeld may_hold f → is_at is_list f list ≡ true → parent_of f q ≡ Some list → is_at is_item f q ≡ true
item_below f list q held is_a_list up =
    let kind : Option (Spot Label) → Option Kind = λ o. option_map (λ (l : Label). l.kind) (option_map (λ (s : Spot Label). s.label) o) in
    let outer = spot_known f list (has-parent_of f q list up) in
    let inner = spot_known f q (has-child f q list up) in
    let is : is_list outer.0.label.kind ≡ true = sym (ap (λ o. passes is_list (kind o)) outer.1) ∙ is_a_list in
    let may : may_hold outer.0.label.kind inner.0.label.kind ≡ true =
    sym (ap₂ (λ o p. holds may_hold (kind o) (kind p)) outer.1 inner.1) ∙ held.each q list up in
    ap (λ o. passes is_item (kind o)) inner.1 ∙ held_below outer.0.label.kind inner.0.label.kind is may

-- a child of a list would be an item
no_child : (f : Forest) (list q : ℕ) → IsHeld may_hold f → weight items_in f ≡ 0 → is_at is_list f list ≡ true → parent_of f q ≡ Some list → false ≡ true
no_child f list q held none is_a_list up =
    let inner = spot_known f q (has-child f q list up) in
    let is : is_item inner.0.label.kind ≡ true =
    sym (ap (λ o. passes is_item (option_map (λ (l : Label). l.kind) (option_map (λ (s : Spot Label). s.label) o))) inner.1)
    ∙ item_below f list q held is_a_list up in
    no_item inner.0.label (unweighed items_in None f q inner.0 none inner.1) is

childless : (f : Forest) (list : ℕ) → IsForest f → IsHeld may_hold f → weight items_in f ≡ 0 → is_at is_list f list ≡ true → children_of f list ≡ []
childless f list h held none is_a_list = by_children (children_of f list) refl where
  by_children : (xs : List ℕ) → children_of f list ≡ xs → children_of f list ≡ []
  by_children [] is = is
  by_children (q ∷ rest) is =
      let among : is_among q (children_of f list) ≡ true = ap (is_among q) is ∙ first_among q rest in
      let clash : false ≡ true = no_child f list q held none is_a_list (parent_there f list q h among) in
      absurd (cc)

all_left : (w : Working) (lists : List ℕ) → ((list : ℕ) → is_among list lists ≡ true → children_of w.forest list ≡ []) → in_turn list_numbered lists w ≡ Ok w
unfolding in_turn numbered_from
all_left w [] none = refl
all_left w (list ∷ lists) none =
    ap (λ xs. after (numbered_from (list_start (fields_of w.forest list)) xs w) (in_turn list_numbered lists)) (none list (grind (arith, eqb_tells list list)))
    ∙ all_left w lists (λ other among. none other (grind (arith, among)))

pub number_itemless : (w : Working) → IsForest w.forest → IsHeld may_hold w.forest → weight items_in w.forest ≡ 0 → number_step w ≡ Ok w
unfolding number_step
number_itemless w h held none =
    all_left w (filter (is_at is_list w.forest) (preorder w.forest))
    (λ list among. childless w.forest list h held none (passes_filter (is_at is_list w.forest) (preorder w.forest) list among))
