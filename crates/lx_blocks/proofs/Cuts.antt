-- What comes after a point, which trees hold the point, and which nodes between two points are below none of the others.
use Rattle.std.proofs.Common.{◌≡◌, ◌≢◌, ◌∙◌, inl, inr, ℕ, ◌+◌, ◌<◌, ◌≤◌, true, false, ◌||◌, not, List, ◌++◌, length, Option, None, Some, refl, sym, ap, arith, append_assoc}
use Rattle.std.specs.Prelude.{filter, option_map, unwrap_or, slice_get}
use Rattle.lx_trees.specs.Siblings.{is_among, first_of}
use Rattle.lx_trees.proofs.Siblings.{is_among-append}
use Rattle.lx_node.specs.declared.cause.Point.{Point}
use Rattle.lx_node.specs.declared.cause.PointKind.{PointKind}
use Rattle.lx_node.specs.declared.cause.PointKind.TheVariants as point
use Rattle.lx_trees.proofs.Positions.{is_among-slice_get}
use Rattle.lx_links.specs.Stands.{Sound}
use Rattle.lx_links.proofs.Placed.{parent_of-child}
use Rattle.lx_links.proofs.Up.{attached_up}
use Rattle.lx_forest.specs.Forest.{Forest}
use Rattle.lx_forest.specs.Lookups.{parent_of, children_of, is_within, is_attached, preorder, from, behind, keys_within, IsForest}
use Rattle.lx_forest.proofs.Lookups.{has-parent_of, has-child}
use Rattle.lx_forest.proofs.Walks.{is_attached-up, is_among-preorder_of}
use Rattle.lx_forest.proofs.Within.{is_within-self, is_within-up, is_within-trans, is_within-parent}
use Rattle.lx_blocks.specs.Places.{until, from_child, behind_place, nodes_behind, covered, stands_below, outermost}
use Rattle.lx_blocks.specs.Walks.{nodes_before}
use Rattle.lx_blocks.proofs.Steps.{attached_there, in_order_with}
use Rattle.lx_blocks.proofs.Until.{until_begins, filter_among, filter_alike}
use Rattle.lx_blocks.proofs.Stretches.{place, size, back_of, stretches_through, before_and_from, length_before, length_through, same_place, within_tells}

-- a place in preorder after a node: whose tree reaches over it holds the node
record IsCut (f : Forest) (s : ℕ) (back : List ℕ) : Type 0 where
  front : List ℕ
  split : preorder f ≡ front ++ back
  own : place f s < length front
  held : (p k : ℕ) → is_within f p k ≡ true → is_attached f p ≡ true → is_attached f k ≡ true → place f p < length front → length front ≤ place f k
      → is_within f p s ≡ true

-- a node below another comes after it
place_below : (f : Forest) (p k : ℕ) → IsForest f → is_attached f p ≡ true → is_attached f k ≡ true → is_within f p k ≡ true → k ≢ p → place f p < place f k
place_below f p k h there here inside other =
    elim (within_tells f p k h there here) [
      | inl low ↦
          let apart : place f p ≢ place f k = λ e. other (sym (same_place f p k there here e)) in
          omega (arith, low.1, apart)
      | inr out ↦ absurd (grind (arith, inside, out.0))
    ]

-- whose tree reaches over the place after a tree holds that one's node
held_behind : (f : Forest) (s p k : ℕ) → IsForest f → is_attached f s ≡ true → is_within f p k ≡ true → is_attached f p ≡ true → is_attached f k ≡ true
    → place f p < place f s + size f s → place f s + size f s ≤ place f k → is_within f p s ≡ true
held_behind f s p k h attached inside there here before behind =
    elim (within_tells f s p h attached there) [
      | inl lower ↦ elim (within_tells f s k h attached here) [
        | inl low ↦ absurd (omega (arith, low.2, behind))
        | inr far ↦ absurd (grind (arith, far.0, is_within-trans f s p k h lower.0 inside))
      ]
      | inr (out, inr past) ↦ absurd (omega (arith, past, before))
      | inr (out, inl ahead) ↦ elim (within_tells f p s h there attached) [
        | inl holds ↦ holds.0
        | inr (off, inl past) ↦ absurd (omega (arith, past, ahead))
        | inr (off, inr past) ↦ elim (within_tells f p k h there here) [
          | inl over ↦ absurd (omega (arith, over.2, past, behind))
          | inr far ↦ absurd (grind (arith, far.0, inside))
        ]
      ]
    ]

-- after a tree
cut_behind : (f : Forest) (s : ℕ) → IsForest f → is_attached f s ≡ true → IsCut f s (behind f s)
cut_behind f s h attached =
    let long : length (nodes_before f s ++ keys_within f s) ≡ place f s + size f s = length_through f s h attached in
    record {
      front = nodes_before f s ++ keys_within f s;
      split = stretches_through f s h attached;
      own = elim (within_tells f s s h attached attached) [
        | inl own ↦ omega (arith, own.2, long)
        | inr out ↦ absurd (grind (arith, out.0, is_within-self f s, attached_there f s attached))
      ];
      held = λ p k inside up low before behind. held_behind f s p k h attached inside up low (omega (arith, before, long)) (omega (arith, behind, long));
    }

-- whose tree reaches over the place before a child holds its parent
held_from : (f : Forest) (s c p k : ℕ) → IsForest f → is_attached f c ≡ true → parent_of f c ≡ Some s → is_within f p k ≡ true → is_attached f p ≡ true
    → is_attached f k ≡ true → place f p < place f c → place f c ≤ place f k → is_within f p s ≡ true
held_from f s c p k h attached up inside there here before behind =
    elim (within_tells f p c h there attached) [
      | inl holds ↦
          let other : c ≢ p = λ e. omega (arith, before, ap (place f) e) in
          sym (is_within-up f p c s h up other) ∙ holds.0
      | inr (off, inl past) ↦ absurd (omega (arith, past, before))
      | inr (off, inr past) ↦ elim (within_tells f p k h there here) [
        | inl over ↦ absurd (omega (arith, over.2, past, behind))
        | inr far ↦ absurd (grind (arith, far.0, inside))
      ]
    ]

-- a child isn't its parent, and is in its tree
not_parent : (f : Forest) (c s : ℕ) → IsForest f → parent_of f c ≡ Some s → c ≢ s
not_parent f c s h up e =
    absurd (grind (arith, is_within-parent f c s h up, ap (λ x. is_within f c x) e, is_within-self f c, has-child f c s up))

child_inside : (f : Forest) (c s : ℕ) → IsForest f → parent_of f c ≡ Some s → is_within f s c ≡ true
child_inside f c s h up = is_within-up f s c s h up (not_parent f c s h up) ∙ is_within-self f s ∙ has-parent_of f c s up

-- before a child
cut_from : (f : Forest) (s c : ℕ) → IsForest f → is_attached f c ≡ true → parent_of f c ≡ Some s → IsCut f s (from f c)
cut_from f s c h attached up =
    let long : length (nodes_before f c) ≡ place f c = length_before f c h attached in
    let above : is_attached f s ≡ true = sym (is_attached-up f c s h up) ∙ attached in
    record {
      front = nodes_before f c;
      split = before_and_from f c h attached;
      own = omega (arith, place_below f s c h above attached (child_inside f c s h up) (not_parent f c s h up), long);
      held = λ p k inside there here before behind. held_from f s c p k h attached up inside there here (omega (arith, before, long))
          (omega (arith, behind, long));
    }

-- ---- the nodes up to a stop

-- of a node in such a front, the parent is in it exactly where its tree doesn't hold the node of the cut
tie : (f : Forest) (s p k : ℕ) (xs ys zs : List ℕ) → IsForest f → preorder f ≡ xs ++ (ys ++ zs) → place f s < length xs → is_attached f s ≡ true
    → is_attached f p ≡ true → is_attached f k ≡ true → is_within f p k ≡ true → k ≢ p → is_among k ys ≡ true →
    (place f p < length xs → length xs ≤ place f k → is_within f p s ≡ true) → is_among p ys ≡ not (is_within f p s)
tie f s p k xs ys zs h split own attached there here inside other among held =
    let through : preorder f ≡ (xs ++ ys) ++ zs = split ∙ sym (append_assoc xs ys zs) in
    let later : place f p < place f k = place_below f p k h there here inside other in
    elim (back_of f xs (ys ++ zs) k h split here) [
      | inl no_k ↦ absurd (grind (arith, no_k.1, among, is_among-append k ys zs))
      | inr from_k ↦ elim (back_of f (xs ++ ys) zs k h through here) [
        | inr far_k ↦ absurd (grind (arith, far_k.0, among, is_among-append k xs ys))
        | inl up_to_k ↦ elim (back_of f xs (ys ++ zs) p h split there) [
          | inl ahead ↦
              let gone : is_among p ys ≡ false = grind (arith, ahead.1, is_among-append p ys zs) in
              gone ∙ sym (ap not (held ahead.2 from_k.2))
          | inr from_p ↦ elim (back_of f (xs ++ ys) zs p h through there) [
            | inr far_p ↦ absurd (omega (arith, far_p.2, up_to_k.2, later))
            | inl up_to_p ↦
                let is : is_among p ys ≡ true = grind (arith, from_p.0, up_to_p.0, is_among-append p xs ys) in
                elim (within_tells f p s h there attached) [
                  | inl holds ↦ absurd (omega (arith, holds.1, own, from_p.2))
                  | inr off ↦ is ∙ sym (ap not off.0)
                ]
          ]
        ]
      ]
    ]

among_tie : (f : Forest) (s p k : ℕ) (back : List ℕ) (end : Option ℕ) → IsForest f → IsCut f s back → is_attached f s ≡ true → parent_of f k ≡ Some p
    → is_among k (until end back) ≡ true → is_among p (until end back) ≡ not (is_within f p s)
among_tie f s p k back end h cut attached up among =
    let begins = until_begins end back in
    let split : preorder f ≡ cut.front ++ (until end back ++ begins.0) = cut.split ∙ ap (λ ks. cut.front ++ ks) begins.1 in
    let here : is_attached f k ≡ true =
    sym (is_among-preorder_of f k) ∙ ap (is_among k) split
    ∙ grind (arith, among, is_among-append k cut.front (until end back ++ begins.0), is_among-append k (until end back) begins.0) in
    let there : is_attached f p ≡ true = sym (is_attached-up f k p h up) ∙ here in
    let inside : is_within f p k ≡ true = child_inside f k p h up in
    tie f s p k cut.front (until end back) begins.0 h split cut.own attached there here inside (not_parent f k p h up) among (cut.held p k inside there here)

outer : (f : Forest) (s e p k : ℕ) (back : List ℕ) (end : Option ℕ) → IsForest f → IsCut f s back → is_attached f s ≡ true → parent_of f k ≡ Some p
    → is_among k (filter (λ k. not (is_within f k e)) (until end back)) ≡ true
    → not (is_among p (filter (λ k. not (is_within f k e)) (until end back))) ≡ (is_within f p s || is_within f p e)
outer f s e p k back end h cut attached up among =
    let some : is_among k (until end back) ≡ true = grind (arith, among, filter_among (λ k. not (is_within f k e)) (until end back) k) in
    grind (arith, filter_among (λ k. not (is_within f k e)) (until end back) p, among_tie f s p k back end h cut attached up some)

stands_outer : (f : Forest) (o : Option ℕ) (s e k : ℕ) (back : List ℕ) (end : Option ℕ) → IsForest f → IsCut f s back → is_attached f s ≡ true
    → parent_of f k ≡ o → is_among k (filter (λ k. not (is_within f k e)) (until end back)) ≡ true
    → not (stands_below o (filter (λ k. not (is_within f k e)) (until end back))) ≡ unwrap_or (option_map (λ p. is_within f p s || is_within f p e) o) true
stands_outer f None s e k back end h cut attached up among = refl
stands_outer f (Some p) s e k back end h cut attached up among = outer f s e p k back end h cut attached up among

outermost_is : (f : Forest) (start end : Point) → IsForest f → IsCut f start.key (nodes_behind f start) → is_attached f start.key ≡ true →
    filter (λ k. unwrap_or (option_map (λ p. is_within f p start.key || is_within f p end.key) (parent_of f k)) true) (covered f start end)
    ≡ outermost f (covered f start end)
outermost_is f start end h cut attached =
    sym (filter_alike (λ k. not (stands_below (parent_of f k) (covered f start end)))
    (λ k. unwrap_or (option_map (λ p. is_within f p start.key || is_within f p end.key) (parent_of f k)) true) (covered f start end)
    (λ k among. stands_outer f (parent_of f k) start.key end.key k (nodes_behind f start) (first_of (nodes_behind f end)) h cut attached refl among))

-- ---- the place of a point

cut_child : (f : Forest) (k i : ℕ) (o : Option ℕ) → Sound f → is_attached f k ≡ true → slice_get (children_of f k) i ≡ o → IsCut f k (from_child f k o)
cut_child f k i None s attached e = cut_behind f k (in_order_with f k s attached) attached
cut_child f k i (Some c) s attached e =
    let up : parent_of f c ≡ Some k = parent_of-child f c k s (is_among-slice_get (children_of f k) c i e) in
    cut_from f k c (in_order_with f k s attached) (attached_up f c k s up ∙ attached) up

cut_place : (f : Forest) (k offset : ℕ) (kind : PointKind) → Sound f → is_attached f k ≡ true → IsCut f k (behind_place f k offset kind)
cut_place f k offset point.Text s attached = cut_behind f k (in_order_with f k s attached) attached
cut_place f k offset point.Element s attached = cut_child f k offset (slice_get (children_of f k) offset) s attached refl

-- a covered node is below none of them exactly where its parent's tree holds a point
pub outer_tie : (f : Forest) (start end : Point) → Sound f → is_attached f start.key ≡ true →
    filter (λ k. unwrap_or (option_map (λ p. is_within f p start.key || is_within f p end.key) (parent_of f k)) true) (covered f start end)
    ≡ outermost f (covered f start end)
outer_tie f start end s attached =
    outermost_is f start end (in_order_with f start.key s attached) (cut_place f start.key start.offset start.kind s attached) attached
