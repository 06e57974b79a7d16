-- The node right before one in preorder: the last one in the tree of its previous sibling, or its parent.
use Rattle.std.proofs.Common.{◌≡◌, ◌≢◌, ◌∙◌, inl, inr, ℕ, ◌<◌, suc, true, List, [], ◌∷◌, ◌++◌, Option, None, Some, refl, sym, ap, arith, append_assoc, subst, IfSome, IfNone}
use Rattle.std.specs.Prelude.{slice_get}
use Rattle.std.proofs.lemmas.List.{append-nil}
use Rattle.std.proofs.lemmas.Bool.{cases_eq, false≢true}
use Rattle.std.proofs.lemmas.Bool.Decides.{eqb_tells}
use Rattle.lx_trees.specs.Trees.{tree, nil}
use Rattle.lx_trees.specs.NamedTrees as named
use Rattle.lx_trees.specs.NamedTrees.{total}
use Rattle.lx_trees.specs.Siblings.{is_among, is_named, NoRepeats, first_of, last_of, next_in, previous_in}
use Rattle.lx_trees.specs.Spots.{Spot}
use Rattle.lx_trees.proofs.NamedTrees.{joined-nil, preorder-joined, is_among-preorder}
use Rattle.lx_trees.proofs.Positions.{place_in, is_among-slice_get, next_in-slice_get, slice_get-place_in, StepsBack, previous_in-place}
use Rattle.lx_trees.proofs.Siblings.{is_none-previous_in, is_among-append, is_named_tells}
use Rattle.lx_forest.specs.Forest.{Forest, Label}
use Rattle.lx_forest.specs.Lookups.{key_of, has, alone, trees_of, spot, parent_of, children_of, children_below, first_child, last_child, previous_of, next_of, is_attached, keys_within, preorder, from, behind, IsForest}
use Rattle.lx_forest.proofs.Lookups.{is_among-children_of, NoRepeats-children_of, alone-spot, key-label_of, has-child}
use Rattle.lx_forest.proofs.Siblings.{parent_of-previous}
use Rattle.lx_forest.proofs.Walks.{cases_option, is_attached-up, is_attached-top, is_among-preorder_of, NoRepeats-preorder_of, from-root, from-child, behind-next, total-alone-lt}
use Rattle.lx_forest.proofs.Within.{is_within-self}
use Rattle.lx_links.specs.Stands.{Sound}
use Rattle.lx_links.proofs.Placed.{parent_of-child}
use Rattle.lx_links.proofs.Up.{in_order, in_order_at, attached_up}
use Rattle.lx_trees.proofs.Edits.{is_some-spot}
use Rattle.lx_node.specs.declared.cause.Point.{Point}
use Rattle.lx_node.specs.declared.cause.PointKind.TheVariants as point
use Rattle.lx_blocks.specs.Places.{until, from_child, behind_place, nodes_behind, nodes_up_to}
use Rattle.lx_blocks.specs.Walks.{nodes_before, node_before}
use Rattle.lx_blocks.proofs.Until.{until_ahead, until_front, no_repeats_front, last_append, last_none, last_among, last_splits}
use Rattle.lx_blocks.proofs.Stretches.{stretches_through, before_and_from, before_is, first_from}
use Rattle.lx_blocks.proofs.Steps.{attached_there, in_order_with}

-- ---- the last node of a tree

-- a node that is there is in its own tree
in_own_tree : (f : Forest) (c : ℕ) → is_among c (keys_within f c) ≡ has c f
in_own_tree f c = is_among-preorder key_of c (alone c f) ∙ is_within-self f c

last_there : (xs : List ℕ) (q : ℕ) → is_among q xs ≡ true → (l : ℕ) × (last_of xs ≡ Some l)
last_there xs q e = elim (cases_option (last_of xs)) [
  | inl none ↦ absurd (false≢true (sym (ap (is_among q) (last_none xs none)) ∙ e))
  | inr (l, some) ↦ (l, some)
]

-- the last node of trees is that of the last tree
last_in_trees : (f : Forest) (ks : List ℕ) (c l : ℕ) → last_of ks ≡ Some c → last_of (keys_within f c) ≡ Some l
    → last_of (named.preorder key_of (trees_of f ks)) ≡ Some l
last_in_trees f [] c l e last = absurd (grind arith)
last_in_trees f (k ∷ []) c l e last =
    let is : k ≡ c = grind arith in
    ap (λ t. last_of (named.preorder key_of t)) (joined-nil (alone k f)) ∙ ap (λ x. last_of (keys_within f x)) is ∙ last
last_in_trees f (k ∷ y ∷ ks) c l e last =
    ap last_of (preorder-joined key_of (alone k f) (trees_of f (y ∷ ks)))
    ∙ last_append (keys_within f k) (named.preorder key_of (trees_of f (y ∷ ks))) l (last_in_trees f (y ∷ ks) c l e last)

no_children : (f : Forest) (q : ℕ) → spot f q ≡ None → children_of f q ≡ []
no_children f q e = grind (arith, e)

last_below : (f : Forest) (q c l : ℕ) (s : Spot Label) → IsForest f → spot f q ≡ Some s → last_child f q ≡ Some c → last_of (keys_within f c) ≡ Some l
    → last_of (keys_within f q) ≡ Some l
last_below f q c l s h at e last =
    let is : children_of f q ≡ s.children = grind (arith, at) in
    ap (λ t. last_of (named.preorder key_of t)) (alone-spot f q s h at)
    ∙ ap (λ ks. last_of (key_of s.label ∷ ks)) (append-nil (named.preorder key_of (trees_of f s.children)))
    ∙ last_append (key_of s.label ∷ []) (named.preorder key_of (trees_of f s.children)) l (last_in_trees f s.children c l (sym (ap last_of is) ∙ e) last)

-- the last node of a tree is that of the tree of the last child
last_down : (f : Forest) (q c : ℕ) → IsForest f → has c f ≡ true → last_child f q ≡ Some c → last_of (keys_within f q) ≡ last_of (keys_within f c)
last_down f q c h there e =
    let last = last_there (keys_within f c) c (in_own_tree f c ∙ there) in
    elim (cases_option (spot f q)) [
      | inl none ↦ absurd (grind (arith, e, ap last_of (no_children f q none)))
      | inr (s, at) ↦ last_below f q c last.0 s h at e last.1 ∙ sym last.1
    ]

-- and of one without children, itself
last_alone : (f : Forest) (q : ℕ) → IsForest f → has q f ≡ true → last_child f q ≡ None → last_of (keys_within f q) ≡ Some q
last_alone f q h there e =
    elim (cases_option (spot f q)) [
      | inl none ↦ absurd (grind (arith, none, there, is_some-spot key_of f q))
      | inr (s, at) ↦
          let is : s.children ≡ [] = sym (grind (arith, at)) ∙ last_none (children_of f q) e in
          let own : key_of s.label ≡ q = key-label_of f q s.label (grind (arith, at)) in
          ap (λ t. last_of (named.preorder key_of t)) (alone-spot f q s h at ∙ ap (λ ks. tree s.label (trees_of f ks) nil) is) ∙ ap (λ x. Some x) own
    ]

-- ---- the node before

-- the name after the previous one
next_back : (xs : List ℕ) (k m : ℕ) → NoRepeats xs → previous_in xs k ≡ Some m → is_among k xs ≡ true → next_in xs m ≡ Some k
next_back xs k m u e there =
    let back : StepsBack xs k m = previous_in-place xs k m u e in
    let step : suc (place_in xs m) ≡ place_in xs k = omega (arith, back.place) in
    next_in-slice_get xs m (place_in xs m) u (slice_get-place_in xs m back.among) ∙ ap (slice_get xs) step ∙ slice_get-place_in xs k there

-- what is known of a previous sibling
record IsPrevious (f : Forest) (k p : ℕ) : Type 0 where
  attached : is_attached f p ≡ true
  behind : behind f p ≡ from f k

previous_is : (f : Forest) (k p : ℕ) → IsForest f → is_attached f k ≡ true → previous_of f k ≡ Some p → IsPrevious f k p
previous_is f k p h attached e =
    elim (cases_option (parent_of f k)) [
      | inl none ↦ absurd (grind (arith, rw none at e))
      | inr (r, up) ↦
          let among : is_among k (children_of f r) ≡ true = is_among-children_of f k r h ∙ grind (arith, up, eqb_tells r r) in
          let before : previous_in (children_of f r) k ≡ Some p = rw up at e in
          let above : parent_of f p ≡ Some r = parent_of-previous f k p r h up e in
          let there : is_attached f p ≡ true = is_attached-up f p r h above ∙ sym (is_attached-up f k r h up) ∙ attached in
          let next : next_of f p ≡ Some k =
          ap (λ o. next_in (children_below f o) p) above ∙ next_back (children_of f r) k p (NoRepeats-children_of f r h) before among in
          record { attached = there; behind = behind-next f p k h there next }
    ]

-- after the tree of the previous sibling
before_sibling : (f : Forest) (k p l : ℕ) → IsForest f → is_attached f k ≡ true → previous_of f k ≡ Some p → last_of (keys_within f p) ≡ Some l
    → Some l ≡ node_before f k
before_sibling f k p l h attached e last =
    let is = previous_is f k p h attached e in
    let split : preorder f ≡ (nodes_before f p ++ keys_within f p) ++ from f k =
    stretches_through f p h is.attached ∙ ap (λ ks. (nodes_before f p ++ keys_within f p) ++ ks) is.behind in
    sym (ap last_of (before_is f k (nodes_before f p ++ keys_within f p) h attached split) ∙ last_append (nodes_before f p) (keys_within f p) l last)

first_named : (o : Option ℕ) (k : ℕ) → is_named o k ≡ true → o ≡ Some k
first_named o k e = elim (is_named_tells o k) [ inl own ↦ own.1 | inr other ↦ absurd (false≢true (sym other.0 ∙ e)) ]

-- of a first child, the parent
before_child : (f : Forest) (k r : ℕ) → IsForest f → is_attached f k ≡ true → parent_of f k ≡ Some r → previous_of f k ≡ None → Some r ≡ node_before f k
before_child f k r h attached up e =
    let among : is_among k (children_of f r) ≡ true = is_among-children_of f k r h ∙ grind (arith, up, eqb_tells r r) in
    let none : previous_in (children_of f r) k ≡ None = rw up at e in
    let first : first_child f r ≡ Some k =
    first_named (first_child f r) k (sym (is_none-previous_in (children_of f r) k (NoRepeats-children_of f r h) among) ∙ grind (arith, none)) in
    let above : is_attached f r ≡ true = sym (is_attached-up f k r h up) ∙ attached in
    let split : preorder f ≡ (nodes_before f r ++ r ∷ []) ++ from f k =
    before_and_from f r h above ∙ ap (λ ks. nodes_before f r ++ ks) (from-child f r k h above first)
    ∙ sym (append_assoc (nodes_before f r) (r ∷ []) (from f k)) in
    sym (ap last_of (before_is f k (nodes_before f r ++ r ∷ []) h attached split) ∙ last_append (nodes_before f r) (r ∷ []) r refl)

-- and nothing is before the root
before_root : (f : Forest) (k : ℕ) → IsForest f → is_attached f k ≡ true → parent_of f k ≡ None → None ≡ node_before f k
before_root f k h attached up =
    elim (cases_eq k 0) [
      | inl root ↦
          let split : preorder f ≡ [] ++ from f k = sym (from-root f h) ∙ ap (from f) (sym root) in
          sym (ap last_of (before_is f k [] h attached split))
      | inr other ↦ absurd (false≢true (sym (is_attached-top f k h up other) ∙ attached))
    ]

by_parent : (f : Forest) (k : ℕ) (o : Option ℕ) → IsForest f → is_attached f k ≡ true → parent_of f k ≡ o → previous_of f k ≡ None → o ≡ node_before f k
by_parent f k None h attached up e = before_root f k h attached up
by_parent f k (Some r) h attached up e = before_child f k r h attached up e

before_first : (f : Forest) (k : ℕ) → IsForest f → is_attached f k ≡ true → previous_of f k ≡ None → parent_of f k ≡ node_before f k
before_first f k h attached e = by_parent f k (parent_of f k) h attached refl e

-- ---- a front of preorder and its last node

pub record IsLast (f : Forest) (front : List ℕ) (b : ℕ) : Type 0 where
  pub others : front ≡ nodes_before f b ++ b ∷ []
  pub attached : is_attached f b ≡ true

pub last_is : (f : Forest) (front back : List ℕ) (b : ℕ) → IsForest f → preorder f ≡ front ++ back → last_of front ≡ Some b → IsLast f front b
last_is f front back b h split last =
    let among : is_among b front ≡ true = elim (last_among None front b last) [ inl own ↦ absurd (grind arith) | inr there ↦ there ] in
    record {
      others =
          last_splits front b (no_repeats_front front back (subst NoRepeats split (NoRepeats-preorder_of f h))) last
          ∙ ap (λ ks. ks ++ b ∷ []) (sym (until_ahead b front back among) ∙ sym (ap (until (Some b)) split));
      attached = sym (is_among-preorder_of f b) ∙ ap (is_among b) split ∙ grind (arith, among, is_among-append b front back);
    }

-- ---- on the way down

pub record OneDown (f : Forest) (at child : ℕ) : Type 0 where
  pub there : has child f ≡ true
  pub last : last_of (keys_within f at) ≡ last_of (keys_within f child)
  pub smaller : total (alone child f) < total (alone at f)

last_child_among : (xs : List ℕ) (q : ℕ) → last_of xs ≡ Some q → is_among q xs ≡ true
last_child_among xs q e = elim (last_among None xs q e) [ inl own ↦ absurd (grind arith) | inr there ↦ there ]

pub one_down : (f : Forest) (at child : ℕ) → Sound f → last_child f at ≡ Some child → OneDown f at child
one_down f at child s e =
    let up : parent_of f child ≡ Some at = parent_of-child f child at s (last_child_among (children_of f at) child e) in
    let h = in_order f child at s up in
    record {
      there = has-child f child at up;
      last = last_down f at child h (has-child f child at up) e;
      smaller = total-alone-lt f child at h up;
    }

last_here : (f : Forest) (at : ℕ) → Sound f → has at f ≡ true → last_child f at ≡ None → last_of (keys_within f at) ≡ Some at
last_here f at s there e = last_alone f at (in_order_at f at s there) there e

none_if : (o : Option ℕ) → ((x : ℕ) → o ≢ Some x) → o ≡ None
none_if None no_such = refl
none_if (Some x) no_such = absurd (no_such x refl)

pub last_reached : (f : Forest) (at : ℕ) (o : Option ℕ) → Sound f → has at f ≡ true → o ≡ last_child f at → ((x : ℕ) → o ≢ Some x)
    → last_of (keys_within f at) ≡ Some at
last_reached f at o s there e no_such = last_here f at s there (sym e ∙ none_if o no_such)

-- ---- what a caller is answered

pub sibling_there : (f : Forest) (k p : ℕ) → Sound f → is_attached f k ≡ true → previous_of f k ≡ Some p → has p f ≡ true
sibling_there f k p s attached e = attached_there f p (previous_is f k p (in_order_with f k s attached) attached e).attached

pub sibling_before : (f : Forest) (k p l : ℕ) → Sound f → is_attached f k ≡ true → previous_of f k ≡ Some p → Some l ≡ last_of (keys_within f p)
    → Some l ≡ node_before f k
sibling_before f k p l s attached e last = before_sibling f k p l (in_order_with f k s attached) attached e (sym last)

pub parent_before : (f : Forest) (k : ℕ) (o : Option ℕ) → Sound f → is_attached f k ≡ true → previous_of f k ≡ None → o ≡ parent_of f k → o ≡ node_before f k
parent_before f k o s attached e up = up ∙ before_first f k (in_order_with f k s attached) attached e

before_last : (f : Forest) (k l : ℕ) → Sound f → is_attached f k ≡ true → Some l ≡ node_before f k → IsLast f (nodes_before f k) l
before_last f k l s attached e = let h = in_order_with f k s attached in last_is f (nodes_before f k) (from f k) l h (before_and_from f k h attached) (sym e)

pub before_others : (f : Forest) (k : ℕ) (o : Option ℕ) → Sound f → is_attached f k ≡ true → o ≡ node_before f k
    → IfSome o (λ b. nodes_before f k ≡ nodes_before f b ++ b ∷ [])
before_others f k None s attached e = tt
before_others f k (Some l) s attached e = (before_last f k l s attached e).others

pub before_attached : (f : Forest) (k : ℕ) (o : Option ℕ) → Sound f → is_attached f k ≡ true → o ≡ node_before f k → IfSome o (λ b. is_attached f b ≡ true)
before_attached f k None s attached e = tt
before_attached f k (Some l) s attached e = (before_last f k l s attached e).attached

pub before_none : (f : Forest) (k : ℕ) (o : Option ℕ) → o ≡ node_before f k → IfNone o (nodes_before f k ≡ [])
before_none f k None e = last_none (nodes_before f k) (sym e)
before_none f k (Some l) e = tt

-- ---- up to a point

-- all up to the end of a tree
pub tree_last : (f : Forest) (p : Point) (l : ℕ) → Sound f → is_attached f p.key ≡ true → nodes_behind f p ≡ behind f p.key
    → Some l ≡ last_of (keys_within f p.key) → IsLast f (nodes_up_to f p) l
tree_last f p l s attached is last =
    let h = in_order_with f p.key s attached in
    let front : List ℕ = nodes_before f p.key ++ keys_within f p.key in
    let split : preorder f ≡ front ++ behind f p.key = stretches_through f p.key h attached in
    let up_to : nodes_up_to f p ≡ front =
    ap (λ ks. until (first_of ks) (preorder f)) is ∙ ap (until (first_of (behind f p.key))) split
    ∙ until_front front (behind f p.key) (subst NoRepeats split (NoRepeats-preorder_of f h)) in
    subst (λ ks. IsLast f ks l) (sym up_to) (last_is f front (behind f p.key) l h split (last_append (nodes_before f p.key) (keys_within f p.key) l (sym last)))

-- all before a child
pub up_to_child : (f : Forest) (p : Point) (c : ℕ) → is_attached f c ≡ true → nodes_behind f p ≡ from f c → nodes_up_to f p ≡ nodes_before f c
up_to_child f p c attached is = ap (λ ks. until (first_of ks) (preorder f)) is ∙ ap (λ o. until o (preorder f)) (first_from f c attached)

pub behind_text : (f : Forest) (p : Point) → p.kind ≡ point.Text → nodes_behind f p ≡ behind f p.key
behind_text f p is = ap (behind_place f p.key p.offset) is

pub behind_children : (f : Forest) (p : Point) → p.kind ≡ point.Element → None ≡ slice_get (children_of f p.key) p.offset → nodes_behind f p ≡ behind f p.key
behind_children f p is none = ap (behind_place f p.key p.offset) is ∙ ap (from_child f p.key) (sym none)

pub from_there : (f : Forest) (p : Point) (c : ℕ) → p.kind ≡ point.Element → Some c ≡ slice_get (children_of f p.key) p.offset → nodes_behind f p ≡ from f c
from_there f p c is some = ap (behind_place f p.key p.offset) is ∙ ap (from_child f p.key) (sym some)

pub child_attached : (f : Forest) (q c i : ℕ) → Sound f → is_attached f q ≡ true → Some c ≡ slice_get (children_of f q) i → is_attached f c ≡ true
child_attached f q c i s attached at = attached_up f c q s (parent_of-child f c q s (is_among-slice_get (children_of f q) c i (sym at))) ∙ attached
